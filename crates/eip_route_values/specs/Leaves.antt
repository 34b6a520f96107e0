-- What the single values of a route file say: texts, truth values, numbers, and the policy of redelivery. Where a value is of a wrong kind, the file has a fault, and the value here is a default.
use Rattle.std.specs.Prelude.{ℕ, ◌^◌, ℤ, pos, negsuc, Bool, nat_lt, List, [], ◌∷◌, Option, Some, None, option_map, if◌then◌else◌}
use Rattle.eip_text.specs.Json.{Json, whole, word, list, object, Items, no_items, item, Members}
use Rattle.eip_text.specs.Numbers.{whole_of}
use Rattle.eip_exchange.specs.declared.setting.Policy.{Policy}
use Rattle.eip_route_grammar.specs.Objects.{value_at, parameter_text, plainly}
use Rattle.eip_route_grammar.specs.declared.keys.Key.{Key}
use Rattle.eip_route_grammar.specs.declared.keys.Key.TheVariants as key

-- ---- members

-- the value of a key of an object
abbrev pub value_in : Key → Json → Option Json
value_in k (object ms) = value_at k ms
value_in k _ = None

-- the members of an object
abbrev pub members_of : Json → Option Members
members_of (object ms) = Some ms
members_of _ = None

abbrev pub members_given : Option Json → Option Members
members_given None = None
members_given (Some t) = members_of t

-- the members of the object that a key has as its value
abbrev pub members_at : Key → Members → Option Members
members_at k ms = members_given (value_at k ms)

-- the same of an object
abbrev pub members_in : Key → Json → Option Members
members_in k t = members_given (value_in k t)

-- ---- texts

abbrev pub text_of : Json → List ℕ
text_of (word w) = w
text_of _ = []

-- a text that may be absent
abbrev pub text_given : Option Json → List ℕ
text_given None = []
text_given (Some t) = text_of t

abbrev pub text_at : Key → Members → List ℕ
text_at k ms = text_given (value_at k ms)

-- a text, or an object that has it as its `expression`
abbrev pub expression_of : Json → List ℕ
expression_of (word w) = w
expression_of (object ms) = text_at key.Expression ms
expression_of _ = []

-- the text for which a text, number or truth value stands
abbrev pub scalar_given : Option Json → List ℕ
scalar_given None = []
scalar_given (Some t) = parameter_text t

-- the same, or an object that has it as its `expression`
abbrev pub constant_of : Json → List ℕ
constant_of (object ms) = scalar_given (value_at key.Expression ms)
constant_of t = parameter_text t

-- the texts of a list, or the one text
abbrev pub texts_of : Items → List (List ℕ)
texts_of no_items = []
texts_of (item t ts) = text_of t ∷ texts_of ts

abbrev pub exceptions_of : Json → List (List ℕ)
exceptions_of (list ts) = texts_of ts
exceptions_of t = text_of t ∷ []

abbrev pub exceptions_given : Option Json → List (List ℕ)
exceptions_given None = []
exceptions_given (Some t) = exceptions_of t

-- ---- truth values

-- a truth value, or the text of one, that may be absent
abbrev pub flag_given : Bool → Option Json → Bool
flag_given default None = default
flag_given default (Some t) = plainly (Some t)

abbrev pub flag_at : Bool → Key → Members → Bool
flag_at default k ms = flag_given default (value_at k ms)

-- ---- counts

-- a number below the limit, else 0
abbrev pub natural : ℕ → ℤ → ℕ
natural limit (pos n) = if nat_lt n limit then n else 0
natural limit (negsuc n) = 0

abbrev pub natural_given : ℕ → Option ℤ → ℕ
natural_given limit None = 0
natural_given limit (Some z) = natural limit z

-- a whole number, or the text of one
abbrev pub count_of : ℕ → Json → ℕ
count_of limit (whole z) = natural limit z
count_of limit (word w) = natural_given limit (whole_of w)
count_of limit _ = 0

-- of 32 bits
abbrev pub small_count_at : Key → Members → Option ℕ
small_count_at k ms = option_map (count_of (2 ^ 32)) (value_at k ms)

-- of 64 bits
abbrev pub count_at : Key → Members → Option ℕ
count_at k ms = option_map (count_of (2 ^ 64)) (value_at k ms)

-- ---- the policy of redelivery

abbrev pub no_policy : Policy
no_policy = record { maximum = None; delay = None; multiplier = None; backing_off = None; greatest = None }

abbrev pub policy_in : Members → Policy
policy_in ms = record {
  maximum = small_count_at key.MaximumRedeliveries ms;
  delay = count_at key.RedeliveryDelay ms;
  multiplier = count_at key.BackOffMultiplier ms;
  backing_off = option_map (λ t. plainly (Some t)) (value_at key.UseExponentialBackOff ms);
  greatest = count_at key.MaximumRedeliveryDelay ms;
}

abbrev pub policy_given : Option Members → Policy
policy_given None = no_policy
policy_given (Some ms) = policy_in ms

-- the policy of an object, or the one that gives nothing
abbrev pub policy_at : Members → Policy
policy_at ms = policy_given (members_at key.RedeliveryPolicy ms)
