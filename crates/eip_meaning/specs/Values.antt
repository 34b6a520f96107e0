-- The values of expressions, and messages with a part changed.
use Rattle.std.specs.Prelude.{ℕ, ◌-◌, Bool, false, cond, ltb, nat_le, List, [], ◌∷◌, length, codes, decimal, Option, Some, None, unwrap_or, slice_get}
use Rattle.eip_exchange.specs.Ends.{fault}
use Rattle.eip_exchange.specs.Headers.{get_header, put_header, without_header, is_one_too_many}
use Rattle.eip_exchange.specs.Pairs.{get_property, put_property}
use Rattle.eip_exchange.specs.declared.message.Message.{Message}
use Rattle.eip_exchange.specs.declared.end.Fault.{Fault}
use Rattle.eip_simple.specs.Views.{Seen}
use Rattle.eip_simple.specs.Values.{template_value}
use Rattle.eip_route.specs.declared.step.Expr.{Expr}
use Rattle.eip_route.specs.declared.step.Expr.TheVariants as expr
use Rattle.eip_route.specs.declared.route.Route.{Route}
use Rattle.eip_route.specs.declared.route.RouteSet.{RouteSet}
use Rattle.eip_frames.specs.declared.answer.Answer.{Answer as Reply}
use Rattle.eip_meaning.specs.declared.context.Context.{Context}
use Rattle.eip_meaning.specs.Outcomes.{Outcome, Goes, Faults, Runner}

abbrev pub id_in : Option Route → List ℕ
id_in None = []
id_in (Some r) = r.id

-- the id of the route with this index; a route that isn't there has none
abbrev pub id_of : RouteSet → ℕ → List ℕ
id_of set r = id_in (slice_get set.routes r)

-- what Simple sees of an exchange, of which this is the message
abbrev pub seen_in : RouteSet → Context → Message → Seen
seen_in set c m = record { message = m; number = c.number; route = id_of set c.route }

-- the value of an expression on a message; an absent header or property gives the empty text
abbrev pub value_of : RouteSet → Context → Expr → Message → List ℕ
value_of set c (expr.Simple template) m = template_value template (seen_in set c m)
value_of set c (expr.Constant text) m = text
value_of set c (expr.Header name) m = unwrap_or (get_header name m.headers) []
value_of set c (expr.Property name) m = unwrap_or (get_property name m.properties) []

-- a value of more than 65,536 bytes
abbrev pub is_too_long : List ℕ → Bool
is_too_long value = ltb 65536 (length value)

-- a value, unless it is too long
abbrev pub short : List ℕ → Option (List ℕ)
short value = cond (is_too_long value) None (Some value)

abbrev pub too_long : Fault
too_long = fault (codes "TooLong") []

-- what is done with a value; one that is too long is a fault
abbrev pub with_short : Option (List ℕ) → (List ℕ → List Reply → Outcome) → List Reply → Outcome
with_short None k A = Faults too_long false A
with_short (Some value) k A = k value A

abbrev pub with_key : Fault → List ℕ → (List ℕ → List Reply → Outcome) → List Reply → Outcome
with_key f [] k A = Faults f false A
with_key f (b ∷ bs) k A = k (b ∷ bs) A

-- what is done with a key: an empty one is the step's fault
abbrev pub with_short_key : Fault → Option (List ℕ) → (List ℕ → List Reply → Outcome) → List Reply → Outcome
with_short_key f value k A = with_short value (λ key A'. with_key f key k A') A

-- ---- messages

abbrev pub with_body : Message → List ℕ → Message
with_body m value = record m { body = value }

abbrev pub with_header : Message → List ℕ → List ℕ → Message
with_header m name value = record m { headers = put_header name value m.headers }

abbrev pub without_the_header : Message → List ℕ → Message
without_the_header m name = record m { headers = without_header name m.headers }

abbrev pub with_property : Message → List ℕ → List ℕ → Message
with_property m name value = record m { properties = put_property name value m.properties }

-- the body and the headers of another message, and the properties of its own
abbrev pub with_content : Message → Message → Message
with_content m new = record m { body = new.body; headers = new.headers }

-- a header is set, unless it is one too many
abbrev pub sets_header : List ℕ → List ℕ → Runner
sets_header name value m A = cond (is_one_too_many name m.headers) (Faults (fault (codes "TooManyHeaders") name) false A) (Goes (with_header m name value) A)

-- the message at the n-th try of a step, from 1
abbrev pub redelivered : Message → ℕ → Message
redelivered m n =
    cond (nat_le n 1) m (with_header (with_header m (codes "CamelRedelivered") (codes "true")) (codes "CamelRedeliveryCounter") (decimal (n - 1)))

-- the message of an exchange whose fault has no attempt left
abbrev pub caught_message : Message → Fault → Message
caught_message m f = with_property m (codes "CamelExceptionCaught") f.text

-- of an exchange whose key was met before
abbrev pub duplicate_message : Message → Message
duplicate_message m = with_property m (codes "CamelDuplicateMessage") (codes "true")
