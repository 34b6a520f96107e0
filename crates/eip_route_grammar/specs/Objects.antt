-- The keys of an object and their values: what is wrong with its keys alone, and with the object as a whole.
use Rattle.std.specs.Prelude.{ℕ, Bool, true, false, ◌||◌, ◌&&◌, List, [], ◌∷◌, ◌++◌, codes, bytes_eq, Option, Some, None, if◌then◌else◌}
use Rattle.std.specs.Fmt.{signed_decimal}
use Rattle.eip_text.specs.Json.{Json, null, flag, whole, float, word, list, object, Members, no_members, member}
use Rattle.eip_route_grammar.specs.Keys.{spelled, is_spelled}
use Rattle.eip_route_grammar.specs.Table.{rows, row_for, key_in, kind_in}
use Rattle.eip_route_grammar.specs.Causes.{or_else}
use Rattle.eip_route_grammar.specs.declared.fault.Cause.{Cause}
use Rattle.eip_route_grammar.specs.declared.fault.Cause.TheVariants as cause
use Rattle.eip_route_grammar.specs.declared.keys.Key.{Key}
use Rattle.eip_route_grammar.specs.declared.keys.Key.TheVariants as key
use Rattle.eip_route_grammar.specs.declared.table.Rule.TheVariants as rule
use Rattle.eip_route_grammar.specs.declared.table.Kind.{Kind}
use Rattle.eip_route_grammar.specs.declared.table.Kind.TheVariants as kind
use Rattle.eip_route_grammar.specs.declared.table.Row.{Row}
use Rattle.eip_route_grammar.specs.declared.table.Row.TheVariants as row
use Rattle.eip_route_grammar.specs.declared.table.Shape.{Shape}
use Rattle.eip_route_grammar.specs.declared.table.Shape.TheVariants as shape

-- ---- an object's own keys, in the order in which they stand

-- one of the keys of which an object has exactly one
abbrev pub is_one : Row → Bool
is_one (row.Must k v) = false
is_one (row.May k v) = false
is_one (row.One k v) = true

-- one key in two spellings, or two of which the object has one
abbrev pub clash : Row → Row → Bool
clash r s = bytes_eq (spelled (key_in r)) (spelled (key_in s)) || (is_one r && is_one s)

abbrev pub clashes : Row → List Row → Bool
clashes r [] = false
clashes r (s ∷ seen) = clash r s || clashes r seen

abbrev pub missed : Row → Option Cause
missed (row.Must k v) = Some (cause.MissingKey (spelled k))
missed (row.May k v) = None
missed (row.One k v) = Some (cause.MissingKey (codes "expression"))

-- the first key of the table that is wanted and wasn't seen
abbrev pub missing : List Row → List Row → Option Cause
missing seen [] = None
missing seen (r ∷ rs) = or_else (if clashes r seen then None else missed r) (missing seen rs)

abbrev pub known : Option Row → List ℕ → (Row → Option Cause) → Option Cause
known None k next = Some (cause.UnknownKey k)
known (Some r) k next = next r

-- the first key that the table lacks or that stands there already; else the first missing one
abbrev pub keyed : List Row → List Row → List (List ℕ) → Option Cause
keyed rs seen [] = missing seen rs
keyed rs seen (k ∷ ks) = known (row_for k rs) k (λ r. if clashes r seen then Some (cause.DoubleKey (spelled (key_in r))) else keyed rs (seen ++ r ∷ []) ks)

abbrev pub known_one : Option Row → Cause → Option Cause
known_one None c = Some c
known_one (Some r) c = None

-- one key, which the table has
abbrev pub one_key : List Row → (List ℕ → Cause) → List (List ℕ) → Option Cause
one_key rs unknown [] = Some cause.NotOneKey
one_key rs unknown (k ∷ []) = known_one (row_for k rs) (unknown k)
one_key rs unknown (k ∷ j ∷ ks) = Some cause.NotOneKey

abbrev pub is_note : List ℕ → Bool
is_note k = is_spelled key.Id k || is_spelled key.Description k

-- one key beside `id` and `description`, where one was met or not
abbrev pub one_aside : Bool → List (List ℕ) → Option Cause
one_aside met [] = if met then None else Some cause.NotOneKey
one_aside met (k ∷ ks) = if is_note k then one_aside met ks else (if met then Some cause.NotOneKey else one_aside true ks)

abbrev pub own_keys : Shape → List Row → List (List ℕ) → Option Cause
own_keys shape.Keyed rs ks = keyed rs [] ks
own_keys shape.Item rs ks = one_key rs (λ k. cause.UnknownKey k) ks
own_keys shape.Step rs ks = one_key rs (λ k. cause.UnknownStep k) ks
own_keys shape.Handler rs ks = or_else (one_aside false ks) (keyed rs [] ks)
own_keys shape.Free rs ks = None
own_keys shape.Closed rs ks = Some cause.WrongKind

abbrev pub keys_of : Members → List (List ℕ)
keys_of no_members = []
keys_of (member k t ms) = k ∷ keys_of ms

-- ---- an object's values

abbrev pub value_kind_in : Option Row → Kind
value_kind_in None = kind.Leaf rule.Constant
value_kind_in (Some r) = kind_in r

-- what the value of a key is to be; a parameter, where the table lacks the key
abbrev pub value_kind : Kind → List ℕ → Kind
value_kind v k = value_kind_in (row_for k (rows v))

-- the value of a key
abbrev pub value_at : Key → Members → Option Json
value_at k no_members = None
value_at k (member name t ms) = if is_spelled k name then Some t else value_at k ms

-- the text that a parameter stands for
abbrev pub parameter_text : Json → List ℕ
parameter_text null = []
parameter_text (flag b) = if b then codes "true" else codes "false"
parameter_text (whole z) = signed_decimal z
parameter_text float = []
parameter_text (word w) = w
parameter_text (list ts) = []
parameter_text (object ms) = []

abbrev pub parameter_pairs : Members → List (List ℕ × List ℕ)
parameter_pairs no_members = []
parameter_pairs (member k t ms) = (k, parameter_text t) ∷ parameter_pairs ms

abbrev pub pairs_in : Option Json → List (List ℕ × List ℕ)
pairs_in (Some (object ms)) = parameter_pairs ms
pairs_in _ = []

-- the parameters that stand beside a URI
abbrev pub parameters_of : Members → List (List ℕ × List ℕ)
parameters_of ms = pairs_in (value_at key.Parameters ms)

abbrev pub has_key : Key → Members → Bool
has_key k no_members = false
has_key k (member name t ms) = is_spelled k name || has_key k ms

-- whether a value is a truth value that holds, or the text of one
abbrev pub plainly : Option Json → Bool
plainly (Some (flag b)) = b
plainly (Some (word w)) = bytes_eq w (codes "true")
plainly _ = false

-- the same, or such a one as `expression` in an object
abbrev pub fixed : Option Json → Bool
fixed (Some (object ms)) = plainly (value_at key.Expression ms)
fixed t = plainly t

-- the same, or such a one as `constant` in an object
abbrev pub outcome : Option Json → Bool
outcome (Some (object ms)) = fixed (value_at key.Constant ms)
outcome t = plainly t

abbrev pub has_key_in : Key → Option Json → Bool
has_key_in k (Some (object ms)) = has_key k ms
has_key_in k _ = false

abbrev pub when : Bool → Cause → Option Cause
when b c = if b then Some c else None

abbrev pub completes : Members → Bool
completes ms = (has_key key.CompletionSize ms || has_key key.CompletionTimeout ms) || (has_key key.CompletionPredicate ms || plainly (value_at key.ForceCompletionOnStop ms))

-- what is wrong with an object as a whole
abbrev pub whole_object : Kind → Members → Option Cause
whole_object kind.Route ms = when (has_key key.Steps ms && has_key_in key.Steps (value_at key.From ms)) cause.StepsTwice
whole_object kind.OnException ms = when (outcome (value_at key.Handled ms) && outcome (value_at key.Continued ms)) cause.BothHandledAndContinued
whole_object kind.Aggregate ms = if completes ms then None else Some cause.NoCompletion
whole_object _ ms = None
