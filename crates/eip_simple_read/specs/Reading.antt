-- Reading from the left, with the first fault. A fault says how many bytes are left where it stands.
use Rattle.std.specs.Str.{bytes_eq}
use Rattle.std.specs.Prelude.{◌≡◌, ℕ, zero, suc, ◌+◌, ◌-◌, ◌≤◌, Bool, true, false, ◌||◌, ◌==◌, List, [], ◌∷◌, length, codes, Option, Some, None, option_map, option_and_then, is_some, Result, Ok, Err, if◌then◌else◌}
use Rattle.eip_text.specs.Cuts.{unspaced, behind, cut, digits}
use Rattle.eip_text.specs.Names.{is_name}
use Rattle.eip_simple_read.specs.declared.tree.Function.{Function}
use Rattle.eip_simple_read.specs.declared.tree.Function.TheVariants.{Body, Header, Property, ExchangeId, RouteId, ExceptionMessage}
use Rattle.eip_simple_read.specs.declared.tree.Part.{Part}
use Rattle.eip_simple_read.specs.declared.tree.Part.TheVariants as part
use Rattle.eip_simple_read.specs.declared.tree.Side.{Side}
use Rattle.eip_simple_read.specs.declared.tree.Side.TheVariants as side
use Rattle.eip_simple_read.specs.declared.tree.Op.{Op}
use Rattle.eip_simple_read.specs.declared.tree.Op.TheVariants.{Equal, NotEqual, EqualFold, Less, AtMost, Greater, AtLeast, Contains, NotContains, ContainsFold, StartsWith, EndsWith, In, NotIn, Range, NotRange}
use Rattle.eip_simple_read.specs.declared.tree.Test.{Test}
use Rattle.eip_simple_read.specs.declared.tree.Test.TheVariants as test
use Rattle.eip_simple_read.specs.declared.operators.Operator.{Operator}
use Rattle.eip_simple_read.specs.declared.operators.Operator.TheVariants as operator
use Rattle.eip_simple_read.specs.declared.joints.Joint.{Joint}
use Rattle.eip_simple_read.specs.declared.joints.Joint.TheVariants as joint
use Rattle.eip_simple_read.specs.Patterns.{IsCauseIn, IsGoodPattern, refusals}
use Rattle.eip_simple_read.specs.declared.fault.Stop.{Stop}
use Rattle.eip_simple_read.specs.declared.fault.Stop.TheVariants as stop

-- why a text can't be read, with the number of bytes from there to the end
pub data Fault : Type 0 where
  -- nothing that may stand there can be read
  Bad : ℕ → Fault
  -- no function stands in the braces
  Unknown : ℕ → Fault
  -- the pattern that stands there is refused
  Refused : ℕ → List ℕ → Fault

infixl 10 ◌>>=◌
abbrev pub ◌>>=◌ : {A B : Type 0} → Result A Fault → (A → Result B Fault) → Result B Fault
(Ok x) >>= f = f x
(Err e) >>= f = Err e

-- the first that is there
infixr 10 ◌<|>◌
abbrev pub ◌<|>◌ : {A : Type 0} → Option A → Option A → Option A
None <|> o = o
(Some x) <|> o = Some x

-- reading stopped as the definition has it, or because memory ran out
abbrev pub Fails : {Y : Type 0} → Stop → Result Y Fault → Type 0
Fails stop.Memory read = Unit {0}
Fails (stop.Bad left) read = read ≡ Err (Bad left)
Fails (stop.Unknown left) read = read ≡ Err (Unknown left)
Fails (stop.Pattern left fault) read = ⊥

-- what a reader returned, seen by view, is what reading gives, unless memory ran out
abbrev pub Gives : {X Y : Type 0} → (X → Y) → Result X Stop → Result Y Fault → Type 0
Gives view (Ok x) read = read ≡ Ok (view x)
Gives view (Err e) read = Fails e read

-- ---- functions

-- the function of this whole word
abbrev pub worded : List ℕ → Function → List ℕ → Option Function
worded bs f word = if bytes_eq bs word then Some f else None

-- the function of this Name
abbrev pub of_name : (List ℕ → Function) → List ℕ → Option Function
of_name make x = if is_name x then Some (make x) else None

-- the function that a whole word is
abbrev pub whole_word : List ℕ → Option Function
whole_word bs = worded bs Body (codes "body") <|> worded bs ExchangeId (codes "exchangeId") <|> worded bs RouteId (codes "routeId")
    <|> worded bs ExceptionMessage (codes "exception.message")

-- the function that names a header, and the one that names a property
abbrev pub header : List ℕ → Option Function
header bs = option_and_then (of_name Header) (behind (codes "header.") bs <|> behind (codes "headers.") bs)

abbrev pub property : List ℕ → Option Function
property bs = option_and_then (of_name Property) (behind (codes "exchangeProperty.") bs)

unfoldable pub named : List ℕ → Option Function
named bs = whole_word bs <|> header bs <|> property bs

abbrev pub known : ℕ → Option Function → List ℕ → Result (Function × List ℕ) Fault
known left None rest = Err (Unknown left)
known left (Some f) rest = Ok (f, rest)

abbrev pub closed : ℕ → Option (List ℕ × List ℕ) → Result (Function × List ℕ) Fault
closed left None = Err (Bad left)
closed left (Some p) = known left (named p.0) p.1

-- the function whose name stands in front, up to the brace, and what stands behind the brace; a fault has so many bytes left
unfoldable pub function_behind : ℕ → List ℕ → Result (Function × List ℕ) Fault
function_behind left inner = closed left (cut 125 inner)

-- ---- templates

-- the parts with one more plain byte in front
abbrev pub plain : ℕ → List Part → List Part
plain b [] = part.Plain (b ∷ []) ∷ []
plain b (part.Plain t ∷ ps) = part.Plain (b ∷ t) ∷ ps
plain b (part.Call f ∷ ps) = part.Plain (b ∷ []) ∷ part.Call f ∷ ps

abbrev pub then_call : ℕ → (ℕ → Result (List Part) Fault) → Result (Function × List ℕ) Fault → Result (List Part) Fault
then_call size later call = call >>= λ f. later (size - length f.1) >>= λ ps. Ok (part.Call f.0 ∷ ps)

abbrev pub plain_or_call : ℕ → ℕ → Result (List Part) Fault → (ℕ → Result (List Part) Fault) → ℕ → Option (List ℕ) → Result (List Part) Fault
plain_or_call after b next later size None = next >>= λ ps. Ok (plain b ps)
plain_or_call after b next later size (Some inner) = then_call size later (function_behind (length inner + 2 + after) inner)

-- The template that a text spells which so many bytes follow. A byte that begins no `${` is plain. The first `skip` bytes belong to a function that was read.
unfoldable pub template : ℕ → ℕ → List ℕ → Result (List Part) Fault
template after skip [] = Ok []
template after zero (b ∷ bs) = plain_or_call after b (template after zero bs) (λ k. template after k bs) (length bs) (behind (codes "${") (b ∷ bs))
template after (suc k) (b ∷ bs) = template after k bs

-- the part of a plain text, which is none where it is empty
abbrev pub plain_part : List ℕ → List Part
plain_part [] = []
plain_part (b ∷ bs) = part.Plain (b ∷ bs) ∷ []

-- ---- sides

-- a value of plain text
abbrev pub plain_value : List ℕ → Side
plain_value bs = side.Value (record { parts = part.Plain bs ∷ [] })

abbrev pub enclosed : ℕ → Option (List ℕ × List ℕ) → Result (Side × List ℕ) Fault
enclosed left None = Err (Bad left)
enclosed left (Some p) = template (length p.1 + 1) zero p.0 >>= λ ps. Ok (side.Value (record { parts = ps }), p.1)

-- the value that stands behind an opening quote, up to the closing one
unfoldable pub quoted : ℕ → List ℕ → Result (Side × List ℕ) Fault
quoted quote inner = enclosed (length inner + 1) (cut quote inner)

abbrev pub some_digits : List ℕ × List ℕ → Option (List ℕ × List ℕ)
some_digits ([], rest) = None
some_digits (d ∷ ds, rest) = Some (d ∷ ds, rest)

-- an optional '-' and digits
unfoldable pub numeral : List ℕ → Option (List ℕ × List ℕ)
numeral bs = option_and_then (λ more. option_map (λ p. (45 ∷ p.0, p.1)) (some_digits (digits more))) (behind (codes "-") bs) <|> some_digits (digits bs)

abbrev pub tagged : {A : Type 0} → A → Option (List ℕ) → Option (A × List ℕ)
tagged x None = None
tagged x (Some bs) = Some (x, bs)

-- `null`, `true`, `false`
unfoldable pub word : List ℕ → Option (Side × List ℕ)
word bs = tagged side.Null (behind (codes "null") bs) <|> tagged (plain_value (codes "true")) (behind (codes "true") bs)
    <|> tagged (plain_value (codes "false")) (behind (codes "false") bs)

abbrev pub or_fault : {A : Type 0} → Option (Result A Fault) → ℕ → Result A Fault
or_fault None left = Err (Bad left)
or_fault (Some r) left = r

-- the side that stands in front, and what stands behind it
unfoldable pub side_at : List ℕ → Result (Side × List ℕ) Fault
side_at bs = or_fault (option_map (λ inner. function_behind (length bs) inner >>= λ f. Ok (side.Call f.0, f.1)) (behind (codes "${") bs)
    <|> option_map (quoted 39) (behind (39 ∷ []) bs) <|> option_map (quoted 34) (behind (34 ∷ []) bs)
    <|> option_map (λ p. Ok (plain_value p.0, p.1)) (numeral bs) <|> option_map (λ p. Ok (p.0, p.1)) (word bs)) (length bs)

-- ---- operators

-- an operator between two sides that is spelled with no letter; the longer one first
unfoldable pub symbol : List ℕ → Option (Op × List ℕ)
symbol bs = tagged Equal (behind (codes "==") bs) <|> tagged NotEqual (behind (codes "!=") bs) <|> tagged EqualFold (behind (codes "=~") bs)
    <|> tagged AtMost (behind (codes "<=") bs) <|> tagged Less (behind (codes "<") bs)
    <|> tagged AtLeast (behind (codes ">=") bs) <|> tagged Greater (behind (codes ">") bs)
    <|> tagged ContainsFold (behind (codes "~~") bs)

-- an operator between two sides that is a word
unfoldable pub named_operator : List ℕ → Option (Op × List ℕ)
named_operator bs = tagged Contains (behind (codes "contains") bs) <|> tagged NotContains (behind (codes "!contains") bs)
    <|> tagged StartsWith (behind (codes "startsWith") bs) <|> tagged StartsWith (behind (codes "starts with") bs)
    <|> tagged EndsWith (behind (codes "endsWith") bs) <|> tagged EndsWith (behind (codes "ends with") bs)
    <|> tagged In (behind (codes "in") bs) <|> tagged NotIn (behind (codes "!in") bs)
    <|> tagged Range (behind (codes "range") bs) <|> tagged NotRange (behind (codes "!range") bs)

abbrev pub comparing : Option (Op × List ℕ) → Option (Operator × List ℕ)
comparing o = option_map (λ p. (operator.Compares p.0, p.1)) o

-- the operator that stands in front, and what stands behind it
unfoldable pub operator_at : List ℕ → Option (Operator × List ℕ)
operator_at bs = comparing (symbol bs) <|> comparing (named_operator bs)
    <|> tagged (operator.Matches false) (behind (codes "regex") bs) <|> tagged (operator.Matches true) (behind (codes "!regex") bs)

-- ---- spaces

-- behind one space or more
unfoldable pub spaced : List ℕ → Result (List ℕ) Fault
spaced bs = or_fault (option_map (λ rest. Ok (unspaced rest)) (behind (codes " ") bs)) (length bs)

-- the same, or the end
unfoldable pub gap : List ℕ → Result (List ℕ) Fault
gap [] = Ok []
gap (b ∷ bs) = spaced (b ∷ bs)

-- ---- patterns

-- the plain text that the parts are, where they have no function
abbrev pub plain_text : List Part → Option (List ℕ)
plain_text [] = Some []
plain_text (part.Plain t ∷ []) = Some t
plain_text (part.Plain t ∷ p ∷ ps) = None
plain_text (part.Call f ∷ ps) = None

abbrev pub begins_quoted : List ℕ → Bool
begins_quoted bs = is_some (behind (39 ∷ []) bs) || is_some (behind (34 ∷ []) bs)

-- the text of the side with which the first text begins, where it is quoted and has no function
abbrev pub pattern_text : List ℕ → Side → Option (List ℕ)
pattern_text bs (side.Value t) = if begins_quoted bs then plain_text t.parts else None
pattern_text bs (side.Call f) = None
pattern_text bs side.Null = None

-- the pattern's text, unless the pattern is refused whose side has so many bytes left
abbrev pub unless_refused : Option ℕ → ℕ → List ℕ → Result (List ℕ) Fault
unless_refused None left text = Ok text
unless_refused (Some refused) left text = if left == refused then Err (Refused left text) else Ok text

-- the right side of `regex` that stands in front, as the pattern's text, and what stands behind it
unfoldable pub pattern_at : Option ℕ → List ℕ → Result (List ℕ × List ℕ) Fault
pattern_at refused bs = do
  s ← side_at bs
  text ← or_fault (option_map (λ t. Ok t) (pattern_text bs s.0)) (length bs)
  pattern ← unless_refused refused (length bs) text
  Ok (pattern, s.1)

-- ---- tests

abbrev pub operated : Option ℕ → Side → List ℕ → Operator → Result (Test × List ℕ) Fault
operated refused left after (operator.Compares op) = do
  right ← side_at after
  end ← gap right.1
  Ok (test.Compare left op right.0, end)
operated refused left after (operator.Matches negated) = do
  pattern ← pattern_at refused after
  end ← gap pattern.1
  Ok (test.Matches left pattern.0 negated, end)

abbrev pub compared : Option ℕ → Side → List ℕ → Option (Operator × List ℕ) → Result (Test × List ℕ) Fault
compared refused left rest None = Ok (test.Single left, rest)
compared refused left rest (Some op) = spaced op.1 >>= λ after. operated refused left after op.0

-- the test that stands in front, and what stands behind it and its spaces
unfoldable pub test_at : Option ℕ → List ℕ → Result (Test × List ℕ) Fault
test_at refused bs = do
  left ← side_at bs
  rest ← gap left.1
  compared refused left.0 rest (operator_at rest)

-- what follows a test: the end, or another test behind `&&` or `||`
unfoldable pub joint_at : List ℕ → Result (Joint × List ℕ) Fault
joint_at [] = Ok (joint.End, [])
joint_at (b ∷ bs) = or_fault (option_map (λ rest. spaced rest >>= λ next. Ok (joint.And, next)) (behind (codes "&&") (b ∷ bs))
    <|> option_map (λ rest. spaced rest >>= λ next. Ok (joint.Or, next)) (behind (codes "||") (b ∷ bs))) (length bs + 1)

-- ---- predicates

-- the test in front of the first conjunction
abbrev pub in_first : Test → List (List Test) → List (List Test)
in_first t [] = (t ∷ []) ∷ []
in_first t (ts ∷ any) = (t ∷ ts) ∷ any

abbrev pub go_on : Test → Joint → Result (List (List Test)) Fault → Result (List (List Test)) Fault
go_on t joint.End tests = Ok ((t ∷ []) ∷ [])
go_on t joint.And tests = tests >>= λ any. Ok (in_first t any)
go_on t joint.Or tests = tests >>= λ any. Ok ((t ∷ []) ∷ any)

-- the conjunctions, of at most so many tests; a text has fewer tests than bytes
unfoldable pub tests_at : Option ℕ → ℕ → List ℕ → Result (List (List Test)) Fault
tests_at refused zero bs = Err (Bad 0)
tests_at refused (suc n) bs = do
  t ← test_at refused bs
  j ← joint_at t.1
  go_on t.0 j.0 (tests_at refused n j.1)

-- The conjunctions that a text spells. A pattern may be refused: the one whose side has so many bytes left.
unfoldable pub all_tests : Option ℕ → List ℕ → Result (List (List Test)) Fault
all_tests refused bs = tests_at refused (length bs + 1) (unspaced bs)

-- ---- readers that build patterns

-- Where a pattern's side was refused, the reading stops there. Everything else is as the definition has it, with no pattern refused.
abbrev pub FailsAt : {Y : Type 0} → Stop → (Option ℕ → Result Y Fault) → Type 0
FailsAt stop.Memory read = Unit {0}
FailsAt (stop.Bad left) read = read None ≡ Err (Bad left)
FailsAt (stop.Unknown left) read = read None ≡ Err (Unknown left)
FailsAt (stop.Pattern left fault) read = (text : List ℕ) × (read (Some left) ≡ Err (Refused left text)) × IsCauseIn text fault

abbrev pub GivesAt : {X Y : Type 0} → (X → Y) → Result X Stop → (Option ℕ → Result Y Fault) → Type 0
GivesAt view (Ok x) read = read None ≡ Ok (view x)
GivesAt view (Err e) read = FailsAt e read

-- 1 for a refusal that the count of faults tells, else 0
abbrev pub stop_failures : {X : Type 0} → Result X Stop → ℕ
stop_failures (Ok x) = 0
stop_failures (Err stop.Memory) = 0
stop_failures (Err (stop.Bad left)) = 0
stop_failures (Err (stop.Unknown left)) = 0
stop_failures (Err (stop.Pattern left fault)) = refusals fault

-- the test's pattern, if it has one, is a pattern of the grammar
abbrev pub HasGoodPattern : Test → Type 0
HasGoodPattern (test.Single s) = Unit {0}
HasGoodPattern (test.Compare left op right) = Unit {0}
HasGoodPattern (test.Matches left pattern negated) = IsGoodPattern pattern

-- a stop at a pattern's side has at most so many bytes left
abbrev pub StopsWithin : {X : Type 0} → ℕ → Result X Stop → Type 0
StopsWithin len (Ok x) = Unit {0}
StopsWithin len (Err stop.Memory) = Unit {0}
StopsWithin len (Err (stop.Bad left)) = Unit {0}
StopsWithin len (Err (stop.Unknown left)) = Unit {0}
StopsWithin len (Err (stop.Pattern left fault)) = left ≤ len
