-- The printed text of a tree, and which trees are what reading gives.
use Rattle.std.specs.Prelude.{ℕ, Bool, true, false, not, ◌&&◌, List, [], ◌∷◌, ◌++◌, codes, is_none, if◌then◌else◌}
use Rattle.eip_text.specs.Cuts.{behind, holds_byte}
use Rattle.eip_text.specs.Names.{is_name}
use Rattle.eip_simple_read.specs.declared.tree.Function.{Function}
use Rattle.eip_simple_read.specs.declared.tree.Function.TheVariants.{Body, Header, Property, ExchangeId, RouteId, ExceptionMessage}
use Rattle.eip_simple_read.specs.declared.tree.Part.{Part}
use Rattle.eip_simple_read.specs.declared.tree.Part.TheVariants as part
use Rattle.eip_simple_read.specs.declared.tree.Template.{Template}
use Rattle.eip_simple_read.specs.declared.tree.Predicate.{Predicate}
use Rattle.eip_simple_read.specs.declared.tree.Side.{Side}
use Rattle.eip_simple_read.specs.declared.tree.Side.TheVariants as side
use Rattle.eip_simple_read.specs.declared.tree.Op.{Op}
use Rattle.eip_simple_read.specs.declared.tree.Op.TheVariants.{Equal, NotEqual, EqualFold, Less, AtMost, Greater, AtLeast, Contains, NotContains, ContainsFold, StartsWith, EndsWith, In, NotIn, Range, NotRange}
use Rattle.eip_simple_read.specs.declared.tree.Test.{Test}
use Rattle.eip_simple_read.specs.declared.tree.Test.TheVariants as test

-- ---- printed texts

abbrev pub name_of : Function → List ℕ
name_of Body = codes "body"
name_of (Header x) = codes "header." ++ x
name_of (Property x) = codes "exchangeProperty." ++ x
name_of ExchangeId = codes "exchangeId"
name_of RouteId = codes "routeId"
name_of ExceptionMessage = codes "exception.message"

abbrev pub function_text : Function → List ℕ
function_text f = codes "${" ++ name_of f ++ codes "}"

abbrev pub part_text : Part → List ℕ
part_text (part.Plain t) = t
part_text (part.Call f) = function_text f

abbrev pub parts_text : List Part → List ℕ
parts_text [] = []
parts_text (p ∷ ps) = part_text p ++ parts_text ps

-- the quote round a text: '"' where the text holds "'"
abbrev pub quote_for : List ℕ → ℕ
quote_for bs = if holds_byte 39 bs then 34 else 39

abbrev pub quoted_text : List ℕ → List ℕ
quoted_text bs = quote_for bs ∷ (bs ++ quote_for bs ∷ [])

abbrev pub side_text : Side → List ℕ
side_text (side.Value t) = quoted_text (parts_text t.parts)
side_text (side.Call f) = function_text f
side_text side.Null = codes "null"

abbrev pub op_text : Op → List ℕ
op_text Equal = codes "=="
op_text NotEqual = codes "!="
op_text EqualFold = codes "=~"
op_text Less = codes "<"
op_text AtMost = codes "<="
op_text Greater = codes ">"
op_text AtLeast = codes ">="
op_text Contains = codes "contains"
op_text NotContains = codes "!contains"
op_text ContainsFold = codes "~~"
op_text StartsWith = codes "startsWith"
op_text EndsWith = codes "endsWith"
op_text In = codes "in"
op_text NotIn = codes "!in"
op_text Range = codes "range"
op_text NotRange = codes "!range"

abbrev pub regex_text : Bool → List ℕ
regex_text false = codes "regex"
regex_text true = codes "!regex"

abbrev pub test_text : Test → List ℕ
test_text (test.Single s) = side_text s
test_text (test.Compare left op right) = side_text left ++ (32 ∷ (op_text op ++ (32 ∷ side_text right)))
test_text (test.Matches left pattern negated) = side_text left ++ (32 ∷ (regex_text negated ++ (32 ∷ quoted_text pattern)))

abbrev pub all_text : List Test → List ℕ
all_text [] = []
all_text (t ∷ []) = test_text t
all_text (t ∷ u ∷ ts) = test_text t ++ (codes " && " ++ all_text (u ∷ ts))

abbrev pub any_text : List (List Test) → List ℕ
any_text [] = []
any_text (ts ∷ []) = all_text ts
any_text (ts ∷ us ∷ any) = all_text ts ++ (codes " || " ++ any_text (us ∷ any))

-- the template's one printed text
abbrev pub template_text : Template → List ℕ
template_text t = parts_text t.parts

-- the predicate's one printed text
abbrev pub predicate_text : Predicate → List ℕ
predicate_text p = any_text p.any

-- ---- what reading gives

abbrev pub is_function : Function → Bool
is_function (Header x) = is_name x
is_function (Property x) = is_name x
is_function Body = true
is_function ExchangeId = true
is_function RouteId = true
is_function ExceptionMessage = true

-- no `${` begins at a byte of the text, also not with what follows
abbrev pub is_plain : List ℕ → List ℕ → Bool
is_plain [] after = true
is_plain (b ∷ bs) after = is_none (behind (codes "${") (b ∷ (bs ++ after))) && is_plain bs after

abbrev pub begins_plain : List Part → Bool
begins_plain [] = false
begins_plain (part.Plain t ∷ ps) = true
begins_plain (part.Call f ∷ ps) = false

abbrev pub is_some_text : List ℕ → Bool
is_some_text [] = false
is_some_text (b ∷ bs) = true

-- plain parts are not empty and not beside each other, and hold no `${`; names are Names
abbrev pub are_parts : List Part → Bool
are_parts [] = true
are_parts (part.Plain t ∷ ps) = is_some_text t && is_plain t (parts_text ps) && not (begins_plain ps) && are_parts ps
are_parts (part.Call f ∷ ps) = is_function f && are_parts ps

-- one of the two quotes doesn't stand in the text
abbrev pub is_quotable : List ℕ → Bool
is_quotable bs = not (holds_byte 39 bs && holds_byte 34 bs)

abbrev pub is_side : Side → Bool
is_side (side.Value t) = are_parts t.parts && is_quotable (parts_text t.parts)
is_side (side.Call f) = is_function f
is_side side.Null = true

abbrev pub is_test : Test → Bool
is_test (test.Single s) = is_side s
is_test (test.Compare left op right) = is_side left && is_side right
is_test (test.Matches left pattern negated) = is_side left && (is_plain pattern [] && is_quotable pattern)

-- one or more tests
abbrev pub are_all : List Test → Bool
are_all [] = false
are_all (t ∷ []) = is_test t
are_all (t ∷ u ∷ ts) = is_test t && are_all (u ∷ ts)

-- one or more conjunctions
abbrev pub are_any : List (List Test) → Bool
are_any [] = false
are_any (ts ∷ []) = are_all ts
are_any (ts ∷ us ∷ any) = are_all ts && are_any (us ∷ any)
