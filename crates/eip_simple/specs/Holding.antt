-- Where a predicate holds.
use Rattle.std.specs.Prelude.{ℕ, Bool, false, not, List, codes, Option, Some, None, bytes_eq, if◌then◌else◌}
use Rattle.std.specs.List.{list_any, list_all}
use Rattle.eip_text.specs.Names.{folded}
use Rattle.eip_simple_read.specs.declared.tree.Test.{Test}
use Rattle.eip_simple_read.specs.declared.tree.Test.TheVariants.{Single, Compare, Matches}
use Rattle.eip_simple_read.specs.declared.tree.Predicate.{Predicate}
use Rattle.eip_simple.specs.Views.{Seen}
use Rattle.eip_simple.specs.Values.{side_value}
use Rattle.eip_simple.specs.Matching.{is_whole_match}
use Rattle.eip_simple.specs.Operators.{op_holds}

-- a side alone holds where it is there and is not `false` in any ASCII case
abbrev pub is_truthy : Option (List ℕ) → Bool
is_truthy None = false
is_truthy (Some a) = not (bytes_eq (folded a) (codes "false"))

-- a side that is there matches the pattern as a whole
abbrev pub matches_pattern : List ℕ → Option (List ℕ) → Bool
matches_pattern pattern None = false
matches_pattern pattern (Some a) = is_whole_match pattern a

abbrev pub test_holds : Seen → Test → Bool
test_holds s (Single a) = is_truthy (side_value a s)
test_holds s (Compare left op right) = op_holds op (side_value left s) (side_value right s)
test_holds s (Matches left pattern negated) = if negated then not (matches_pattern pattern (side_value left s)) else matches_pattern pattern (side_value left s)

-- some conjunction has all its tests true
unfoldable pub predicate_holds : Predicate → Seen → Bool
predicate_holds p s = list_any (list_all (test_holds s)) p.any
