use Rattle.std.proofs.Common.{◌≡◌, ◌≤◌, ℕ, List, length}
use Rattle.std.specs.Prelude.{All}
use denote.Text.{Utf8}
use denote.Shadow.{shadow}
use Rattle.eip_simple_read.specs.Reading as spec
use Rattle.eip_simple_read.specs.Reading.{HasGoodPattern}
use Rattle.eip_simple_read.specs.Builds.{added, built, patterns_in}
use Rattle.eip_simple_read.proofs.Conjunctions.{SoFar}
use Rattle.eip_simple_read.proofs.AskedTests.{PatternsSoFar}
use Rattle.eip_simple_read.proofs.predicates.all_tests.Given as goal

abbrev pub invariant-loop-all : goal.invariant-loop-all
invariant-loop-all g l = record {
  is_text : shadow (Utf8 l.rest);
  so_far : SoFar l.any.items l.all.items l.rest (λ refused. spec.all_tests refused l.text);
  shorter : length l.rest ≤ length l.text;
  any_good : All (All HasGoodPattern) l.any.items;
  all_good : All HasGoodPattern l.all.items;
  faults : g.P.Patterns.pattern_faults l.patterns ≡ g.P.Patterns.pattern_faults l.fn.patterns;
  asked : (past : List (List ℕ)) × PatternsSoFar past l.rest (λ refused. patterns_in refused l.text) × (g.P.Patterns.pattern_builds l.patterns ≡ added (g.P.Patterns.pattern_builds l.fn.patterns) (built past));
}

abbrev pub decreases-loop-all : goal.decreases-loop-all
decreases-loop-all g l = length l.rest
