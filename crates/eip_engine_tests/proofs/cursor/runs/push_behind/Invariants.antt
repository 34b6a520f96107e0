use Rattle.std.proofs.Common.{◌≡◌, []}
use Rattle.eip_progress.specs.Rest.{next_fate}
use Rattle.eip_engine_tests.proofs.cursor.runs.push_behind.Given as goal

abbrev pub invariant-loop-words : goal.invariant-loop-words
invariant-loop-words g l = record {
  asks : g.A.Advance.rest l.set l.cursor [] ≡ next_fate (g.A.Advance.asked_at l.cursor) l.next;
  later : g.A.Advance.is_first l.cursor → ⊥;
}
