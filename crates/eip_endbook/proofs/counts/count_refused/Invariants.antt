use Rattle.std.proofs.Common.{◌≡◌, ◌≤◌}
use Rattle.eip_history.specs.Counts.{refused_count}
use Rattle.eip_history.specs.Walk.{past_at}
use Rattle.eip_endbook.proofs.counts.count_refused.Given as goal

abbrev pub invariant-loop-entry : goal.invariant-loop-entry
invariant-loop-entry l = record {
  count : l.count ≡ refused_count (past_at l.entries l.entry-index);
  few : l.count ≤ l.entry-index;
}
