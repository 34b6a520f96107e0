use Rattle.std.proofs.Common.{◌≡◌, ◌≤◌}
use Rattle.eip_history.specs.Counts.{accepted_count}
use Rattle.eip_history.specs.Walk.{past_at}
use Rattle.eip_endbook.proofs.counts.count_accepted.Given as goal

abbrev pub invariant-loop-entry : goal.invariant-loop-entry
invariant-loop-entry l = record {
  count : l.count ≡ accepted_count (past_at l.entries l.entry-index);
  few : l.count ≤ l.entry-index;
}
