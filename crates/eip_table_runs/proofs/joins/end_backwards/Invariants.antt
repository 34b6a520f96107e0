use Rattle.std.proofs.Common.{◌≤◌}
use Rattle.eip_table_runs.specs.Backwards.{AreLeft}
use Rattle.eip_table_runs.proofs.joins.end_backwards.Given as goal

abbrev pub invariant-loop-left : goal.invariant-loop-left
invariant-loop-left l = record {
  left : AreLeft l.first l.count l.left l.joins;
  within : l.left ≤ l.count;
}

abbrev pub decreases-loop-left : goal.decreases-loop-left
decreases-loop-left l = l.left
