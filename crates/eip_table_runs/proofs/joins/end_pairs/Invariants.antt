use Rattle.std.proofs.Common.{◌≤◌, ◌*◌}
use Rattle.eip_table_runs.specs.Backwards.{ArePairs}
use Rattle.eip_table_runs.proofs.joins.end_pairs.Given as goal

abbrev pub invariant-loop-left : goal.invariant-loop-left
invariant-loop-left l = record {
  left : ArePairs l.count l.left l.joins;
  within : l.left ≤ 2 * l.count;
}

abbrev pub decreases-loop-left : goal.decreases-loop-left
decreases-loop-left l = l.left
