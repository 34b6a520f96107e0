use Rattle.std.proofs.Common.{◌≡◌, ◌≤◌, drop, length}
use Rattle.eip_plan.specs.Plan.{outermost}
use Rattle.eip_tables.proofs.around.outermost.Given as goal

abbrev pub invariant-loop-here : goal.invariant-loop-here
invariant-loop-here l = record {
  so_far : outermost l.here (drop l.here l.blocks) l.block ≡ l.around;
  within : l.here ≤ length l.blocks;
}

abbrev pub decreases-loop-here : goal.decreases-loop-here
decreases-loop-here l = l.here
