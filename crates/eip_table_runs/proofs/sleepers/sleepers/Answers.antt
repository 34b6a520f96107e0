use Rattle.std.proofs.Common.{◌+◌, ◌∷◌, get_or, arith}
use Rattle.eip_redelivery.specs.Sleep.{Slept}
use Rattle.eip_table_runs.proofs.Helps.{later_awake}
use Rattle.eip_table_runs.proofs.sleepers.sleepers.Goals as goal

pub loop-at-preserved : goal.loop-at-preserved
loop-at-preserved c =
    let due = get_or c.args.moments.now c.loop-at.at 0 in
    let calls = c.loop-at.invariant.0 in
    (Slept (c.loop-at.at + 1) due ∷ calls, c.in_ok-sleep.ensures.ok calls c.loop-at.invariant.1, later_awake calls (c.loop-at.at + 1) due (λ x lt. c.loop-at.invariant.2 x (omega arith)))
