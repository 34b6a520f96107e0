use Rattle.std.proofs.Common.{◌≡◌, ◌-◌, length, drop}
use Rattle.eip_progress.specs.FirstTry.{choice_tried}
use Rattle.eip_parts.proofs.checks.choose.Given as goal

abbrev pub invariant-loop-index : goal.invariant-loop-index
invariant-loop-index l = choice_tried l.set l.context l.index (drop l.index l.cases) l.otherwise l.message ≡ choice_tried l.set l.context l.from (drop l.from l.cases) l.otherwise l.message

abbrev pub decreases-loop-index : goal.decreases-loop-index
decreases-loop-index l = length l.cases - l.index
