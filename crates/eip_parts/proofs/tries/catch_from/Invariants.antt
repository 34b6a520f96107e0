use Rattle.std.proofs.Common.{◌≡◌, ◌-◌, length, drop}
use Rattle.eip_progress.specs.Answered.{catches_tried}
use Rattle.eip_parts.proofs.tries.catch_from.Given as goal

abbrev pub invariant-loop-index : goal.invariant-loop-index
invariant-loop-index l = catches_tried l.set l.context l.finish l.index (drop l.index l.catches) l.fault l.latest l.message ≡ catches_tried l.set l.context l.finish l.from (drop l.from l.catches) l.fault l.latest l.message

abbrev pub decreases-loop-index : goal.decreases-loop-index
decreases-loop-index l = length l.catches - l.index
