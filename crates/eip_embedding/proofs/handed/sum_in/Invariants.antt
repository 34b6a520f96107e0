use Rattle.std.proofs.Common.{◌≡◌, drop}
use Rattle.eip_embedding.specs.Handed.{sum_in}
use Rattle.eip_embedding.proofs.handed.sum_in.Given as goal

abbrev pub invariant-loop-lane : goal.invariant-loop-lane
invariant-loop-lane g l = sum_in l.lanes ≡ sum_in (drop l.lane-index l.lanes)
