use Rattle.std.proofs.Common.{◌≡◌, drop}
use Rattle.eip_route.specs.Goals.{is_among}
use Rattle.eip_route.proofs.goal.has_lane.Given as goal

abbrev pub invariant-loop-lane : goal.invariant-loop-lane
invariant-loop-lane l = is_among l.wanted l.lanes ≡ is_among l.wanted (drop l.lane-index l.lanes)
