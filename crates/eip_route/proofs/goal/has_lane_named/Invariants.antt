use Rattle.std.proofs.Common.{◌≡◌, drop}
use Rattle.eip_route.specs.Goals.{is_among, lane_name}
use Rattle.eip_route.proofs.goal.has_lane_named.Given as goal

abbrev pub invariant-loop-lane : goal.invariant-loop-lane
invariant-loop-lane l = is_among (lane_name l.name) l.lanes ≡ is_among (lane_name l.name) (drop l.lane-index l.lanes)
