use Rattle.std.proofs.Common.{◌≡◌, take}
use Rattle.eip_endpoint.specs.Lanes.{lane_names}
use Rattle.eip_core.proofs.served.names_of_lanes.Given as goal

abbrev pub invariant-loop-index : goal.invariant-loop-index
invariant-loop-index g l = l.names.items ≡ take l.index (lane_names (g.L.Lanes.views l.lanes))
