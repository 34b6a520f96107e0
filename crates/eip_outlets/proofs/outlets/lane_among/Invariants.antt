use Rattle.std.proofs.Common.{◌≡◌, drop}
use Rattle.std.specs.Str.{bytes_eq}
use Rattle.std.specs.List.{position_from}
use Rattle.eip_endpoint.specs.Lanes.{first_named}
use Rattle.eip_endpoint.specs.Outside.{lane_of}
use Rattle.eip_outlets.proofs.outlets.lane_among.Given as goal

abbrev pub invariant-loop-index : goal.invariant-loop-index
invariant-loop-index l = first_named (lane_of l.target) l.names ≡ position_from (λ m. bytes_eq m (lane_of l.target)) l.index (drop l.index l.names)
