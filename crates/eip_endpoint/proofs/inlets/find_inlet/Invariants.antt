use Rattle.std.proofs.Common.{◌≡◌, drop}
use Rattle.std.specs.Str.{bytes_eq}
use Rattle.std.specs.List.{position_from}
use Rattle.eip_endpoint.specs.Inlets.{inlet_names}
use Rattle.eip_endpoint.specs.Lanes.{first_named}
use Rattle.eip_endpoint.proofs.inlets.find_inlet.Given as goal

abbrev pub invariant-loop-index : goal.invariant-loop-index
invariant-loop-index g l =
    first_named l.name (inlet_names (g.I.Inlets.views l.inlets)) ≡ position_from (λ m. bytes_eq m l.name) l.index (drop l.index (inlet_names (g.I.Inlets.views l.inlets)))
