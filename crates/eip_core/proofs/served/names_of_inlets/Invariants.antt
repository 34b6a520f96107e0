use Rattle.std.proofs.Common.{◌≡◌, take}
use Rattle.eip_endpoint.specs.Inlets.{inlet_names}
use Rattle.eip_core.proofs.served.names_of_inlets.Given as goal

abbrev pub invariant-loop-index : goal.invariant-loop-index
invariant-loop-index g l = l.names.items ≡ take l.index (inlet_names (g.I.Inlets.views l.inlets))
