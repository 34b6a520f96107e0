use Rattle.std.proofs.Common.{refl}
use Rattle.eip_endpoint.specs.Inlets.{inlet_views}
use Rattle.eip_endpoint.specs.Lanes.{lane_views}
use Rattle.eip_core.specs.Served.{names_of}
use Rattle.eip_worker.proofs.Told.{asks-told}
use Rattle.eip_worker.proofs.calls.call.Goals as goal

pub returns-in-Ok : goal.returns-in-Ok
returns-in-Ok g c = λ from is can.
    let names = names_of (lane_views g.E.Endpoint c.args.lanes.now.items) (inlet_views g.S.Source c.args.inlets.now.items) (g.R.Registered.view c.args.registry.now) in
    (refl, asks-told c.args.sources.now names c.args.told from c.args.ticket.request is can (rw (c.origin_told.ensures, c.in-Ok.is) at c.ask-asked.ensures))
