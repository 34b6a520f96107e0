use Rattle.std.proofs.Common.{◌≡◌, vec_capacity}
use Rattle.eip_endpoint.specs.Inlets.{inlet_views}
use Rattle.eip_endpoint.specs.Lanes.{lane_views}
use Rattle.eip_workers.specs.Works.{Works}
use Rattle.eip_workers.proofs.run.run_workers.Given as goal

abbrev pub invariant-loop : goal.invariant-loop
invariant-loop g l = record {
  works : Works l.fn.hub l.hub (lane_views g.E.Endpoint l.fn.lanes.items) (lane_views g.E.Endpoint l.lanes.items) (inlet_views g.S.Source l.fn.inlets.items) (inlet_views g.S.Source l.inlets.items) (g.R.Registered.view l.registry);
  room : (vec_capacity l.lanes ≡ vec_capacity l.fn.lanes) × (vec_capacity l.inlets ≡ vec_capacity l.fn.inlets);
}
