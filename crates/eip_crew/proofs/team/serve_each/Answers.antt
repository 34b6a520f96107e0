use Rattle.std.proofs.Common.{sym, subst}
use Rattle.std.proofs.Crossing.{crosses}
use denote.Param.Send.{sendable}
use Rattle.eip_endpoint.specs.Inlets.{inlet_views}
use Rattle.eip_endpoint.specs.Lanes.{lane_views}
use Rattle.eip_turnstile.specs.Seats.{lock_id}
use Rattle.eip_worker.specs.Beginning.{Beginning}
use Rattle.eip_worker.specs.Seats.{MaySit}
use Rattle.eip_crew.proofs.Sending.{round-sync, worker-send}
use Rattle.eip_crew.proofs.team.serve_each.Goals as goal

pub for_each_mut-requires-send-T : goal.for_each_mut-requires-send-T
for_each_mut-requires-send-T g c κs within = search (worker-send, sendable) depth 20

pub for_each_mut-requires-sync-F : goal.for_each_mut-requires-sync-F
for_each_mut-requires-sync-F g c κs within = search (round-sync, crosses, sendable) depth 20

pub for_each_mut-requires-clause-accepts : goal.for_each_mut-requires-clause-accepts
for_each_mut-requires-clause-accepts g c κs within = λ i p inside at. (
  subst (λ w. (start : Beginning) × MaySit start (lock_id c.args.round.now.lock.now) w.seat w.sources (lane_views g.E.Endpoint w.lanes.items) (inlet_views g.S.Source w.inlets.items) (g.R.Registered.view c.args.round.now.registry.now))
      (sym at) (c.requires.sit i p.now inside),
  (
    search sendable depth 20,
    search sendable depth 20,
    search sendable depth 20,
    search sendable depth 20,
    search sendable depth 20,
  ),
)
