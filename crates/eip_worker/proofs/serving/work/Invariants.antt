use Rattle.std.proofs.Common.{◌≡◌}
use Rattle.eip_endpoint.specs.Inlets.{inlet_views}
use Rattle.eip_endpoint.specs.Lanes.{lane_views}
use Rattle.eip_turnstile.specs.Seats.{lock_of, knows}
use Rattle.eip_shared.specs.declared.beginning.Beginning.{Beginning}
use Rattle.eip_worker.specs.Serves.{IsReady, Served, Stands}
use Rattle.eip_worker.proofs.serving.work.Given as goal

abbrev pub invariant-loop : goal.invariant-loop
invariant-loop g l =
    record {
      can_next : (goal.iterator-loop g).can_next l.iterator';
      is_finite : (goal.iterator-loop g).is_finite l.iterator';
      own : lock_of l.at.0 ≡ lock_of l.fn.seat;
      seat : l.worker.seat ≡ l.fn.worker.seat;
      sources : l.worker.sources ≡ l.fn.worker.sources;
      served : (start : Beginning)
          → IsReady start (knows l.fn.seat) l.fn.worker.sources (lane_views g.E.Endpoint l.fn.worker.lanes.items) (inlet_views g.S.Source l.fn.worker.inlets.items)
          (g.R.Registered.view l.round.registry.now)
          → Served start (knows l.fn.seat) (knows l.at.0) (lane_views g.E.Endpoint l.fn.worker.lanes.items) (lane_views g.E.Endpoint l.worker.lanes.items)
          (inlet_views g.S.Source l.fn.worker.inlets.items) (inlet_views g.S.Source l.worker.inlets.items) (g.R.Registered.view l.round.registry.now)
          × Stands start (knows l.at.0) l.at.1;
    }
