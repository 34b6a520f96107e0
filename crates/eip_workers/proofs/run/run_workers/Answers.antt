use Rattle.std.proofs.Common.{◌∙◌, refl}
use Rattle.eip_endpoint.specs.Inlets.{inlet_views}
use Rattle.eip_endpoint.specs.Lanes.{lane_views}
use Rattle.eip_workers.proofs.Compose.{still-owners, still-runs, works-refl, works-trans}
use Rattle.eip_workers.proofs.run.run_workers.Goals as goal

pub loop-init : goal.loop-init
loop-init g c = record {
  works = works-refl c.args.hub (lane_views g.E.Endpoint c.args.lanes.now.items) (inlet_views g.S.Source c.args.inlets.now.items);
  room = (refl, refl);
}

pub round-after-requires-clause-pulls : goal.round-after-requires-clause-pulls
round-after-requires-clause-pulls g c κs within = still-owners c.args.workers c.loop.invariant.works c.requires.workers.2 c.requires.pulls

pub round-after-requires-clause-can_run : goal.round-after-requires-clause-can_run
round-after-requires-clause-can_run g c κs within = still-runs c.loop.invariant.works c.requires.can_run

pub loop-preserved : goal.loop-preserved
loop-preserved g c = record {
  works = works-trans c.loop.invariant.works c.round-after.ensures.works;
  room = (c.round-after.ensures.room.0 ∙ c.loop.invariant.room.0, c.round-after.ensures.room.1 ∙ c.loop.invariant.room.1);
}

pub returns-in-Some-stop-clause-works : goal.returns-in-Some-stop-clause-works
returns-in-Some-stop-clause-works g c = works-trans c.loop.invariant.works c.round-after.ensures.works
