use Rattle.std.proofs.Common.{sym, subst}
use Rattle.eip_endpoint.specs.Inlets.{inlet_views}
use Rattle.eip_endpoint.specs.Lanes.{lane_views}
use Rattle.eip_outlets.specs.Outlets.{outlets}
use Rattle.eip_owners.specs.Owners.{OwnersPull}
use Rattle.eip_workers.proofs.Compose.{works-refl}
use Rattle.eip_workers.proofs.rounds.round.Goals as goal

pub returns-in_default-clause-works : goal.returns-in_default-clause-works
returns-in_default-clause-works g c = works-refl c.args.hub (lane_views g.E.Endpoint c.args.lanes.now.items) (inlet_views g.S.Source c.args.inlets.now.items)

pub returns-in_default-new-clause-works : goal.returns-in_default-new-clause-works
returns-in_default-new-clause-works g c = works-refl c.args.hub (lane_views g.E.Endpoint c.args.lanes.now.items) (inlet_views g.S.Source c.args.inlets.now.items)

pub share-hub-requires-clause-pulls : goal.share-hub-requires-clause-pulls
share-hub-requires-clause-pulls g c κs within =
    subst (λ n. OwnersPull (outlets c.args.hub.set) n c.args.hub.journal.past) (sym c.requires.workers.1) c.requires.pulls
