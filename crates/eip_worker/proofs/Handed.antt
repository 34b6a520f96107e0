-- What an exchange in a worker's hand asks, the worker's own lanes and inlets, or the registry, can be asked for it.
use Rattle.std.proofs.Common.{◌≡◌, ℕ, true, false, List, refl, subst}
use Rattle.eip_exchange.specs.declared.birth.Birth.{Birth}
use Rattle.eip_exchange.specs.declared.birth.Origin.{Origin}
use Rattle.eip_exchange.specs.declared.birth.Origin.TheVariants as origin
use Rattle.eip_frames.specs.Fits.{is_outside}
use Rattle.eip_frames.specs.declared.request.Request.{Request}
use Rattle.eip_frames.specs.declared.request.Request.TheVariants as request
use Rattle.eip_route.specs.Goals.{is_among}
use Rattle.eip_route.specs.declared.route.RouteSet.{RouteSet}
use Rattle.eip_endpoint.specs.Inlets.{InletView, inlet_names}
use Rattle.eip_endpoint.specs.Lanes.{LaneView}
use Rattle.eip_history.specs.Births.{asked}
use Rattle.eip_history.specs.Own.{Past}
use Rattle.eip_history.specs.Owner.{outlet_for, IsOwner}
use Rattle.eip_plan.specs.Plan.{plan_of}
use Rattle.eip_outlets.specs.Outlets.{outlets}
use Rattle.eip_processor.specs.Registered.{RegistryView}
use Rattle.eip_core.specs.Doors.{CanRun, HasInlet}
use Rattle.eip_core.specs.Served.{names_of}
use Rattle.eip_core.specs.Outside.{IsAskable}
use Rattle.eip_core.proofs.Askable.{asked-askable}
use Rattle.eip_core.proofs.Handed.{runs-inlets}
use Rattle.eip_shared.specs.Shared.{IsHeld, IsPulled}
use Rattle.eip_worker.specs.Serves.{IsEquipped}

-- a valid set can be run over its own names
can-run : {set : RouteSet} {n w : ℕ} {lanes : List LaneView} {inlets : List InletView} {registry : RegistryView} → IsEquipped set n w lanes inlets registry → CanRun set set.names
can-run e = record { valid = e.valid; named = refl }

-- sources have the routes of the set
with-routes : (set sources : RouteSet) (inlets : List (List ℕ)) (t : ℕ) → sources.routes ≡ set.routes → HasInlet set inlets t → HasInlet sources inlets t
with-routes set sources inlets t same h = rw same h

own-askable : (set : RouteSet) (n w : ℕ) (lanes : List LaneView) (inlets : List InletView) (registry : RegistryView) (e : IsEquipped set n w lanes inlets registry)
    (b : Birth) (o : Origin) (q : Request) → b.origin ≡ o → IsOwner n w (outlet_for (outlets set) b q) → IsAskable set set.names o q
    → IsAskable set (names_of lanes inlets registry) o q
own-askable set n w lanes inlets registry e b o (request.Send t m) from own can = e.lanes t can own
own-askable set n w lanes inlets registry e b o (request.Process name m) from own can = subst (λ ns. is_among name ns ≡ true) e.processors can
own-askable set n w lanes inlets registry e b o (request.Test name m) from own can = subst (λ ns. is_among name ns ≡ true) e.predicates can
own-askable set n w lanes inlets registry e b (origin.Source t item) (request.Finish end m true) from own can = (e.inlets t can.0 (rw from at own), refl)
own-askable set n w lanes inlets registry e b (origin.Source t item) (request.Finish end m false) from own can = absurd (cc can.1)
own-askable set n w lanes inlets registry e b _ (request.Finish end m commit) from own can = absurd can.0
own-askable set n w lanes inlets registry e b o _ from own can = absurd can

-- the same over the routes alone
routes-askable : (set sources : RouteSet) (lanes : List LaneView) (inlets : List InletView) (registry : RegistryView) (o : Origin) (q : Request) → sources.routes ≡ set.routes
    → IsAskable set (names_of lanes inlets registry) o q → IsAskable sources (names_of lanes inlets registry) o q
routes-askable set sources lanes inlets registry (origin.Source t item) (request.Finish end m commit) same can = (with-routes set sources (inlet_names inlets) t same can.0, can.1)
routes-askable set sources lanes inlets registry _ (request.Finish end m commit) same can = absurd can.0
routes-askable set sources lanes inlets registry o (request.Send t m) same can = can
routes-askable set sources lanes inlets registry o (request.Process name m) same can = can
routes-askable set sources lanes inlets registry o (request.Test name m) same can = can
routes-askable set sources lanes inlets registry o _ same can = absurd can

pub held-askable : (set sources : RouteSet) (n w x : ℕ) (past : Past) (lanes : List LaneView) (inlets : List InletView) (registry : RegistryView) (o : Origin) (q : Request)
    → sources.routes ≡ set.routes → IsEquipped set n w lanes inlets registry → IsHeld (plan_of set) (outlets set) n past w x o q → is_outside q ≡ true
    → IsAskable sources (names_of lanes inlets registry) o q
held-askable set sources n w x past lanes inlets registry o q same e held outside =
    let can = asked-askable set.names set (can-run e) past x held.asker held.asks (rw (← held.request) at outside) in
    routes-askable set sources lanes inlets registry o q same
    (own-askable set n w lanes inlets registry e held.asker.birth o q held.origin (rw held.request at held.own) (rw (held.origin, held.request) at can))

pub pulled-inlet : (set sources : RouteSet) (n w t : ℕ) (past : Past) (lanes : List LaneView) (inlets : List InletView) (registry : RegistryView)
    → sources.routes ≡ set.routes → IsEquipped set n w lanes inlets registry → IsPulled (plan_of set) (outlets set) n past w t
    → HasInlet sources (inlet_names inlets) t
pulled-inlet set sources n w t past lanes inlets registry same e pulled =
    with-routes set sources (inlet_names inlets) t same (e.inlets t (runs-inlets (can-run e) t pulled.source) pulled.own)
