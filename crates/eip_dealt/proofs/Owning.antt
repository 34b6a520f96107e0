-- What a worker finds of its own.
use Rattle.std.proofs.Common.{◌≡◌, ℕ, ◌+◌, ◌%◌, List, map, Option, Some, None, refl, sym, ap, subst, ◌∙◌, arith, map-id}
use Rattle.std.specs.Prelude.{IsSome, slice_get, unwrap_or}
use Rattle.eip_uri.specs.Inlets.{inlet_of}
use Rattle.eip_route.specs.declared.route.Route.{Route}
use Rattle.eip_route.specs.declared.route.RouteSet.{RouteSet}
use Rattle.eip_frames.specs.declared.request.Target.{Target}
use Rattle.eip_frames.specs.Targets.{lane_of}
use Rattle.eip_endpoint.specs.Inlets.{InletView, inlet_names}
use Rattle.eip_endpoint.specs.Lanes.{LaneView, first_named, lane_names}
use Rattle.eip_history.specs.Owner.{owner}
use Rattle.eip_outlets.specs.Doors.{inlet_named, inlet_at, doors_of}
use Rattle.eip_outlets.specs.Outlets.{outlets}
use Rattle.eip_owners.specs.Owners.{LeadsTo}
use Rattle.eip_shares.specs.Shares.{share}
use Rattle.eip_shares.proofs.Dealt.{share-map}
use Rattle.eip_dealt.proofs.Places.{own-door}

-- the outlets of a set are its doors among lanes and inlets of its names
pub leads-to : (set : RouteSet) (lanes : List LaneView) (inlets : List InletView) → set.names.lanes ≡ lane_names lanes
    → set.names.inlets ≡ inlet_names inlets → LeadsTo (doors_of set (lane_names lanes) (inlet_names inlets)) (outlets set)
leads-to set lanes inlets ls is = record {
  inlet = λ t k h. ap (λ ns. unwrap_or (inlet_at ns (slice_get set.routes t)) 0) is ∙ ap (λ o. unwrap_or o 0) h;
  lane = λ t k h. ap (λ ns. unwrap_or (first_named (lane_of t) ns) 0) ls ∙ ap (λ o. unwrap_or o 0) h;
}

-- what is found among all, and is the worker's, is found in its share
find-own : (n k : ℕ) (asked : Option (List ℕ)) (names : List (List ℕ)) → IsSome (inlet_named names asked)
    → k + 1 ≡ owner n (unwrap_or (inlet_named names asked) 0) → IsSome (inlet_named (share n k 0 names) asked)
find-own n k None names there own = absurd (cc there)
find-own n k (Some name) names there own = by_place (first_named name names) refl there own
  where
    by_place : (o : Option ℕ) → first_named name names ≡ o → IsSome o → k + 1 ≡ owner n (unwrap_or o 0) → IsSome (first_named name (share n k 0 names))
    by_place None at there own = absurd (cc there)
    by_place (Some e) at there own =
        let turn : e % n ≡ k = omega (arith, own) in
        let same : map (λ (m : List ℕ). m) names ≡ names = map-id names in
        let found = own-door (λ (m : List ℕ). m) n k e name names (ap (first_named name) same ∙ at) turn in
        let here : first_named name (share n k 0 names) ≡ Some found.0 = ap (first_named name) (sym (map-id (share n k 0 names))) ∙ found.1 in
        subst IsSome (sym here) refl

pub own-lane : {L : Type 0} (f : L → LaneView) (set : RouteSet) (n k : ℕ) (t : Target) (lanes : List L) → set.names.lanes ≡ lane_names (map f lanes)
    → IsSome (first_named (lane_of t) set.names.lanes) → k + 1 ≡ owner n ((outlets set).lane t)
    → IsSome (first_named (lane_of t) (lane_names (map f (share n k 0 lanes))))
own-lane f set n k t lanes named there own =
    let names : share n k 0 set.names.lanes ≡ lane_names (map f (share n k 0 lanes)) =
    ap (share n k 0) named ∙ (sym (share-map (λ (v : LaneView). v.name) n k 0 (map f lanes)) ∙ ap lane_names (sym (share-map f n k 0 lanes))) in
    subst (λ ns. IsSome (first_named (lane_of t) ns)) names (find-own n k (Some (lane_of t)) set.names.lanes there own)

pub own-inlet : {I : Type 0} (g : I → InletView) (set : RouteSet) (n k t : ℕ) (inlets : List I) → set.names.inlets ≡ inlet_names (map g inlets)
    → IsSome (inlet_at set.names.inlets (slice_get set.routes t)) → k + 1 ≡ owner n ((outlets set).inlet t)
    → IsSome (inlet_at (inlet_names (map g (share n k 0 inlets))) (slice_get set.routes t))
own-inlet g set n k t inlets named there own =
    let names : share n k 0 set.names.inlets ≡ inlet_names (map g (share n k 0 inlets)) =
    ap (share n k 0) named ∙ (sym (share-map (λ (v : InletView). v.name) n k 0 (map g inlets)) ∙ ap inlet_names (sym (share-map g n k 0 inlets))) in
    by_route (slice_get set.routes t) names there own
  where
    by_route : (r : Option Route) → share n k 0 set.names.inlets ≡ inlet_names (map g (share n k 0 inlets)) → IsSome (inlet_at set.names.inlets r)
        → k + 1 ≡ owner n (unwrap_or (inlet_at set.names.inlets r) 0) → IsSome (inlet_at (inlet_names (map g (share n k 0 inlets))) r)
    by_route None names there own = absurd (cc there)
    by_route (Some r) names there own =
        subst (λ ns. IsSome (inlet_named ns (inlet_of r.from))) names (find-own n k (inlet_of r.from) set.names.inlets there own)
