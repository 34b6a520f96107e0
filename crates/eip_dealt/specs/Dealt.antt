-- Lanes and inlets that are dealt out to their owners: what each worker finds and does among its own, and what comes of all.
use Rattle.std.specs.Prelude.{ℕ, ◌≡◌, ◌+◌, ◌<◌, ◌%◌, ◌++◌, List, Some, IsSome, map, slice_get}
use Rattle.eip_route.specs.declared.route.RouteSet.{RouteSet}
use Rattle.eip_frames.specs.declared.request.Target.{Target}
use Rattle.eip_frames.specs.Targets.{lane_of}
use Rattle.eip_endpoint.specs.Inlets.{InletView, InletsGrew, inlet_names}
use Rattle.eip_endpoint.specs.Lanes.{LaneView, LanesGrew, first_named, lane_names}
use Rattle.eip_endpoint.specs.Outside.{Doors, calls}
use Rattle.eip_history.specs.Own.{Past}
use Rattle.eip_history.specs.Owner.{owner}
use Rattle.eip_history.specs.Plan.{Plan}
use Rattle.eip_history.specs.Rules.{KeepsRules}
use Rattle.eip_outlets.specs.Doors.{inlet_at, doors_of}
use Rattle.eip_outlets.specs.Outlets.{outlets}
use Rattle.eip_owners.specs.Acts.{inlet_acts}
use Rattle.eip_owners.specs.Owners.{answers_of, acts_by_worker, answered, OwnersPull, IsOwnedBehind}
use Rattle.eip_shares.specs.Shares.{share}

-- the entries that n workers made behind a past of a run of this set, over lanes and inlets of its names: the journal keeps its rules, and each
-- Pull, and each answer to a Send or a Finish with commit, is of the owner of that lane or inlet
pub record AreOwners (set : RouteSet) (s : Plan) (n limit : ℕ) (past behind : Past) (lanes : List LaneView) (inlets : List InletView) : Type 0 where
  pub some : 0 < n
  pub lanes_named : set.names.lanes ≡ lane_names lanes
  pub inlets_named : set.names.inlets ≡ inlet_names inlets
  pub legal : KeepsRules s n limit (behind ++ past)
  pub home : OwnersPull (outlets set) n past
  pub owned : IsOwnedBehind s (outlets set) n past behind

-- the doors of a set among what is seen of these lanes and inlets
abbrev pub doors_over : {L I : Type 0} → RouteSet → (L → LaneView) → (I → InletView) → List L → List I → Doors
doors_over set f g lanes inlets = doors_of set (lane_names (map f lanes)) (inlet_names (map g inlets))

-- ---- what a worker finds

-- what is the first of its name among all is the first of that name in the share that it was dealt to
abbrev pub OwnDoor : {A : Type 0} → (A → List ℕ) → Type 0
OwnDoor {A = A} f = (n k e : ℕ) (name : List ℕ) (all : List A) → first_named name (map f all) ≡ Some e → e % n ≡ k
    → (i : ℕ) × (first_named name (map f (share n k 0 all)) ≡ Some i) × (slice_get (share n k 0 all) i ≡ slice_get all e)

-- a worker finds the lane of a target in its share, where the set has one and it is the worker's
abbrev pub OwnLane : {L : Type 0} → (L → LaneView) → Type 0
OwnLane {L = L} f = (set : RouteSet) (n k : ℕ) (t : Target) (lanes : List L) → set.names.lanes ≡ lane_names (map f lanes)
    → IsSome (first_named (lane_of t) set.names.lanes) → k + 1 ≡ owner n ((outlets set).lane t)
    → IsSome (first_named (lane_of t) (lane_names (map f (share n k 0 lanes))))

-- and the inlet of a route's source
abbrev pub OwnInlet : {I : Type 0} → (I → InletView) → Type 0
OwnInlet {I = I} g = (set : RouteSet) (n k t : ℕ) (inlets : List I) → set.names.inlets ≡ inlet_names (map g inlets)
    → IsSome (inlet_at set.names.inlets (slice_get set.routes t)) → k + 1 ≡ owner n ((outlets set).inlet t)
    → IsSome (inlet_at (inlet_names (map g (share n k 0 inlets))) (slice_get set.routes t))

-- ---- what comes of all

-- the lanes of worker k + 1, which it finds in its share, have had the calls of its answers: then they are the shares of lanes that have had
-- all calls of the journal, in its order
abbrev pub DealtLanes : {L I : Type 0} → (L → LaneView) → (I → InletView) → Type 0
DealtLanes {L = L} {I = I} f g = (set : RouteSet) (s : Plan) (n limit : ℕ) (past behind : Past) (lanes : List L) (inlets : List I) (lists : ℕ → List L)
    → AreOwners set s n limit past behind (map f lanes) (map g inlets)
    → ((k : ℕ) → k < n → LanesGrew 0 (calls (doors_over set f g (share n k 0 lanes) (share n k 0 inlets)) (answers_of (k + 1) (answered s past behind)))
    (map f (share n k 0 lanes)) (map f (lists k)))
    → (new : List L) × ((k : ℕ) → k < n → lists k ≡ share n k 0 new)
    × LanesGrew 0 (calls (doors_over set f g lanes inlets) (answered s past behind)) (map f lanes) (map f new)

-- the inlets of worker k + 1, which it finds in its share, did what its entries and answers say: then they are the shares of inlets that did
-- all that the journal says, in its order
abbrev pub DealtInlets : {L I : Type 0} → (L → LaneView) → (I → InletView) → Type 0
DealtInlets {L = L} {I = I} f g = (set : RouteSet) (s : Plan) (n limit : ℕ) (past behind : Past) (lanes : List L) (inlets : List I) (lists : ℕ → List I)
    → AreOwners set s n limit past behind (map f lanes) (map g inlets)
    → ((k : ℕ) → k < n
    → InletsGrew 0 (acts_by_worker (doors_over set f g (share n k 0 lanes) (share n k 0 inlets)) (k + 1) behind (answered s past behind))
    (map g (share n k 0 inlets)) (map g (lists k)))
    → (new : List I) × ((k : ℕ) → k < n → lists k ≡ share n k 0 new)
    × InletsGrew 0 (inlet_acts (doors_over set f g lanes inlets) behind (answered s past behind)) (map g inlets) (map g new)
