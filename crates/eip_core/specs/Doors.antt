-- What is handed in for a set: an inlet for each source, and a lane for each target.
use Rattle.std.specs.Prelude.{ℕ, ◌≡◌, true, List, IsSome, slice_get}
use Rattle.eip_route.specs.Goals.{is_among}
use Rattle.eip_route.specs.Valid.{IsValid}
use Rattle.eip_route.specs.declared.route.Names.{Names}
use Rattle.eip_route.specs.declared.route.RouteSet.{RouteSet}
use Rattle.eip_endpoint.specs.Inlets.{InletView, inlet_names}
use Rattle.eip_endpoint.specs.Lanes.{LaneView, first_named, lane_names}
use Rattle.eip_endpoint.specs.Outside.{Doors}
pub use Rattle.eip_outlets.specs.Doors.{inlet_named, inlet_at, uri_at, doors_of}
use Rattle.eip_history.specs.Rules.{IsSource}
use Rattle.eip_plan.specs.Plan.{plan_of}

-- the doors of a set among these lanes and inlets
abbrev pub doors_among : RouteSet → List LaneView → List InletView → Doors
doors_among set ls is = doors_of set (lane_names ls) (inlet_names is)

-- the route has an inlet to read from
abbrev pub HasInlet : RouteSet → List (List ℕ) → ℕ → Type 0
HasInlet set inlets t = IsSome (inlet_at inlets (slice_get set.routes t))

-- each source of the set has its inlet
abbrev pub HasInlets : RouteSet → List (List ℕ) → Type 0
HasInlets set inlets = (t : ℕ) → IsSource (plan_of set) t → HasInlet set inlets t

-- each lane that the set names is handed in
abbrev pub HasLanes : RouteSet → List (List ℕ) → Type 0
HasLanes set lanes = (name : List ℕ) → is_among name set.names.lanes ≡ true → IsSome (first_named name lanes)

-- the set can be run over what is handed in under these names: it is valid, and these are its names
pub record CanRun (set : RouteSet) (names : Names) : Type 0 where
  pub valid : IsValid set
  pub named : set.names ≡ names
