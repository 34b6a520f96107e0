-- What a worker may rely on, and what it does by its turns and calls.
use Rattle.std.specs.Prelude.{ℕ, ◌≡◌, List, [], ◌∷◌, ◌++◌, Option, Some, None, IsSome, slice_get}
use Rattle.eip_frames.specs.Targets.{lane_of}
use Rattle.eip_frames.specs.declared.request.Target.{Target}
use Rattle.eip_route.specs.Valid.{IsValid}
use Rattle.eip_route.specs.declared.route.RouteSet.{RouteSet}
use Rattle.eip_endpoint.specs.Inlets.{InletAct, InletView, InletsGrew, inlet_names}
use Rattle.eip_endpoint.specs.Lanes.{LaneView, LanesGrew, first_named, lane_names}
use Rattle.eip_endpoint.specs.Outside.{Doors, calls, commits}
use Rattle.eip_history.specs.Owner.{owner}
use Rattle.eip_outlets.specs.Doors.{inlet_at}
use Rattle.eip_outlets.specs.Outlets.{outlets}
use Rattle.eip_processor.specs.Registered.{RegistryView}
use Rattle.eip_core.specs.Doors.{doors_among}
use Rattle.eip_core.specs.Outside.{IsTheirs, pulls}
use Rattle.eip_turnstile.specs.declared.view.View.{View}
use Rattle.eip_plan.specs.Plan.{plan_of}
use Rattle.eip_shared.specs.Looks.{Tells}
use Rattle.eip_shared.specs.declared.looks.Look.{Look}
use Rattle.eip_shared.specs.Turns.{IsAtWork, past_seen}
use Rattle.eip_shared.specs.Deeds.{own_answers, own_entries}
use Rattle.eip_shared.specs.declared.beginning.Beginning.{Beginning}
use Rattle.eip_shared.specs.declared.deed.Deed.{Deed}
use Rattle.eip_shared.specs.declared.deed.Given.{Given}

-- worker w of n has each lane and inlet of the set that it owns, under its name, and the registry has what the set names
pub record IsEquipped (set : RouteSet) (n w : ℕ) (own_lanes : List LaneView) (own_inlets : List InletView) (registry : RegistryView) : Type 0 where
  pub valid : IsValid set
  pub processors : set.names.processors ≡ registry.processors
  pub predicates : set.names.predicates ≡ registry.predicates
  pub lanes : (t : Target) → IsSome (first_named (lane_of t) set.names.lanes) → w ≡ owner n ((outlets set).lane t) → IsSome (first_named (lane_of t) (lane_names own_lanes))
  pub inlets : (t : ℕ) → IsSome (inlet_at set.names.inlets (slice_get set.routes t)) → w ≡ owner n ((outlets set).inlet t)
      → IsSome (inlet_at (inlet_names own_inlets) (slice_get set.routes t))

-- what a deed answers for a processor or a predicate, the one of the name may answer
abbrev pub IsTheirDeed : RegistryView → Option Given → Type 0
IsTheirDeed registry (Some g) = IsTheirs registry g.request g.answer
IsTheirDeed registry None = Unit {0}

abbrev pub AreTheirDeeds : RegistryView → List Deed → Type 0
AreTheirDeeds registry [] = Unit {0}
AreTheirDeeds registry (d ∷ ds) = IsTheirDeed registry d.given × AreTheirDeeds registry ds

-- what inlets did by these deeds of worker w: what came of its pulls, and what they were told of ends
abbrev pub own_acts : Doors → ℕ → List Deed → List InletAct
own_acts d w ds = pulls d (own_entries w ds) ++ commits d (own_answers w ds)

-- worker w did more, and by it its lanes and inlets did what it says, in its order
pub record Serves (set : RouteSet) (w : ℕ) (old new : List Deed) (lanes_old lanes_new : List LaneView) (inlets_old inlets_new : List InletView) (registry : RegistryView) : Type 0 where
  pub did : List Deed
  pub mine : new ≡ old ++ did
  pub lanes : LanesGrew 0 (calls (doors_among set lanes_old inlets_old) (own_answers w did)) lanes_old lanes_new
  pub inlets : InletsGrew 0 (own_acts (doors_among set lanes_old inlets_old) w did) inlets_old inlets_new
  pub theirs : AreTheirDeeds registry did

-- the seat is as before but for what it has seen and made
pub record KeepsSeat (old new : View Deed Beginning) : Type 0 where
  pub number : new.number ≡ old.number
  pub base : new.base ≡ old.base
  pub made : new.made ≡ old.made
  pub olds : new.olds ≡ old.olds

-- a worker's seat in a run that began so, with what it may rely on; `sources` has the routes of the run's set
pub record IsReady (start : Beginning) (v : View Deed Beginning) (sources : RouteSet) (lanes : List LaneView) (inlets : List InletView) (registry : RegistryView) : Type 0 where
  pub works : IsAtWork start v
  pub routes : sources.routes ≡ start.set.routes
  pub equipped : IsEquipped start.set start.workers v.number lanes inlets registry

-- the worker took turns and made calls, and sits as before
pub record Served (start : Beginning) (old new : View Deed Beginning) (lanes_old lanes_new : List LaneView) (inlets_old inlets_new : List InletView) (registry : RegistryView) : Type 0 where
  pub keeps : KeepsSeat old new
  pub works : IsAtWork start new
  pub serves : Serves start.set old.number old.mine new.mine lanes_old lanes_new inlets_old inlets_new registry

-- how things stand behind a look that answered this, as the worker's seat knows
abbrev pub Stands : Beginning → View Deed Beginning → Look → Type 0
Stands start v what = Tells (plan_of start.set) (outlets start.set) start.workers start.turns (past_seen start v) v.number what
