-- What workers do together to a run, each on the lanes and inlets that it owns.
use Rattle.std.specs.Prelude.{ℕ, ◌≡◌, ◌+◌, ◌<◌, List, [], Vec, All, map, get_or}
use Rattle.std.specs.Global.{Global}
use Rattle.eip_route.specs.declared.route.RouteSet.{RouteSet}
use Rattle.eip_endpoint.specs.Inlets.{InletView, InletsGrew}
use Rattle.eip_endpoint.specs.Lanes.{LaneView, LanesGrew}
use Rattle.eip_endpoint.specs.Outside.{calls}
use Rattle.eip_history.specs.Rules.{IsLegal}
use Rattle.eip_plan.specs.Plan.{plan_of}
use Rattle.eip_processor.specs.Registered.{RegistryView}
use Rattle.eip_worker.specs.Doors.{doors_among}
use Rattle.eip_turnstile.specs.Rule.{entries_by, AllBelow}
use Rattle.eip_worker.specs.Deeds.{own_answers}
use Rattle.eip_worker.specs.Shared.{SharedView, beginning, log}
use Rattle.eip_worker.specs.Beginning.{Beginning}
use Rattle.eip_worker.specs.Deed.{Deed}
use Rattle.eip_worker.specs.Serves.{AreTheirDeeds, IsEquipped, own_acts}

-- the items of list k, and nothing where there are not so many lists
abbrev pub items_at : {A : Type 0} → List (Vec A Global) → ℕ → List A
items_at {A = A} lists k = get_or (map (λ (v : Vec A Global). v.items) lists) k []

-- the run that began so is legal, each worker has its routes, and worker k + 1 is equipped with these lanes and inlets
pub record MayWork (start : Beginning) (sources : List RouteSet) (lanes : ℕ → List LaneView) (inlets : ℕ → List InletView) (registry : RegistryView) : Type 0 where
  pub legal : IsLegal (plan_of start.set) start.workers start.turns start.past
  pub routes : All (λ (s : RouteSet). s.routes ≡ start.set.routes) sources
  pub equipped : (k : ℕ) → k < start.workers → IsEquipped start.set start.workers (k + 1) (lanes k) (inlets k) registry

-- these deeds are worker w's, and by them its lanes and inlets did what they say, in its order
pub record Did (set : RouteSet) (w : ℕ) (ds : List Deed) (lanes_old lanes_new : List LaneView) (inlets_old inlets_new : List InletView) (registry : RegistryView) : Type 0 where
  pub lanes : LanesGrew 0 (calls (doors_among set lanes_old inlets_old) (own_answers w ds)) lanes_old lanes_new
  pub inlets : InletsGrew 0 (own_acts (doors_among set lanes_old inlets_old) w ds) inlets_old inlets_new
  pub theirs : AreTheirDeeds registry ds

-- a run that began so, behind what its workers did to it, and to their lanes and inlets; nobody else did anything
pub record Together (start : Beginning) (run : SharedView) (lanes_old lanes_new : ℕ → List LaneView) (inlets_old inlets_new : ℕ → List InletView) (registry : RegistryView) : Type 0 where
  pub began : beginning run ≡ start
  pub no_first : entries_by 0 (log run) ≡ []
  pub below : AllBelow (start.workers + 1) (log run)
  pub each : (k : ℕ) → k < start.workers → Did start.set (k + 1) (entries_by (k + 1) (log run)) (lanes_old k) (lanes_new k) (inlets_old k) (inlets_new k) registry
