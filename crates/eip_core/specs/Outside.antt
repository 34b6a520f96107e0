-- What one call of whoever stands outside does.
use Rattle.std.specs.Prelude.{ℕ, ◌≡◌, List, [], ◌∷◌, IsSome, IfOk, Result, Ok, Err, true, slice_get}
use Rattle.eip_text.specs.declared.memory.NoMemory.{NoMemory}
use Rattle.eip_exchange.specs.declared.birth.Origin.{Origin}
use Rattle.eip_exchange.specs.declared.birth.Origin.TheVariants as from
use Rattle.eip_exchange.specs.declared.end.End.{End}
use Rattle.eip_exchange.specs.declared.message.Message.{Message}
use Rattle.eip_route.specs.Goals.{is_among}
use Rattle.eip_route.specs.declared.route.Names.{Names}
use Rattle.eip_route.specs.declared.route.RouteSet.{RouteSet}
use Rattle.eip_frames.specs.declared.answer.Answer.{Answer as Reply}
use Rattle.eip_frames.specs.declared.answer.Answer.TheVariants.{Became, Raised, Holds}
use Rattle.eip_frames.specs.declared.request.Request.{Request}
use Rattle.eip_frames.specs.declared.request.Request.TheVariants.{Send, Process, Test, Finish}
use Rattle.eip_frames.specs.declared.request.Target.{Target}
use Rattle.eip_frames.specs.Fits.{fits}
use Rattle.eip_endpoint.specs.declared.endpoint.Call.{Call}
use Rattle.eip_endpoint.specs.Lanes.{LaneCall, LaneView, LanesGrew, first_named}
use Rattle.eip_endpoint.specs.Inlets.{Act, InletAct, InletView, InletsGrew}
use Rattle.eip_endpoint.specs.Outside.{Doors, lane_of, call_by, calls_for, acts_by, told_by, commits_for}
use Rattle.eip_processor.specs.Registered.{RegistryView}
use Rattle.eip_processor.specs.declared.processor.ProcessFault.TheVariants as fault
use Rattle.eip_history.specs.Rules.{Served}
pub use Rattle.eip_owners.specs.Acts.{seen_answer, seen_answers, refusal_of, pulls_in, inlet_acts}
unfoldable pub use Rattle.eip_owners.specs.Acts.{pulls}
use Rattle.eip_core.specs.Doors.{HasInlet, doors_among, inlet_at, uri_at}

-- the source that an exchange came from has its inlet
abbrev pub HasSource : RouteSet → (inlets : List (List ℕ)) → Origin → Type 0
HasSource set inlets (from.Source t item) = HasInlet set inlets t
HasSource set inlets _ = ⊥

-- a request that somebody outside can be asked: a send to a lane that is handed in, a processor or a predicate of the registry, or the end of an
-- exchange whose source is to be told and has its inlet
abbrev pub IsAskable : RouteSet → Names → Origin → Request → Type 0
IsAskable set names o (Send t m) = IsSome (first_named (lane_of t) names.lanes)
IsAskable set names o (Process name m) = is_among name names.processors ≡ true
IsAskable set names o (Test name m) = is_among name names.predicates ≡ true
IsAskable set names o (Finish e m commit) = HasSource set names.inlets o × (commit ≡ true)
IsAskable set names o _ = ⊥

-- acts of the inlet of a route's source
abbrev pub acts_from : RouteSet → (inlets : List (List ℕ)) → ℕ → List Act → List InletAct
acts_from set inlets t acts = acts_by (inlet_at inlets (slice_get set.routes t)) (uri_at (slice_get set.routes t)) acts

-- the call of a lane that an answer tells of; want of memory did nothing
abbrev pub sent_by : Target → Message → Result Reply NoMemory → List Call
sent_by t m (Ok a) = call_by t m a
sent_by t m (Err f) = []

-- what an answer says that a source was told; want of memory did nothing
abbrev pub ended_by : List ℕ → End → Result Reply NoMemory → List Act
ended_by item e (Ok a) = told_by item e a
ended_by item e (Err f) = []

-- the same for the source that an exchange came from
abbrev pub source_told : RouteSet → (inlets : List (List ℕ)) → Origin → End → Result Reply NoMemory → List InletAct
source_told set inlets (from.Source t item) e r = acts_from set inlets t (ended_by item e r)
source_told set inlets _ e r = []

-- the calls of lanes that an answer to a request tells of
abbrev pub calls_told : Doors → Request → Result Reply NoMemory → List LaneCall
calls_told d q (Ok a) = calls_for d q a
calls_told d q (Err f) = []

-- what an answer to the request of an exchange says that inlets were told
abbrev pub commits_told : Doors → Origin → Request → Result Reply NoMemory → List InletAct
commits_told d o q (Ok a) = commits_for d o q a
commits_told d o q (Err f) = []

-- an answer is one that the processor or the predicate of the name may give; others answer for themselves
abbrev pub IsTheirs : RegistryView → Request → Reply → Type 0
IsTheirs registry (Process name m) (Became new) = registry.processes name m (Ok new)
IsTheirs registry (Process name m) (Raised f) = registry.processes name m (Err (fault.Raised f))
IsTheirs registry (Test name m) (Holds b) = registry.tests name m b
IsTheirs registry _ _ = Unit {0}

-- each of these answers is
abbrev pub AreTheirs : RegistryView → List Served → Type 0
AreTheirs registry [] = Unit {0}
AreTheirs registry (v ∷ vs) = IsTheirs registry v.asked.request v.answer × AreTheirs registry vs

-- somebody outside was asked: the answer fits and is that of whoever was asked, and lanes and inlets did what it says; where no memory was left, nothing
pub record Asks (set : RouteSet) (o : Origin) (q : Request) (r : Result Reply NoMemory) (lanes_old lanes_new : List LaneView)
    (inlets_old inlets_new : List InletView) (registry : RegistryView) : Type 0 where
  pub fitting : IfOk r (λ a. fits q a ≡ true)
  pub theirs : IfOk r (λ a. IsTheirs registry q a)
  pub lanes : LanesGrew 0 (calls_told (doors_among set lanes_old inlets_old) q r) lanes_old lanes_new
  pub inlets : InletsGrew 0 (commits_told (doors_among set lanes_old inlets_old) o q r) inlets_old inlets_new
