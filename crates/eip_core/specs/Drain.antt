-- What a drain on one thread leaves.
use Rattle.std.specs.Prelude.{ℕ, ◌≡◌, ◌<◌, ◌≤◌, ◌⊎◌, ◌++◌, IsTrue, List, [], ◌∷◌, Some, None, Result}
use Rattle.eip_text.specs.declared.memory.NoMemory.{NoMemory as Starved}
use Rattle.eip_exchange.specs.declared.birth.Origin.{Origin}
use Rattle.eip_frames.specs.declared.request.Request.{Request}
use Rattle.eip_frames.specs.declared.answer.Answer.{Answer as Reply}
use Rattle.eip_ledger.specs.declared.place.Stop.{Stop}
use Rattle.eip_ledger.specs.declared.place.Stop.TheVariants.{NoMemory}
use Rattle.eip_endpoint.specs.Lanes.{LaneView, LanesGrew}
use Rattle.eip_endpoint.specs.Inlets.{InletView, InletsGrew}
use Rattle.eip_endpoint.specs.Outside.{Doors, calls}
use Rattle.eip_history.specs.Plan.{Plan}
use Rattle.eip_history.specs.Own.{Past, turns}
use Rattle.eip_history.specs.Place.{hands, ready_numbers}
use Rattle.eip_history.specs.Rules.{Served, served, first}
use Rattle.eip_history.specs.Stop.{stop_of, actor, is_of}
use Rattle.eip_history.specs.Work.{work}
use Rattle.eip_history.specs.BookText.{origin_at}
use Rattle.eip_hub.specs.View.{BooksView, plan, IsLegalRun, IsSameRun}
use Rattle.eip_core.specs.Doors.{CanRun, doors_among}
use Rattle.eip_processor.specs.Registered.{RegistryView}
use Rattle.eip_core.specs.Served.{names_of}
use Rattle.eip_core.specs.Outside.{Asks, AreTheirs, seen_answers, inlet_acts}

-- the stop of the journal, or want of memory
abbrev pub IsStop : BooksView → Stop → Type 0
IsStop v stop = (stop ≡ NoMemory) ⊎ (stop_of (plan v) v.journal.turns v.journal.past ≡ Some stop)

-- the doors of a run among these lanes and inlets
abbrev pub doors : BooksView → List LaneView → List InletView → Doors
doors v ls is = doors_among v.set ls is

-- the set of a run can be run over these lanes and inlets, with this registry
abbrev pub CanDrain : BooksView → List LaneView → List InletView → RegistryView → Type 0
CanDrain v ls is registry = CanRun v.set (names_of ls is registry)

-- a run that goes on, with no hand out
pub record Rests (v : BooksView) : Type 0 where
  pub legal : IsLegalRun v
  pub home : hands (plan v) v.journal.past ≡ 0
  pub waits : stop_of (plan v) v.journal.turns v.journal.past ≡ None

-- the least Ready exchange of a run that goes on
pub record Chosen (v : BooksView) (x : ℕ) : Type 0 where
  pub rests : Rests v
  pub least : first (ready_numbers (plan v) v.journal.past) ≡ Some x

-- somebody outside was asked for an exchange, wherever it came from
abbrev pub AsksFor : BooksView → ℕ → Request → Result Reply Starved → (lanes_old lanes_new : List LaneView) → (inlets_old inlets_new : List InletView) → RegistryView → Type 0
AsksFor v x q r lanes_old lanes_new inlets_old inlets_new registry =
    (o : Origin) → origin_at (plan v) v.journal.past x ≡ Some o → Asks v.set o q r lanes_old lanes_new inlets_old inlets_new registry

-- each of the entries behind a past is worker 0's and of the actor whose turn it was
abbrev pub IsPlainBehind : Plan → Past → Past → Type 0
IsPlainBehind s past [] = Unit {0}
IsPlainBehind s past (e ∷ behind) = IsPlainBehind s past behind × (e.worker ≡ 0) × IsTrue (is_of (actor s (behind ++ past)) e.kind)

-- entries were made behind the journal, each by the actor whose turn it was, and by them requests were answered; lanes and inlets did what
-- these entries and answers say, in their order, and what was processed or tested was answered by the one of that name
pub record Drains (old new : BooksView) (lanes_old lanes_new : List LaneView) (inlets_old inlets_new : List InletView) (registry : RegistryView) : Type 0 where
  pub behind : Past
  pub past : new.journal.past ≡ behind ++ old.journal.past
  pub answered : List Served
  pub answers : served (plan old) new.journal.past ≡ served (plan old) old.journal.past ++ answered
  pub same : IsSameRun old new
  pub plain : IsPlainBehind (plan old) old.journal.past behind
  pub lanes : LanesGrew 0 (calls (doors old lanes_old inlets_old) (seen_answers answered)) lanes_old lanes_new
  pub inlets : InletsGrew 0 (inlet_acts (doors old lanes_old inlets_old) behind (seen_answers answered)) inlets_old inlets_new
  pub theirs : AreTheirs registry answered

-- from one past to a later one no turn is lost, and where none was taken there is less left to do
pub record Progresses (s : Plan) (old new : Past) : Type 0 where
  pub turns_rise : turns old ≤ turns new
  pub less : turns new ≡ turns old → work s new < work s old

-- an act that leaves no hand out and makes progress
pub record Acts (old new : BooksView) : Type 0 where
  pub home : hands (plan new) new.journal.past ≡ 0
  pub progress : Progresses (plan new) old.journal.past new.journal.past
