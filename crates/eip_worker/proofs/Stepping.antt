-- One step of a worker: a look, the call that it may ask for, and the entry of what came of that.
use Rattle.std.proofs.Common.{◌≡◌, ℕ, true, List, [], ◌++◌, Option, Some, refl, sym, ap, subst, append-nil}
use Rattle.eip_exchange.specs.declared.birth.Origin.{Origin}
use Rattle.eip_frames.specs.Fits.{fits}
use Rattle.eip_route.specs.declared.route.RouteSet.{RouteSet}
use Rattle.eip_ledger.specs.declared.place.Place.TheVariants.{InHand}
use Rattle.eip_endpoint.specs.Inlets.{InletView, InletsGrew, inlet_names}
use Rattle.eip_endpoint.specs.Lanes.{LaneView}
use Rattle.eip_endpoint.proofs.LaneLaws.{LanesGrew-none}
use Rattle.eip_history.specs.Place.{place}
use Rattle.eip_plan.specs.Plan.{plan_of}
use Rattle.eip_outlets.specs.Outlets.{outlets}
use Rattle.eip_owners.proofs.Pulled.{pulls-none}
use Rattle.eip_core.specs.Ticket.{Ticket}
use Rattle.eip_processor.specs.Registered.{RegistryView}
use Rattle.eip_core.specs.Doors.{HasInlet, doors_among}
use Rattle.eip_core.specs.Outside.{IsAskable}
use Rattle.eip_core.specs.Served.{names_of}
use Rattle.eip_turnstile.specs.declared.view.View.{View}
use Rattle.eip_shared.specs.Looks.{Saw, Took}
use Rattle.eip_shared.specs.Shared.{IsPulled}
use Rattle.eip_shared.specs.Turns.{Holds, IsAtWork, Knows, Turned, past_seen}
use Rattle.eip_shared.specs.declared.beginning.Beginning.{Beginning}
use Rattle.eip_shared.specs.declared.deed.Deed.{Deed}
use Rattle.eip_shared.specs.declared.looks.Look.{Look}
use Rattle.eip_shared.specs.declared.looks.Look.TheVariants as look
use Rattle.eip_shared.specs.declared.outcome.Outcome.{Outcome}
use Rattle.eip_shared.specs.declared.outcome.Outcome.TheVariants.{Settled, GivenUp, Accepted, Refused, Ended, Faulted}
use Rattle.eip_worker.specs.Calls.{Calls, Pulls}
use Rattle.eip_worker.specs.Serves.{IsReady, Served, Stands}
use Rattle.eip_worker.proofs.Following.{keeps-refl, ready-on, served-inner, served-trans}
use Rattle.eip_worker.proofs.Handed.{held-askable, pulled-inlet}

-- ---- the look

-- whatever it answers, lanes and inlets were asked for nothing so far
pub served-look : {start : Beginning} {u v : View Deed Beginning} {l : List LaneView} {i : List InletView} {registry : RegistryView} (what : Look) → IsAtWork start v → Saw start u v what
    → Served start u v l l i i registry
served-look what works saw = served-inner works saw.1 saw.2

-- a turn in which something was entered, and then a look
pub served-turn : {start : Beginning} {u w : View Deed Beginning} {l m : List LaneView} {i j : List InletView} {registry : RegistryView} {ds : List Deed} (what : Look)
    → ((behind : View Deed Beginning) × Turned u behind ds × IsAtWork start behind × Saw start behind w what) → IsAtWork start w
    → ((v : View Deed Beginning) → IsAtWork start v → Turned u v ds → Served start u v l m i j registry)
    → Served start u w l m i j registry × Stands start w what
served-turn what turn after enters = (served-trans (enters turn.0 turn.2 turn.1) (served-look what after turn.3), turn.3.3)

-- nothing was looked at
pub saw-nothing : (start : Beginning) (v : View Deed Beginning) → Saw start v v look.Did
saw-nothing start v =
    ([], record { mine = sym (append-nil v.mine); seen = ([], sym (append-nil v.seen)); number = refl; base = refl; made = refl; olds = refl }, tt, tt, refl)

-- one step behind others
pub served-on : {start : Beginning} {u v w : View Deed Beginning} {sources : RouteSet} {l m n : List LaneView} {i j k : List InletView} {registry : RegistryView} (what next : Look)
    → IsReady start u sources l i registry → Served start u v l m i j registry × Stands start v what
    → (IsReady start v sources m j registry → Stands start v what → Served start v w m n j k registry × Stands start w next)
    → Served start u w l n i k registry × Stands start w next
served-on what next ready before step =
    let after = step (ready-on ready before.0) before.1 in (served-trans before.0 after.0, after.1)

module _ (start : Beginning) (v : View Deed Beginning) where
  -- ---- a call

  -- the exchange of a ticket was taken in hand
  abbrev pub IsTaken : Ticket → Option (ℕ × List ℕ) → Type 0
  IsTaken t told = Took (plan_of start.set) (outlets start.set) start.workers (past_seen start v) v.number t.worker t.number t.request told

  pub call-askable : (sources : RouteSet) (l : List LaneView) (i : List InletView) (registry : RegistryView) (t : Ticket) (told : Option (ℕ × List ℕ))
      → IsReady start v sources l i registry → (took : IsTaken t told) → IsAskable sources (names_of l i registry) took.from t.request
  call-askable sources l i registry t told ready took =
      held-askable start.set sources start.workers v.number t.number (past_seen start v) l i registry took.from t.request ready.routes ready.equipped took.held took.outside

  pub call-known : (sources : RouteSet) (l m : List LaneView) (i j : List InletView) (registry : RegistryView) (t : Ticket) (told : Option (ℕ × List ℕ)) (out : Outcome)
      (took : IsTaken t told) → Calls sources took.from t out l m i j registry → Knows start v took.from out
  call-known sources l m i j registry t told (Settled x a) took called =
      subst (λ (y : Ticket). Holds start v y.number took.from y.request × (y.worker ≡ v.number) × (fits y.request a ≡ true)) (sym called.0)
      (took.held, took.holder, called.1.fitting)
  call-known sources l m i j registry t told (GivenUp x) took called =
      subst (λ (y : Ticket). (place (plan_of start.set) (past_seen start v) y.number ≡ Some (InHand v.number)) × (y.worker ≡ v.number)) (sym called.0)
      (took.held.there, took.holder)
  call-known sources l m i j registry t told _ took called = absurd called

  -- ---- a pull

  -- a source is being pulled
  abbrev pub IsOut : ℕ → Type 0
  IsOut t = IsPulled (plan_of start.set) (outlets start.set) start.workers (past_seen start v) v.number t

  pub pull-inlet : (sources : RouteSet) (l : List LaneView) (i : List InletView) (registry : RegistryView) (t : ℕ)
      → IsReady start v sources l i registry → IsOut t → HasInlet sources (inlet_names i) t
  pull-inlet sources l i registry t ready out =
      pulled-inlet start.set sources start.workers v.number t (past_seen start v) l i registry ready.routes ready.equipped out

  pub pull-known : (sources : RouteSet) (i j : List InletView) (from : Origin) (t : ℕ) (out : Outcome) → IsOut t → Pulls sources t out i j → Knows start v from out
  pull-known sources i j from t (Accepted s item m) out came = (subst IsOut (sym came.0) out, came.1)
  pull-known sources i j from t (Refused s item cause) out came = subst IsOut (sym came.0) out
  pull-known sources i j from t (Ended s) out came = subst IsOut (sym came.0) out
  pull-known sources i j from t (Faulted s) out came = subst IsOut (sym came.0) out
  pull-known sources i j from t _ out came = absurd came

-- where there was no memory for a pull, the inlet did nothing, and nothing is entered
pub served-unpulled : {start : Beginning} {v : View Deed Beginning} {i j : List InletView} {registry : RegistryView} (l : List LaneView) → IsAtWork start v → InletsGrew 0 [] i j
    → Served start v v l l i j registry
served-unpulled {start} {v} {i} {j} l works grew = record {
  keeps = keeps-refl v;
  works = works;
  serves = record {
    did = [];
    mine = sym (append-nil v.mine);
    lanes = LanesGrew-none 0 l;
    inlets = subst (λ js. InletsGrew 0 js i j) (ap (λ xs. xs ++ []) (sym (pulls-none (doors_among start.set l i)))) grew;
    theirs = tt;
  };
}
