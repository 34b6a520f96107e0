-- How what a worker does follows one another, and what one look with its call adds.
use Rattle.std.proofs.Common.{◌≡◌, ℕ, List, [], ◌∷◌, ◌++◌, Ok, refl, sym, ap, subst, ◌∙◌, append-nil, append_assoc}
use Rattle.std.specs.List.{AllByRecursion}
use Rattle.eip_exchange.specs.declared.birth.Origin.{Origin}
use Rattle.eip_route.specs.declared.route.RouteSet.{RouteSet}
use Rattle.eip_ledger.specs.declared.entry.Kind.{Kind}
use Rattle.eip_ledger.specs.declared.entry.Kind.TheVariants.{Starve, Accept, Refuse, SourceEnd, SourceFault, Answer}
use Rattle.eip_endpoint.specs.Inlets.{Act, InletAct, InletView, InletsGrew, inlet_names}
use Rattle.eip_endpoint.specs.Lanes.{LaneCall, LaneView, LanesGrew, lane_names}
use Rattle.eip_endpoint.specs.Outside.{Doors, calls, calls_for, commits_for, acts_of}
use Rattle.eip_endpoint.proofs.InletLaws.{InletsGrew-names}
use Rattle.eip_endpoint.proofs.LaneLaws.{LanesGrew-none, LanesGrew-trans, LanesGrew-names}
use Rattle.eip_owners.specs.Acts.{pulls_in}
use Rattle.eip_core.specs.Ticket.{Ticket}
use Rattle.eip_processor.specs.Registered.{RegistryView}
use Rattle.eip_core.specs.Doors.{doors_among, doors_of}
use Rattle.eip_core.specs.Outside.{Asks}
use Rattle.eip_turnstile.specs.declared.view.View.{View}
use Rattle.eip_shared.specs.Deeds.{IsInner, own_answers, silent}
use Rattle.eip_shared.specs.Shared.{deed_of}
use Rattle.eip_shared.specs.Turns.{IsAtWork, Turned}
use Rattle.eip_shared.specs.declared.beginning.Beginning.{Beginning}
use Rattle.eip_shared.specs.declared.deed.Deed.{Deed}
use Rattle.eip_shared.specs.declared.deed.Given.{Given}
use Rattle.eip_shared.specs.declared.outcome.Outcome.{Outcome}
use Rattle.eip_shared.specs.declared.outcome.Outcome.TheVariants.{Settled, GivenUp, Accepted, Refused, Ended, Faulted}
use Rattle.eip_worker.specs.Calls.{Calls, Came, Pulls}
use Rattle.eip_worker.specs.Serves.{Serves, KeepsSeat, IsReady, Served, own_acts}
use Rattle.eip_worker.proofs.Done.{calls-both, acts-follow, theirs-both, silent-acts, given-calls, given-acts, inner-calls, inner-acts, inner-theirs}

-- ---- doors

-- the doors are the same among lanes and inlets that did something
pub doors-along : (set : RouteSet) (js : List LaneCall) (ks : List InletAct) (l m : List LaneView) (i j : List InletView) → LanesGrew 0 js l m → InletsGrew 0 ks i j
    → doors_among set m j ≡ doors_among set l i
doors-along set js ks l m i j lanes inlets =
    ap (λ ns. doors_of set ns (inlet_names j)) (sym (LanesGrew-names 0 js l m lanes)) ∙ ap (λ ns. doors_of set (lane_names l) ns) (sym (InletsGrew-names 0 ks i j inlets))

-- and of sets with the same routes
pub doors-routes : (set sources : RouteSet) (l : List LaneView) (i : List InletView) → sources.routes ≡ set.routes → doors_among sources l i ≡ doors_among set l i
doors-routes set sources l i same = rw same refl

-- ---- one behind the other

pub serves-none : {set : RouteSet} {w : ℕ} {mine : List Deed} {registry : RegistryView} (l : List LaneView) (i : List InletView) → Serves set w mine mine l l i i registry
serves-none {set} {w} {mine} {registry} l i = record {
  did = [];
  mine = sym (append-nil mine);
  lanes = LanesGrew-none 0 l;
  inlets = inner-acts (doors_among set l i) w registry [] i tt;
  theirs = tt;
}

pub serves-trans : {set : RouteSet} {w : ℕ} {a b c : List Deed} {l m n : List LaneView} {i j k : List InletView} {registry : RegistryView}
    → Serves set w a b l m i j registry → Serves set w b c m n j k registry → Serves set w a c l n i k registry
serves-trans {set} {w} {a} {b} {c} {l} {m} {n} {i} {j} {k} {registry} p q =
    let same = doors-along set _ _ l m i j p.lanes p.inlets in
    let d = doors_among set l i in
    record {
      did = p.did ++ q.did;
      mine = q.mine ∙ (ap (λ xs. xs ++ q.did) p.mine ∙ append_assoc a p.did q.did);
      lanes = subst (λ js. LanesGrew 0 js l n) (sym (calls-both d w p.did q.did))
          (LanesGrew-trans 0 _ _ l m n p.lanes (subst (λ (e : Doors). LanesGrew 0 (calls e (own_answers w q.did)) m n) same q.lanes));
      inlets = acts-follow d w p.did q.did i j k p.inlets (subst (λ (e : Doors). InletsGrew 0 (own_acts e w q.did) j k) same q.inlets);
      theirs = theirs-both registry p.did q.did p.theirs q.theirs;
    }

pub keeps-refl : (v : View Deed Beginning) → KeepsSeat v v
keeps-refl v = record { number = refl; base = refl; made = refl; olds = refl }

pub keeps-trans : {u v w : View Deed Beginning} → KeepsSeat u v → KeepsSeat v w → KeepsSeat u w
keeps-trans p q = record { number = q.number ∙ p.number; base = q.base ∙ p.base; made = q.made ∙ p.made; olds = q.olds ∙ p.olds }

pub keeps-turned : {u v : View Deed Beginning} {ds : List Deed} → Turned u v ds → KeepsSeat u v
keeps-turned t = record { number = t.number; base = t.base; made = t.made; olds = t.olds }

pub served-trans : {start : Beginning} {u v w : View Deed Beginning} {l m n : List LaneView} {i j k : List InletView} {registry : RegistryView}
    → Served start u v l m i j registry → Served start v w m n j k registry → Served start u w l n i k registry
served-trans {start} {u} {v} {w} {l} {m} {n} {i} {j} {k} {registry} p q = record {
  keeps = keeps-trans p.keeps q.keeps;
  works = q.works;
  serves = serves-trans p.serves (subst (λ x. Serves start.set x v.mine w.mine m n j k registry) p.keeps.number q.serves);
}

pub served-none : {start : Beginning} {v : View Deed Beginning} {sources : RouteSet} {l : List LaneView} {i : List InletView} {registry : RegistryView}
    → IsReady start v sources l i registry → Served start v v l l i i registry
served-none {start} {v} {sources} {l} {i} r = record { keeps = keeps-refl v; works = r.works; serves = serves-none l i }

-- the worker may work on behind what it did
pub ready-on : {start : Beginning} {u v : View Deed Beginning} {sources : RouteSet} {l m : List LaneView} {i j : List InletView} {registry : RegistryView}
    → IsReady start u sources l i registry → Served start u v l m i j registry → IsReady start v sources m j registry
ready-on {start} {u} {v} {sources} {l} {m} {i} {j} {registry} r s = record {
  works = s.works;
  routes = r.routes;
  equipped = record {
    valid = r.equipped.valid;
    processors = r.equipped.processors;
    predicates = r.equipped.predicates;
    lanes = rw (← LanesGrew-names 0 _ l m s.serves.lanes, s.keeps.number) r.equipped.lanes;
    inlets = rw (← InletsGrew-names 0 _ i j s.serves.inlets, s.keeps.number) r.equipped.inlets;
  };
}

-- ---- one turn

-- a turn by which lanes and inlets were asked for nothing
pub served-inner : {start : Beginning} {u v : View Deed Beginning} {ds : List Deed} {l : List LaneView} {i : List InletView} {registry : RegistryView}
    → IsAtWork start v → Turned u v ds → AllByRecursion IsInner ds → Served start u v l l i i registry
served-inner {start} {u} {v} {ds} {l} {i} {registry} works t all = record {
  keeps = keeps-turned t;
  works = works;
  serves = record {
    did = ds;
    mine = t.mine;
    lanes = subst (λ js. LanesGrew 0 js l l) (sym (inner-calls (doors_among start.set l i) u.number registry ds all)) (LanesGrew-none 0 l);
    inlets = inner-acts (doors_among start.set l i) u.number registry ds i all;
    theirs = inner-theirs registry ds all;
  };
}

-- a call was made and its answer was entered
pub served-call : {start : Beginning} {u v : View Deed Beginning} {l m : List LaneView} {i j : List InletView} {registry : RegistryView} (sources : RouteSet) (from : Origin)
    (t : Ticket) (out : Outcome) → sources.routes ≡ start.set.routes → IsAtWork start v → Calls sources from t out l m i j registry → Turned u v (deed_of from out ∷ [])
    → Served start u v l m i j registry
served-call {start} {u} {v} {l} {m} {i} {j} {registry} sources from t (Settled x a) same works called turned =
    let d = doors_among start.set l i in
    let doors = doors-routes start.set sources l i same in
    let asks : Asks sources from x.request (Ok a) l m i j registry = subst (λ (y : Ticket). Asks sources from y.request (Ok a) l m i j registry) (sym called.0) called.1 in
    let g : Given = record { origin = from; request = x.request; answer = a } in
    record {
      keeps = keeps-turned turned;
      works = works;
      serves = record {
        did = deed_of from (Settled x a) ∷ [];
        mine = turned.mine;
        lanes = subst (λ js. LanesGrew 0 js l m) (sym (given-calls d u.number (Answer x.number a) g))
            (subst (λ (e : Doors). LanesGrew 0 (calls_for e x.request a) l m) doors asks.lanes);
        inlets = subst (λ js. InletsGrew 0 js i j) (sym (given-acts d u.number (Answer x.number a) g refl))
            (subst (λ (e : Doors). InletsGrew 0 (commits_for e from x.request a) i j) doors asks.inlets);
        theirs = (asks.theirs, tt);
      };
    }
served-call {start} {u} {v} {l} {m} {i} {j} {registry} sources from t (GivenUp x) same works called turned = record {
  keeps = keeps-turned turned;
  works = works;
  serves = record {
    did = silent (Starve x.number) ∷ [];
    mine = turned.mine;
    lanes = called.1.1.lanes;
    inlets = subst (λ js. InletsGrew 0 js i j) (sym (silent-acts (doors_among start.set l i) u.number (Starve x.number))) called.1.1.inlets;
    theirs = (tt, tt);
  };
}
served-call sources from t _ same works called turned = absurd called

-- what came of a pull, among the doors of the set
came-here : (set sources : RouteSet) (l : List LaneView) (i j : List InletView) (s t : ℕ) (acts : List Act) → sources.routes ≡ set.routes → s ≡ t → Came sources t acts i j
    → InletsGrew 0 (acts_of (doors_among set l i) s acts) i j
came-here set sources l i j s t acts same is came = rw (is, ← same) came

served-came : {start : Beginning} {u v : View Deed Beginning} {i j : List InletView} {registry : RegistryView} (l : List LaneView) (k : Kind) → IsAtWork start v → Turned u v (silent k ∷ [])
    → InletsGrew 0 (pulls_in (doors_among start.set l i) k) i j → Served start u v l l i j registry
served-came {start} {u} {v} {i} {j} l k works turned grew = record {
  keeps = keeps-turned turned;
  works = works;
  serves = record {
    did = silent k ∷ [];
    mine = turned.mine;
    lanes = LanesGrew-none 0 l;
    inlets = subst (λ js. InletsGrew 0 js i j) (sym (silent-acts (doors_among start.set l i) u.number k)) grew;
    theirs = (tt, tt);
  };
}

-- a source was pulled and what came of it was entered
pub served-pull : {start : Beginning} {u v : View Deed Beginning} {l : List LaneView} {i j : List InletView} {registry : RegistryView} (sources : RouteSet) (from : Origin)
    (t : ℕ) (out : Outcome) → sources.routes ≡ start.set.routes → IsAtWork start v → Pulls sources t out i j → Turned u v (deed_of from out ∷ [])
    → Served start u v l l i j registry
served-pull {start} {l = l} {i = i} {j = j} sources from t (Accepted s item m) same works pulled turned =
    served-came l (Accept s item m) works turned (came-here start.set sources l i j s t _ same pulled.0 pulled.2)
served-pull {start} {l = l} {i = i} {j = j} sources from t (Refused s item cause) same works pulled turned =
    served-came l (Refuse s item cause) works turned (came-here start.set sources l i j s t _ same pulled.0 pulled.1)
served-pull {start} {l = l} {i = i} {j = j} sources from t (Ended s) same works pulled turned =
    served-came l (SourceEnd s) works turned (came-here start.set sources l i j s t _ same pulled.0 pulled.1)
served-pull {start} {l = l} {i = i} {j = j} sources from t (Faulted s) same works pulled turned =
    served-came l (SourceFault s) works turned (came-here start.set sources l i j s t _ same pulled.0 pulled.1)
served-pull sources from t _ same works pulled turned = absurd pulled
