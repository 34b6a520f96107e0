-- One act of the plain schedule, by the entries that it makes.
use Rattle.std.proofs.Common.{◌≡◌, ◌≢◌, ℕ, ◌<◌, ◌≤◌, Bool, true, false, IsTrue, List, [], ◌∷◌, ◌++◌, Option, Some, None, refl, sym, ap, subst, ◌∙◌, eq-eqb}
use Rattle.std.specs.List.{slice_get}
use Rattle.std.proofs.lemmas.List.{append-nil}
use Rattle.eip_exchange.specs.declared.birth.Origin.{Origin}
use Rattle.eip_exchange.specs.declared.birth.Origin.TheVariants as from
use Rattle.eip_route.specs.declared.route.RouteSet.{RouteSet}
use Rattle.eip_frames.specs.declared.request.Request.{Request}
use Rattle.eip_frames.specs.declared.request.Request.TheVariants as request
use Rattle.eip_frames.specs.declared.answer.Answer.{Answer as Reply}
use Rattle.eip_frames.specs.Fits.{is_outside}
use Rattle.eip_ledger.specs.declared.entry.Entry.{Entry}
use Rattle.eip_ledger.specs.declared.entry.Kind.{Kind}
use Rattle.eip_ledger.specs.declared.entry.Kind.TheVariants.{Pull, Accept, Refuse, SourceEnd, SourceFault, Start, Answer, Tick, Force, Starve}
use Rattle.eip_ledger.specs.declared.place.Place.TheVariants as place_is
use Rattle.eip_endpoint.specs.Lanes.{LaneView, LanesGrew}
use Rattle.eip_exchange.specs.declared.message.Message.{Message}
use Rattle.eip_ledger.specs.declared.entry.Refused.{Refused as Cause}
use Rattle.eip_endpoint.specs.declared.source.Pulled.TheVariants.{Item, Refused, End}
use Rattle.eip_endpoint.specs.Inlets.{InletView, Act, Gave, Failed, InletsGrew, inlet_names}
use Rattle.eip_endpoint.specs.Outside.{Doors, calls, calls_for, acts_by, acts_of, commits, commits_for}
use Rattle.eip_endpoint.proofs.LaneLaws.{LanesGrew-none}
use Rattle.eip_endpoint.proofs.InletLaws.{InletsGrew-none}
use Rattle.eip_history.specs.Plan.{Plan}
use Rattle.eip_history.specs.Own.{Past, Out, SourceState, source_state, concerns, moved, is_out}
use Rattle.eip_history.specs.Births.{Asked, asked}
use Rattle.eip_history.specs.Place.{place, hands, ready_numbers}
use Rattle.eip_history.specs.Rules.{IsLegal, KeepsRules, May, IsSource, IsBelow, first, startable, outside_asked, served_by, served_in}
use Rattle.eip_history.specs.Stop.{stop_of, is_of, actor, TheSource, TheExchange, Actor}
use Rattle.eip_history.proofs.Limit.{source-after, not-same}
use Rattle.eip_history.proofs.Allowed.{waits-below}
use Rattle.eip_plan.specs.Plan.{plan_of}
use Rattle.eip_plan.proofs.Laws.{plan-laws}
use Rattle.eip_hub.specs.View.{BooksView, plan, IsLegalRun, Adds, AddsNone, StartsFirst}
use Rattle.eip_tables.specs.declared.asking.Inner.TheVariants.{Did}
use Rattle.eip_tables.specs.Places.{inner_of}
use Rattle.eip_processor.specs.Registered.{RegistryView}
use Rattle.eip_core.specs.Doors.{inlet_at, uri_at}
use Rattle.eip_core.specs.Outside.{AreTheirs, IsTheirs, seen_answers, refusal_of, pulls_in}
use Rattle.eip_core.specs.Drain.{Acts, Chosen, Drains, Progresses, Rests, doors}
use Rattle.eip_core.proofs.Actors.{actor-ready, actor-queue, actor-source, actor-clock, actor-force, actor-out, unfinished-first, first-pullable}
use Rattle.eip_core.proofs.Progress.{progress-one, progress-trans}
use Rattle.eip_core.proofs.Quiet.{next-force}
use Rattle.eip_core.proofs.Home.{home-answer, home-starve, home-start, home-tick, home-force, hand-pull, back-pull, ready-place}
use Rattle.eip_core.proofs.Compose.{drains-refl, drains-add, drains-none}

-- what holds of the set, the limit and the past stands behind a call that made no entry
pub along : {u v : BooksView} (P : RouteSet → ℕ → ℕ → Past → Type 0) → AddsNone u v → P u.set u.journal.workers u.journal.turns u.journal.past → P v.set v.journal.workers v.journal.turns v.journal.past
along P a h = rw (a.same.set, a.same.workers, a.same.turns, a.past) h

pub rests-none : {u v : BooksView} → AddsNone u v → Rests u → Rests v
rests-none a r = record {
  legal = along (λ s w l p. IsLegal (plan_of s) w l p) a r.legal;
  home = along (λ s w l p. hands (plan_of s) p ≡ 0) a r.home;
  waits = along (λ s w l p. stop_of (plan_of s) l p ≡ None) a r.waits;
}

pub rests-below : (v : BooksView) → Rests v → IsBelow (plan v) v.journal.turns v.journal.past
rests-below v r = (waits-below (plan v) v.journal.workers v.journal.turns v.journal.past r.legal.entries r.home r.waits).1

-- ---- a pull and what came of it

-- the source that was pulled
pub record Pulled (u v : BooksView) (t : ℕ) : Type 0 where
  pub rests : Rests u
  pub nobody : first (ready_numbers (plan u) u.journal.past) ≡ None
  pub no_queue : first (startable (plan u) u.journal.past) ≡ None
  pub may : May (plan u) u.journal.turns u.journal.past 0 (Pull t)
  pub least : (r : ℕ) → r < t → May (plan u) u.journal.turns u.journal.past 0 (Pull r) → ⊥
  pub adds : Adds u v 0 (Pull t)
  pub legal : IsLegalRun v

pub pulled : {u v : BooksView} {t : ℕ} → Rests u → first (ready_numbers (plan u) u.journal.past) ≡ None → first (startable (plan u) u.journal.past) ≡ None
    → May (plan u) u.journal.turns u.journal.past 0 (Pull t) → ((r : ℕ) → r < t → May (plan u) u.journal.turns u.journal.past 0 (Pull r) → ⊥) → Adds u v 0 (Pull t)
    → IsLegalRun v → Pulled u v t
pulled rests nobody no_queue may least adds legal = record {
  rests = rests;
  nobody = nobody;
  no_queue = no_queue;
  may = may;
  least = least;
  adds = adds;
  legal = legal;
}

-- behind a Pull the plan is the same and the past has one entry more
pulled-past : {u v : BooksView} {t : ℕ} (P : Plan → ℕ → ℕ → Past → Type 0) → Pulled u v t → P (plan v) v.journal.workers v.journal.turns v.journal.past
    → P (plan u) u.journal.workers u.journal.turns ((record { worker = 0; kind = Pull t }) ∷ u.journal.past)
pulled-past {u} {v} {t} P p h =
    subst (λ (q : Past). P (plan u) u.journal.workers u.journal.turns q) p.adds.past
    (subst (λ (n : ℕ). P (plan u) u.journal.workers n v.journal.past) p.adds.same.turns
    (subst (λ (n : ℕ). P (plan u) n v.journal.turns v.journal.past) p.adds.same.workers
    (subst (λ (s : RouteSet). P (plan_of s) v.journal.workers v.journal.turns v.journal.past) p.adds.same.set h)))

pulled-back : {u v : BooksView} {t : ℕ} (P : Plan → Past → Type 0) → Pulled u v t → P (plan u) ((record { worker = 0; kind = Pull t }) ∷ u.journal.past) → P (plan v) v.journal.past
pulled-back {u} {v} {t} P p h =
    subst (λ (s : RouteSet). P (plan_of s) v.journal.past) (sym p.adds.same.set) (subst (λ (q : Past). P (plan u) q) (sym p.adds.past) h)

-- the pulled source is out, in the hand of worker 0
pub pulled-out : {u v : BooksView} {t : ℕ} → Pulled u v t → (IsSource (plan v) t) × (source_state t v.journal.past ≡ Out 0)
pulled-out {u} {v} {t} p =
    pulled-back (λ s q. (IsSource s t) × (source_state t q ≡ Out 0)) p
    (p.may.0, source-after 0 t (Pull t) u.journal.past ∙ moved_here)
  where
    moved_here : moved 0 t (Pull t) (source_state t u.journal.past) ≡ Out 0
    moved_here = rw (eq-eqb t t refl) refl

first-actor : {u v : BooksView} {t : ℕ} → Pulled u v t → actor (plan u) u.journal.past ≡ TheSource t
first-actor {u} {v} {t} p =
    actor-source (plan u) u.journal.past t p.rests.home p.nobody p.no_queue
    (unfinished-first (plan u) u.journal.turns 0 u.journal.past t p.rests.home p.may p.least)

pulled-legal : {u v : BooksView} {t : ℕ} → Pulled u v t → KeepsRules (plan u) u.journal.workers u.journal.turns ((record { worker = 0; kind = Pull t }) ∷ u.journal.past)
pulled-legal p = pulled-past (λ s w l q. KeepsRules s w l q) p p.legal.entries

second-actor : {u v : BooksView} {t : ℕ} → Pulled u v t → actor (plan v) v.journal.past ≡ TheSource t
second-actor {u} {v} {t} p =
    pulled-back (λ s q. actor s q ≡ TheSource t) p
    (actor-out (plan u) (plan-laws u.set) u.journal.workers u.journal.turns 0 u.journal.past t (pulled-legal p) p.rests.home p.may.0)

-- the drain behind a Pull
pub drains-pull : {u v : BooksView} {t : ℕ} {r : RegistryView} (l : List LaneView) (i : List InletView) → Pulled u v t → Drains u v l l i i r
drains-pull {u} {v} {t} l i p =
    drains-add (drains-refl u l i) p.adds (LanesGrew-none 0 l) (InletsGrew-none 0 i)
    (subst (λ (a : Actor). IsTrue (is_of a (Pull t))) (sym (first-actor p)) (eq-eqb t t refl)) tt

-- an entry that says what came of a pull of source t
pub record EndsPull (t : ℕ) (k : Kind) (acts : List Act) : Type 0 where
  pub of_source : is_of (TheSource t) k ≡ true
  pub answers : (s : Plan) (past : Past) → served_in s past 0 k ≡ []
  pub acts_are : (d : Doors) → pulls_in d k ≡ acts_of d t acts
  pub nobody : (x : ℕ) → concerns x k ≡ false
  pub others : (u : ℕ) (was : SourceState) → u ≢ t → moved 0 u k was ≡ was
  pub back : (was : SourceState) → is_out (moved 0 t k was) ≡ false

-- the drain behind a pull and what came of it
pub drains-pulled : {u v w : BooksView} {t : ℕ} {r : RegistryView} (k : Kind) (acts : List Act) (l : List LaneView) (i j : List InletView) → Pulled u v t → Adds v w 0 k
    → EndsPull t k acts
    → InletsGrew 0 (acts_by (inlet_at (inlet_names i) (slice_get v.set.routes t)) (uri_at (slice_get v.set.routes t)) acts) i j → Drains u w l l i j r
drains-pulled {u} {v} {w} {t} {r} k acts l i j p a ends grew =
    let none = ends.answers (plan v) v.journal.past in
    let d = doors v l i in
    let are : pulls_in d k ++ commits d (seen_answers (served_in (plan v) v.journal.past 0 k)) ≡ acts_of d t acts =
    ap (λ vs. pulls_in d k ++ commits d (seen_answers vs)) none ∙ (append-nil (pulls_in d k) ∙ ends.acts_are d) in
    drains-add (drains-pull l i p) a
    (subst (λ vs. LanesGrew 0 (calls d (seen_answers vs)) l l) (sym none) (LanesGrew-none 0 l))
    (subst (λ js. InletsGrew 0 js i j) (sym are) grew)
    (subst (λ (b : Actor). IsTrue (is_of b k)) (sym (second-actor p)) ends.of_source)
    (subst (λ vs. AreTheirs r vs) (sym none) tt)

-- a pull and what came of it is an act
pub acts-pulled : {u v w : BooksView} {t : ℕ} (k : Kind) (acts : List Act) → Pulled u v t → Adds v w 0 k → IsLegalRun w → EndsPull t k acts → Acts u w
acts-pulled {u} {v} {w} {t} k acts p a legal ends =
    let e : Entry = record { worker = 0; kind = Pull t } in
    let f : Entry = record { worker = 0; kind = k } in
    let out = pulled-out p in
    let here : KeepsRules (plan v) v.journal.workers v.journal.turns (f ∷ v.journal.past) =
    subst (λ (q : Past). KeepsRules (plan v) v.journal.workers v.journal.turns q) a.past
    (subst (λ (n : ℕ). KeepsRules (plan v) v.journal.workers n w.journal.past) a.same.turns
    (subst (λ (n : ℕ). KeepsRules (plan v) n w.journal.turns w.journal.past) a.same.workers
    (subst (λ (s : RouteSet). KeepsRules (plan_of s) w.journal.workers w.journal.turns w.journal.past) a.same.set legal.entries))) in
    let one : hands (plan v) v.journal.past ≤ 1 = pulled-back (λ s q. hands s q ≤ 1) p
    (hand-pull (plan u) u.journal.workers u.journal.turns 0 u.journal.past t (pulled-legal p) p.rests.home p.may.0) in
    let home = back-pull (plan v) v.journal.workers v.journal.turns 0 v.journal.past t k here one out.0 out.1 ends.nobody ends.others (ends.back (source_state t v.journal.past)) in
    let first_step = pulled-back (λ s q. Progresses s u.journal.past q) p
    (progress-one (plan u) (plan-laws u.set) u.journal.workers u.journal.turns 0 (Pull t) u.journal.past (pulled-legal p)) in
    let second_step = progress-one (plan v) (plan-laws v.set) v.journal.workers v.journal.turns 0 k v.journal.past here in
    record {
      home = rw (a.same.set, a.past) home;
      progress = rw (a.same.set, a.past) (progress-trans first_step second_step);
    }

-- what came of a pull, by kind
pub ends-accept : (t : ℕ) (item : List ℕ) (m : Message) → EndsPull t (Accept t item m) (Gave (Item item m) ∷ [])
ends-accept t item m = record {
  of_source = eq-eqb t t refl;
  answers = λ s past. refl;
  acts_are = λ d. refl;
  nobody = λ x. refl;
  others = λ u was ne. rw (not-same u t ne) refl;
  back = λ was. rw (eq-eqb t t refl) refl;
}

pub ends-refuse : (t : ℕ) (item : List ℕ) (c : Cause) → EndsPull t (Refuse t item c) (Gave (Refused item (refusal_of c)) ∷ [])
ends-refuse t item c = record {
  of_source = eq-eqb t t refl;
  answers = λ s past. refl;
  acts_are = λ d. refl;
  nobody = λ x. refl;
  others = λ u was ne. rw (not-same u t ne) refl;
  back = λ was. rw (eq-eqb t t refl) refl;
}

pub ends-source_end : (t : ℕ) → EndsPull t (SourceEnd t) (Gave End ∷ [])
ends-source_end t = record {
  of_source = eq-eqb t t refl;
  answers = λ s past. refl;
  acts_are = λ d. refl;
  nobody = λ x. refl;
  others = λ u was ne. rw (not-same u t ne) refl;
  back = λ was. rw (eq-eqb t t refl) refl;
}

pub ends-source_fault : (t : ℕ) → EndsPull t (SourceFault t) (Failed ∷ [])
ends-source_fault t = record {
  of_source = eq-eqb t t refl;
  answers = λ s past. refl;
  acts_are = λ d. refl;
  nobody = λ x. refl;
  others = λ u was ne. rw (not-same u t ne) refl;
  back = λ was. rw (eq-eqb t t refl) refl;
}

-- a pull that found no memory is no act
pub no-acts : (o : Option ℕ) (u : List ℕ) → acts_by o u [] ≡ []
no-acts None u = refl
no-acts (Some k) u = refl

-- ---- a tick, and a force

-- a tick that came
pub record Ticked (u v : BooksView) : Type 0 where
  pub home : hands (plan u) u.journal.past ≡ 0
  pub moment : ℕ
  pub may : May (plan u) u.journal.turns u.journal.past 0 (Tick moment)
  pub adds : Adds u v 0 (Tick moment)
  pub legal : IsLegalRun v

pub ticked : {u v : BooksView} → Rests u → ((t : ℕ) × May (plan u) u.journal.turns u.journal.past 0 (Tick t) × Adds u v 0 (Tick t)) → IsLegalRun v → Ticked u v
ticked rests came legal = record { home = rests.home; moment = came.0; may = came.1; adds = came.2; legal = legal }

pub drains-ticked : {u v : BooksView} {r : RegistryView} (l : List LaneView) (i : List InletView) → Ticked u v → Drains u v l l i i r
drains-ticked {u} {v} l i t =
    drains-add (drains-refl u l i) t.adds (LanesGrew-none 0 l) (InletsGrew-none 0 i)
    (subst (λ (b : Actor). IsTrue (is_of b (Tick t.moment))) (sym (actor-clock (plan u) u.journal.past t.moment t.may.0 t.may.2)) refl) tt

-- with nobody Ready, no queue startable, no source to be pulled and nobody due groups may be closed by force
pub forceable : (v : BooksView) → Rests v → first (ready_numbers (plan v) v.journal.past) ≡ None → first (startable (plan v) v.journal.past) ≡ None
    → ((t : ℕ) → May (plan v) v.journal.turns v.journal.past 0 (Pull t) → ⊥) → ((t : ℕ) → May (plan v) v.journal.turns v.journal.past 0 (Tick t) → ⊥)
    → May (plan v) v.journal.turns v.journal.past 0 Force
forceable v r nobody no_queue no_source no_tick =
    let below = rests-below v r in
    let n = next-force (plan v) v.journal.workers v.journal.turns v.journal.past r.legal.entries (plan-laws v.set) r.home r.waits nobody no_queue
    (λ t h. no_source t (first-pullable (plan v) v.journal.turns 0 v.journal.past t r.home below h)) (λ t quiet h. no_tick t (quiet, below, h)) in
    (n.0, below, n.1, n.2)

-- a force that came
pub record Forced (u v : BooksView) : Type 0 where
  pub home : hands (plan u) u.journal.past ≡ 0
  pub may : May (plan u) u.journal.turns u.journal.past 0 Force
  pub adds : Adds u v 0 Force
  pub legal : IsLegalRun v

pub forced : {u v : BooksView} → Rests u → May (plan u) u.journal.turns u.journal.past 0 Force × Adds u v 0 Force → IsLegalRun v → Forced u v
forced rests came legal = record { home = rests.home; may = came.0; adds = came.1; legal = legal }

pub drains-forced : {u v : BooksView} {r : RegistryView} (l : List LaneView) (i : List InletView) → Forced u v → Drains u v l l i i r
drains-forced {u} {v} l i f =
    drains-add (drains-refl u l i) f.adds (LanesGrew-none 0 l) (InletsGrew-none 0 i)
    (subst (λ (b : Actor). IsTrue (is_of b Force)) (sym (actor-force (plan u) u.journal.past f.may.0 f.may.2 f.may.3)) refl) tt

-- ---- an exchange that is answered by the hub, or starved

pub chosen-none : {u v : BooksView} {x : ℕ} → AddsNone u v → Chosen u x → Chosen v x
chosen-none {u} {v} {x} a c = record { rests = rests-none a c.rests; least = along (λ s w l p. first (ready_numbers (plan_of s) p) ≡ Some x) a c.least }

pub chosen-ready : {v : BooksView} {x : ℕ} → Chosen v x → place (plan v) v.journal.past x ≡ Some place_is.Ready
chosen-ready {v} {x} c = ready-place (plan v) v.journal.past x c.least

pub chosen-acts : {v : BooksView} {x : ℕ} (k : Kind) → Chosen v x → is_of (TheExchange x) k ≡ true → IsTrue (is_of (actor (plan v) v.journal.past) k)
chosen-acts {v} {x} k c e = subst (λ (b : Actor). IsTrue (is_of b k)) (sym (actor-ready (plan v) v.journal.past x c.rests.home c.least)) e

-- the entries behind one more, in the words before it
pub added-legal : {u v : BooksView} {n : ℕ} {k : Kind} → Adds u v n k → IsLegalRun v → KeepsRules (plan u) u.journal.workers u.journal.turns ((record { worker = n; kind = k }) ∷ u.journal.past)
added-legal {u} {v} {n} {k} a legal =
    subst (λ (q : Past). KeepsRules (plan u) u.journal.workers u.journal.turns q) a.past
    (subst (λ (m : ℕ). KeepsRules (plan u) u.journal.workers m v.journal.past) a.same.turns
    (subst (λ (m : ℕ). KeepsRules (plan u) m v.journal.turns v.journal.past) a.same.workers
    (subst (λ (s : RouteSet). KeepsRules (plan_of s) v.journal.workers v.journal.turns v.journal.past) a.same.set legal.entries)))

pub acts-ticked : {u v : BooksView} → Ticked u v → Acts u v
acts-ticked {u} {v} t =
    let here = added-legal t.adds t.legal in
    record {
      home = rw (t.adds.same.set, t.adds.past) (home-tick (plan u) u.journal.workers u.journal.turns 0 u.journal.past t.moment here t.home);
      progress = rw (t.adds.same.set, t.adds.past)
          (progress-one (plan u) (plan-laws u.set) u.journal.workers u.journal.turns 0 (Tick t.moment) u.journal.past here);
    }

pub acts-forced : {u v : BooksView} → Forced u v → Acts u v
acts-forced {u} {v} f =
    let here = added-legal f.adds f.legal in
    record {
      home = rw (f.adds.same.set, f.adds.past) (home-force (plan u) u.journal.workers u.journal.turns 0 u.journal.past here f.home);
      progress = rw (f.adds.same.set, f.adds.past)
          (progress-one (plan u) (plan-laws u.set) u.journal.workers u.journal.turns 0 Force u.journal.past here);
    }

-- ---- a queue that starts its first exchange

-- with nobody Ready the first startable queue started its first exchange
pub record Started (u v : BooksView) (x : ℕ) : Type 0 where
  pub rests : Rests u
  pub nobody : first (ready_numbers (plan u) u.journal.past) ≡ None
  pub starts : StartsFirst u v 0 x
  pub legal : IsLegalRun v

-- the same behind a call that made no entry
pub started : {u v w : BooksView} {x : ℕ} → Rests u → AddsNone u v → first (ready_numbers (plan v) v.journal.past) ≡ None → StartsFirst v w 0 x → IsLegalRun w → Started v w x
started rests none nobody starts legal = record { rests = rests-none none rests; nobody = nobody; starts = starts; legal = legal }

pub drains-started : {u v w : BooksView} {x : ℕ} {r : RegistryView} (l : List LaneView) (i : List InletView) → AddsNone u v → Started v w x → Drains u w l l i i r
drains-started {u} {v} {w} {x} l i none s =
    let acts = actor-queue (plan v) v.journal.past s.starts.queue s.rests.home s.nobody s.starts.is_first in
    drains-add (drains-none (drains-refl u l i) none) s.starts.adds (LanesGrew-none 0 l) (InletsGrew-none 0 i)
    (subst (λ (b : Actor). IsTrue (is_of b (Start s.starts.queue x))) (sym acts) (eq-eqb s.starts.queue s.starts.queue refl)) tt

pub acts-started : {v w : BooksView} {x : ℕ} → Started v w x → Acts v w
acts-started {v} {w} {x} s =
    let adds = s.starts.adds in
    let here = added-legal adds s.legal in
    record {
      home = rw (adds.same.set, adds.past)
          (home-start (plan v) v.journal.workers v.journal.turns 0 v.journal.past s.starts.queue x here s.rests.home);
      progress = rw (adds.same.set, adds.past)
          (progress-one (plan v) (plan-laws v.set) v.journal.workers v.journal.turns 0 (Start s.starts.queue x) v.journal.past here);
    }

-- ---- an answer

-- an answer that no lane gave is no call
pub no-calls : (d : Doors) (w : ℕ) (o : Option Asked) (a : Reply) → outside_asked o ≡ false → calls d (seen_answers (served_by w o a)) ≡ []
no-calls d w None a h = refl
no-calls d w (Some k) a h = by_request k.request h
  where
    by_request : (q : Request) → is_outside q ≡ false → calls_for d q a ++ [] ≡ []
    by_request (request.Send t m) g = absurd (cc g)
    by_request _ g = refl

-- an answer that no source gave tells none of an end
pub no-commits : (d : Doors) (w : ℕ) (o : Option Asked) (a : Reply) → outside_asked o ≡ false → commits d (seen_answers (served_by w o a)) ≡ []
no-commits d w None a h = refl
no-commits d w (Some k) a h = by_request k.birth.origin k.request h
  where
    by_request : (o : Origin) (q : Request) → is_outside q ≡ false → commits_for d o q a ++ [] ≡ []
    by_request (from.Source r item) (request.Finish e m true) g = absurd (cc g)
    by_request _ _ g = refl

-- an answer of the books themselves is nobody else's
inner-theirs : (r : RegistryView) (w : ℕ) (o : Option Asked) (a : Reply) → outside_asked o ≡ false → AreTheirs r (served_by w o a)
inner-theirs r w None a h = tt
inner-theirs r w (Some k) a h = (by_request k.request a h, tt)
  where
    by_request : (q : Request) (b : Reply) → is_outside q ≡ false → IsTheirs r q b
    by_request (request.Process name m) b g = absurd (cc g)
    by_request (request.Test name m) b g = absurd (cc g)
    by_request _ b g = tt

pub not-outside : (b : Bool) → Did ≡ inner_of b → b ≡ false
not-outside true h = absurd (cc h)
not-outside false h = refl

pub drains-inner : {u v : BooksView} {x : ℕ} {r : RegistryView} (a : Reply) (l : List LaneView) (i : List InletView) → Chosen u x → Adds u v 0 (Answer x a) → outside_asked (asked (plan u) u.journal.past x) ≡ false → Drains u v l l i i r
drains-inner {u} {v} {x} {r} a l i c adds inner =
    drains-add (drains-refl u l i) adds
    (subst (λ js. LanesGrew 0 js l l) (sym (no-calls (doors u l i) 0 (asked (plan u) u.journal.past x) a inner)) (LanesGrew-none 0 l))
    (subst (λ js. InletsGrew 0 js i i) (sym (no-commits (doors u l i) 0 (asked (plan u) u.journal.past x) a inner)) (InletsGrew-none 0 i)) (chosen-acts (Answer x a) c (eq-eqb x x refl))
    (inner-theirs r 0 (asked (plan u) u.journal.past x) a inner)

pub acts-inner : {u v : BooksView} {x : ℕ} (a : Reply) → Chosen u x → Adds u v 0 (Answer x a) → IsLegalRun v → Acts u v
acts-inner {u} {v} {x} a c adds legal =
    let here = added-legal adds legal in
    record {
      home = rw (adds.same.set, adds.past) (home-answer (plan u) u.journal.workers u.journal.turns 0 u.journal.past x a place_is.Ready here c.rests.home (chosen-ready c));
      progress = rw (adds.same.set, adds.past)
          (progress-one (plan u) (plan-laws u.set) u.journal.workers u.journal.turns 0 (Answer x a) u.journal.past here);
    }

pub drains-starved : {u v w : BooksView} {x : ℕ} {r : RegistryView} (l : List LaneView) (i : List InletView) → Chosen u x → AddsNone u v → Adds v w 0 (Starve x) → Drains u w l l i i r
drains-starved {u} {v} {w} {x} l i c none adds =
    drains-add (drains-none (drains-refl u l i) none) adds (LanesGrew-none 0 l) (InletsGrew-none 0 i)
    (chosen-acts (Starve x) (chosen-none none c) (eq-eqb x x refl)) tt

pub acts-starved : {u v w : BooksView} {x : ℕ} → Chosen u x → AddsNone u v → Adds v w 0 (Starve x) → IsLegalRun w → Acts u w
acts-starved {u} {v} {w} {x} c none adds legal =
    let here = added-legal adds legal in
    let chosen = chosen-none none c in
    let progress : Progresses (plan v) v.journal.past ((record { worker = 0; kind = Starve x }) ∷ v.journal.past) =
    progress-one (plan v) (plan-laws v.set) v.journal.workers v.journal.turns 0 (Starve x) v.journal.past here in
    let home = home-starve (plan v) v.journal.workers v.journal.turns 0 v.journal.past x place_is.Ready here chosen.rests.home (chosen-ready chosen) in
    record {
      home = rw (adds.same.set, adds.past) home;
      progress = rw (adds.same.set, adds.past) (subst (λ (q : Past). Progresses (plan v) q ((record { worker = 0; kind = Starve x }) ∷ v.journal.past)) none.past progress);
    }

-- an act behind a call that made no entry
pub acts-none : {u v w : BooksView} → AddsNone u v → Acts v w → Acts u w
acts-none {u} {v} {w} a h = record { home = h.home; progress = subst (λ (q : Past). Progresses (plan w) q w.journal.past) a.past h.progress }
