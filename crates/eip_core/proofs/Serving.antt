-- An exchange that is served by somebody outside: it is taken in hand, a call is made, and the answer is entered.
use Rattle.std.proofs.Common.{◌≡◌, ℕ, zero, suc, ◌+◌, ◌<◌, ◌≤◌, ◌==◌, ◌||◌, Bool, true, false, IsTrue, List, [], ◌∷◌, Some, None, map, filter, Result, Ok, Err, refl, sym, ap, subst, ◌∙◌, ◌⊎◌, inl, inr, arith, eq-eqb, nat_lt}
use Rattle.std.specs.List.{slice_get}
use Rattle.std.proofs.lemmas.Bool.{cases_Bool, ltb-true, ltb-false}
use Rattle.std.proofs.lemmas.List.{append-nil}
use Rattle.eip_text.specs.declared.memory.NoMemory.{NoMemory}
use Rattle.eip_exchange.specs.declared.birth.Birth.{Birth}
use Rattle.eip_exchange.specs.declared.birth.Origin.{Origin}
use Rattle.eip_route.specs.declared.route.Names.{Names}
use Rattle.eip_route.specs.declared.route.RouteSet.{RouteSet}
use Rattle.eip_frames.specs.declared.request.Request.{Request}
use Rattle.eip_frames.specs.declared.answer.Answer.{Answer as Reply}
use Rattle.eip_frames.specs.Fits.{fits, is_outside}
use Rattle.eip_ledger.specs.declared.entry.Kind.{Kind}
use Rattle.eip_ledger.specs.declared.entry.Kind.TheVariants.{Take, Answer, Starve}
use Rattle.eip_ledger.specs.declared.place.Place.TheVariants as place_is
use Rattle.eip_endpoint.specs.Lanes.{LaneView, LanesGrew}
use Rattle.eip_endpoint.specs.Inlets.{InletView, InletsGrew}
use Rattle.eip_endpoint.specs.Outside.{Doors, calls, calls_for, commits, commits_for}
use Rattle.eip_endpoint.proofs.LaneLaws.{LanesGrew-none}
use Rattle.eip_endpoint.proofs.InletLaws.{InletsGrew-none}
use Rattle.eip_history.specs.Plan.{Plan}
use Rattle.eip_history.specs.Own.{Past}
use Rattle.eip_history.specs.Births.{births}
use Rattle.eip_history.specs.Place.{place, place_of, hands, is_ready, ready_numbers, numbers_at, number_of}
use Rattle.eip_history.specs.Rules.{first, served_by, served_in}
use Rattle.eip_history.specs.Stop.{is_of, actor, TheExchange, Actor}
use Rattle.eip_history.specs.Tables.{AreNumberedFrom, put_in, without}
use Rattle.eip_history.proofs.Lists.{numbered-at}
use Rattle.eip_history.proofs.Told.{births-numbered}
use Rattle.eip_history.proofs.Unborn.{place-born}
use Rattle.eip_history.proofs.Parts.{numbered-number}
use Rattle.eip_plan.specs.Plan.{plan_of}
use Rattle.eip_plan.proofs.Laws.{plan-laws}
use Rattle.eip_hub.specs.View.{BooksView, plan, IsLegalRun, Adds}
use Rattle.eip_tables.specs.Outside.{is_among, with_number, IsAsked}
use Rattle.eip_history.specs.BookText.{origin_at}
use Rattle.eip_processor.specs.Registered.{RegistryView}
use Rattle.eip_core.specs.Doors.{CanRun}
use Rattle.eip_core.specs.Outside.{Asks, AreTheirs, IsAskable, IsTheirs, seen_answers}
use Rattle.eip_core.specs.Drain.{Acts, AsksFor, Chosen, Drains, Progresses, doors}
use Rattle.eip_core.proofs.Actors.{actor-taken}
use Rattle.eip_core.proofs.Progress.{progress-one, progress-trans}
use Rattle.eip_core.proofs.Home.{hand-take, back-answer, back-starve}
use Rattle.eip_core.proofs.Compose.{drains-refl, drains-add, drains-still}
use Rattle.eip_core.proofs.Acts.{chosen-ready, chosen-acts, added-legal}
use Rattle.eip_core.proofs.Askable.{asked-askable, asked-origin}

-- ---- which exchange is taken

among-put : (x : ℕ) (ys : List ℕ) → is_among x (put_in x ys) ≡ true
among-put x [] = rw (eq-eqb x x refl) refl
among-put x (y ∷ ys) = by_test (cases_Bool (nat_lt x y)) (among-put x ys)
  where
    by_test : (nat_lt x y ≡ true) ⊎ (nat_lt x y ≡ false) → is_among x (put_in x ys) ≡ true → is_among x (put_in x (y ∷ ys)) ≡ true
    by_test (inl t) later = rw (t, eq-eqb x x refl) refl
    by_test (inr f) later = rw f (by_head (y == x) later)
      where
        by_head : (v : Bool) → is_among x (put_in x ys) ≡ true → (v || is_among x (put_in x ys)) ≡ true
        by_head true h = refl
        by_head false h = h

-- a number that was looked at is among those known as Outside
pub among-with : (x : ℕ) (xs : List ℕ) → is_among x (with_number x xs) ≡ true
among-with x xs = among-put x (without x xs)

first-least : (p : Birth → Bool) (n : ℕ) (bs : List Birth) (x j : ℕ) (b : Birth) → AreNumberedFrom n bs → first (map number_of (filter p bs)) ≡ Some x → slice_get bs j ≡ Some b → p b ≡ true → x ≤ b.number
first-least p n [] x j b ns h at t = absurd (cc at)
first-least p n (c ∷ bs) x zero b ns h at t =
    let e : c ≡ b = cc in
    let here : p c ≡ true = ap p e ∙ t in
    let g : Some (number_of c) ≡ Some x = rw here at h in
    let same : c.number ≡ x = cc in
    let m : c.number ≡ b.number = ap number_of e in
    omega (arith, same, m)
first-least p n (c ∷ bs) x (suc j) b ns h at t = by_test (cases_Bool (p c)) (λ g. first-least p (n + 1) bs x j b ns.1 g at t)
  where
    by_test : (p c ≡ true) ⊎ (p c ≡ false) → (first (map number_of (filter p bs)) ≡ Some x → x ≤ b.number) → x ≤ b.number
    by_test (inl y) later =
        let g : Some (number_of c) ≡ Some x = rw y at h in
        let same : c.number ≡ x = cc in
        let m = numbered-at (n + 1) bs j b ns.1 at in
        omega (arith, same, m, ns.0)
    by_test (inr y) later = later (rw y at h)

-- the first Ready number is the least
pub ready-least : (s : Plan) (past : Past) (x y : ℕ) → first (ready_numbers s past) ≡ Some x → place s past y ≡ Some place_is.Ready → x ≤ y
unfolding numbers_at
ready-least s past x zero h at = absurd (let b = place-born s past 0 place_is.Ready at in let g = b.1 in cc g)
ready-least s past x (suc j) h at =
    let b = place-born s past (suc j) place_is.Ready at in
    let n = numbered-number s past (suc j) b.0 b.1 in
    let l = first-least (λ (d : Birth). is_ready (place_of s past d)) 1 (births s past) x j b.0 (births-numbered s past) h b.1 (ap is_ready b.2) in
    omega (arith, n, l)

-- the taken number is the one that was looked at, the least Ready one
pub taken-number : (s : Plan) (past : Past) (x n : ℕ) (outside : List ℕ) → first (ready_numbers s past) ≡ Some x → is_among x outside ≡ true → place s past n ≡ Some place_is.Ready
    → ((y : ℕ) → y < n → is_among y outside ≡ false) → n ≡ x
taken-number s past x n outside h known ready least =
    let l = ready-least s past x n h ready in
    by_order (cases_Bool (nat_lt x n)) l
  where
    by_order : (nat_lt x n ≡ true) ⊎ (nat_lt x n ≡ false) → x ≤ n → n ≡ x
    by_order (inl t) l = absurd (let g = least x (ltb-true x n t) in cc)
    by_order (inr f) l = omega (arith, l, ltb-false x n f)

-- ---- taken

-- the least Ready exchange was taken in hand by worker 0, and asks a request
pub record Taken (u v : BooksView) (n : ℕ) (q : Request) : Type 0 where
  pub chosen : Chosen u n
  pub adds : Adds u v 0 (Take n)
  pub held : place (plan v) v.journal.past n ≡ Some (place_is.InHand 0)
  pub asks : IsAsked (plan v) v.journal.past n q
  pub legal : IsLegalRun v

pub drains-taken : {u v : BooksView} {n : ℕ} {q : Request} {r : RegistryView} (l : List LaneView) (i : List InletView) → Taken u v n q → Drains u v l l i i r
drains-taken {u} {v} {n} {q} l i t =
    drains-add (drains-refl u l i) t.adds (LanesGrew-none 0 l) (InletsGrew-none 0 i) (chosen-acts (Take n) t.chosen (eq-eqb n n refl)) tt

behind : {u v : BooksView} {n : ℕ} {q : Request} (P : Plan → Past → Type 0) → Taken u v n q → P (plan u) ((record { worker = 0; kind = Take n }) ∷ u.journal.past) → P (plan v) v.journal.past
behind {u} {v} P t h = subst (λ (s : RouteSet). P (plan_of s) v.journal.past) (sym t.adds.same.set) (subst (λ (p : Past). P (plan u) p) (sym t.adds.past) h)

before : {u v : BooksView} {n : ℕ} {q : Request} (P : Plan → Past → Type 0) → Taken u v n q → P (plan v) v.journal.past → P (plan u) ((record { worker = 0; kind = Take n }) ∷ u.journal.past)
before {u} {v} P t h = subst (λ (p : Past). P (plan u) p) t.adds.past (subst (λ (s : RouteSet). P (plan_of s) v.journal.past) t.adds.same.set h)

taken-actor : {u v : BooksView} {n : ℕ} {q : Request} → Taken u v n q → actor (plan v) v.journal.past ≡ TheExchange n
taken-actor {u} {v} {n} t =
    behind (λ s p. actor s p ≡ TheExchange n) t
    (actor-taken (plan u) (plan-laws u.set) u.journal.workers u.journal.turns 0 u.journal.past n (added-legal t.adds t.legal) t.chosen.rests.home (chosen-ready t.chosen)
    (before (λ s p. place s p n ≡ Some (place_is.InHand 0)) t t.held))

acts-held : {u v : BooksView} {n : ℕ} {q : Request} (k : Kind) → Taken u v n q → is_of (TheExchange n) k ≡ true → IsTrue (is_of (actor (plan v) v.journal.past) k)
acts-held k t e = subst (λ (b : Actor). IsTrue (is_of b k)) (sym (taken-actor t)) e

one-hand : {u v : BooksView} {n : ℕ} {q : Request} → Taken u v n q → hands (plan v) v.journal.past ≤ 1
one-hand {u} {v} {n} t =
    behind (λ s p. hands s p ≤ 1) t
    (hand-take (plan u) u.journal.workers u.journal.turns 0 u.journal.past n place_is.Ready (added-legal t.adds t.legal) t.chosen.rests.home (chosen-ready t.chosen))

first-progress : {u v : BooksView} {n : ℕ} {q : Request} → Taken u v n q → Progresses (plan v) u.journal.past v.journal.past
first-progress {u} {v} {n} t =
    behind (λ s p. Progresses s u.journal.past p) t
    (progress-one (plan u) (plan-laws u.set) u.journal.workers u.journal.turns 0 (Take n) u.journal.past (added-legal t.adds t.legal))

-- ---- answered

answered-calls : {u v : BooksView} {n : ℕ} {q : Request} (d : Doors) (a : Reply) → Taken u v n q → calls d (seen_answers (served_in (plan v) v.journal.past 0 (Answer n a))) ≡ calls_for d q a
answered-calls d a t =
    ap (λ o. calls d (seen_answers (served_by 0 o a))) t.asks.1.0
    ∙ (append-nil (calls_for d t.asks.0.request a) ∙ ap (λ r. calls_for d r a) t.asks.1.1)

answered-commits : {u v : BooksView} {n : ℕ} {q : Request} (d : Doors) (a : Reply) → (t : Taken u v n q)
    → commits d (seen_answers (served_in (plan v) v.journal.past 0 (Answer n a))) ≡ commits_for d t.asks.0.birth.origin q a
answered-commits d a t =
    ap (λ o. commits d (seen_answers (served_by 0 o a))) t.asks.1.0
    ∙ (append-nil (commits_for d t.asks.0.birth.origin t.asks.0.request a) ∙ ap (λ r. commits_for d t.asks.0.birth.origin r a) t.asks.1.1)

-- what somebody outside did for a taken exchange
taken-asks : {u v : BooksView} {n : ℕ} {q : Request} {a : Result Reply NoMemory} {l m : List LaneView} {i j : List InletView} {r : RegistryView} → (t : Taken u v n q) → AsksFor v n q a l m i j r
    → Asks v.set t.asks.0.birth.origin q a l m i j r
taken-asks {u} {v} {n} t asks = asks t.asks.0.birth.origin (asked-origin (plan v) v.journal.past n t.asks.0 t.asks.1.0)

-- what it answered is that of whoever was asked
answered-theirs : {u v : BooksView} {n : ℕ} {q : Request} (r : RegistryView) (a : Reply) → Taken u v n q → IsTheirs r q a
    → AreTheirs r (served_in (plan v) v.journal.past 0 (Answer n a))
answered-theirs {u} {v} {n} {q} r a t h =
    subst (λ o. AreTheirs r (served_by 0 o a)) (sym t.asks.1.0)
    (subst (λ (p : Request). IsTheirs r p a) (sym t.asks.1.1) h, tt)

-- its answer is entered
pub drains-answered : {u v w : BooksView} {n : ℕ} {q : Request} {l m : List LaneView} {i j : List InletView} {r : RegistryView} (a : Reply) → Taken u v n q → Adds v w 0 (Answer n a)
    → AsksFor v n q (Ok a) l m i j r → Drains u w l m i j r
drains-answered {u} {v} {w} {n} {q} {l} {m} {i} {j} {r} a t adds asks =
    let made = taken-asks t asks in
    drains-add (drains-taken l i t) adds
    (subst (λ js. LanesGrew 0 js l m) (sym (answered-calls (doors v l i) a t)) made.lanes)
    (subst (λ js. InletsGrew 0 js i j) (sym (answered-commits (doors v l i) a t)) made.inlets) (acts-held (Answer n a) t (eq-eqb n n refl))
    (answered-theirs r a t made.theirs)

pub acts-answered : {u v w : BooksView} {n : ℕ} {q : Request} (a : Reply) → Taken u v n q → Adds v w 0 (Answer n a) → IsLegalRun w → Acts u w
acts-answered {u} {v} {w} {n} a t adds legal =
    let here = added-legal adds legal in
    record {
      home = rw (adds.same.set, adds.past) (back-answer (plan v) v.journal.workers v.journal.turns 0 v.journal.past n 0 a here (one-hand t) t.held);
      progress = rw (adds.same.set, adds.past)
          (progress-trans (first-progress t) (progress-one (plan v) (plan-laws v.set) v.journal.workers v.journal.turns 0 (Answer n a) v.journal.past here));
    }

-- the answer fits what was asked
pub answered-fits : {u v : BooksView} {n : ℕ} {q : Request} {l m : List LaneView} {i j : List InletView} {r : RegistryView} (a : Reply) → Taken u v n q → AsksFor v n q (Ok a) l m i j r → fits q a ≡ true
answered-fits a t asks = (taken-asks t asks).fitting

-- ---- given up

-- nobody answered, and nothing was done
pub drains-given_up : {u v w : BooksView} {n : ℕ} {q : Request} {l m : List LaneView} {i j : List InletView} {none : NoMemory} {r : RegistryView} → Taken u v n q → Adds v w 0 (Starve n)
    → AsksFor v n q (Err none) l m i j r → Drains u w l m i j r
drains-given_up {u} {v} {w} {n} {q} {l} {m} {i} {j} t adds asks =
    let made = taken-asks t asks in
    drains-add (drains-still (drains-taken l i t) made.lanes made.inlets) adds
    (LanesGrew-none 0 m) (InletsGrew-none 0 j) (acts-held (Starve n) t (eq-eqb n n refl)) tt

pub acts-given_up : {u v w : BooksView} {n : ℕ} {q : Request} → Taken u v n q → Adds v w 0 (Starve n) → IsLegalRun w → Acts u w
acts-given_up {u} {v} {w} {n} t adds legal =
    let here = added-legal adds legal in
    record {
      home = rw (adds.same.set, adds.past) (back-starve (plan v) v.journal.workers v.journal.turns 0 v.journal.past n 0 here (one-hand t) t.held);
      progress = rw (adds.same.set, adds.past)
          (progress-trans (first-progress t) (progress-one (plan v) (plan-laws v.set) v.journal.workers v.journal.turns 0 (Starve n) v.journal.past here));
    }

-- what a take gave, where the least Ready exchange is known to wait for somebody outside
pub taken : {u v : BooksView} {x n : ℕ} {q : Request} → Chosen u x → is_among x u.outside ≡ true
    → place (plan u) u.journal.past n ≡ Some place_is.Ready → ((y : ℕ) → y < n → is_among y u.outside ≡ false) → Adds u v 0 (Take n)
    → place (plan v) v.journal.past n ≡ Some (place_is.InHand 0) → IsAsked (plan v) v.journal.past n q → IsLegalRun v → Taken u v n q
taken {u} {v} {x} {n} {q} chosen known ready least adds held asks legal =
    let same = taken-number (plan u) u.journal.past x n u.outside chosen.least known ready least in
    record { chosen = record { rests = chosen.rests; least = chosen.least ∙ ap Some (sym same) }; adds = adds; held = held; asks = asks; legal = legal }

-- ---- the call

-- what an exchange asks of the outside can be asked for it, wherever it came from
pub askable : (v : BooksView) (x : ℕ) (q : Request) (o : Origin) (names : Names) → IsAsked (plan v) v.journal.past x q → is_outside q ≡ true
    → CanRun v.set names → Some o ≡ origin_at (plan v) v.journal.past x → IsAskable v.set names o q
askable v x q o names asks outside can from =
    let k = asks.0 in
    let both : Some o ≡ Some k.birth.origin = from ∙ asked-origin (plan v) v.journal.past x k asks.1.0 in
    let same : o ≡ k.birth.origin = cc in
    subst (λ (p : Origin). IsAskable v.set names p q) (sym same)
    (subst (λ (r : Request). IsAskable v.set names k.birth.origin r) asks.1.1
    (asked-askable names v.set can v.journal.past x k asks.1.0 (ap is_outside asks.1.1 ∙ outside)))

-- whoever asks is born
pub asked-from : (v : BooksView) (x : ℕ) (q : Request) → IsAsked (plan v) v.journal.past x q → None ≡ origin_at (plan v) v.journal.past x → ⊥
asked-from v x q asks none = let both : None ≡ Some asks.0.birth.origin = none ∙ asked-origin (plan v) v.journal.past x asks.0 asks.1.0 in cc both

-- there is one place that it came from
pub asks-for : {r : RegistryView} (v : BooksView) (x : ℕ) (q : Request) (a : Result Reply NoMemory) (set : RouteSet) (o : Origin) (l m : List LaneView) (i j : List InletView) → set ≡ v.set
    → Some o ≡ origin_at (plan v) v.journal.past x → Asks set o q a l m i j r → AsksFor v x q a l m i j r
asks-for {r} v x q a set o l m i j of_set from asks p h =
    let both : Some o ≡ Some p = from ∙ h in
    let same : o ≡ p = cc in
    subst (λ (s : RouteSet). Asks s p q a l m i j r) of_set (subst (λ (y : Origin). Asks set y q a l m i j r) same asks)
