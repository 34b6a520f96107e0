-- Who acts by an entry: it is Ready or in hand, has left its queue, and waits for nothing.
use Rattle.std.proofs.Common.{◌≡◌, ℕ, zero, suc, ◌≤◌, Bool, true, false, ◌&&◌, ◌||◌, ◌==◌, not, nat_lt, [], ◌∷◌, Option, Some, None, is_some, refl, sym, ap, subst, ◌∙◌, arith, cond, inl, inr, length}
use Rattle.std.proofs.lemmas.Bool.{and_parts, and_right, cases_Bool, eqb-true, cases_lt, ltb-false, le-ltb}
use Rattle.eip_exchange.specs.declared.birth.Birth.{Birth}
use Rattle.eip_exchange.specs.declared.birth.Origin.{Origin}
use Rattle.eip_exchange.specs.declared.birth.Origin.TheVariants as from
use Rattle.eip_frames.specs.declared.answer.Answer.{Answer as Reply}
use Rattle.eip_frames.specs.Fate.{Fate, AsksNext, Ends, Strays}
use Rattle.eip_frames.specs.Fits.{is_outside}
use Rattle.eip_ledger.specs.declared.entry.Entry.{Entry}
use Rattle.eip_ledger.specs.declared.entry.Kind.{Kind}
use Rattle.eip_ledger.specs.declared.entry.Kind.TheVariants.{Start, Take, Answer, Tick, Starve, Return}
use Rattle.eip_ledger.specs.declared.place.Place.{Place}
use Rattle.eip_ledger.specs.declared.place.Place.TheVariants as place_is
use Rattle.eip_history.specs.Plan.{Plan}
use Rattle.eip_history.specs.Own.{Past, own, concerns, is_start, started, taker, taken_by, last_answer, or_answer, clock, ticked, numbered}
use Rattle.eip_history.specs.Births.{births, fate, fate_by}
use Rattle.eip_history.specs.Place.{ended, end_at, end_of, all_ended, Pause, Sleeps, Joins, Runs, pause_of, paused, in_hand, queued, place_by, place_of, is_in, is_ended, is_born_into}
use Rattle.eip_history.specs.Rules.{KeepsRules, May, MayAct}
use Rattle.eip_history.specs.Laws.{PlanLaws}
use Rattle.eip_history.proofs.Told.{own-other, own-here}
use Rattle.eip_history.proofs.Lists.{slice_get-some}
use Rattle.eip_history.proofs.Unborn.{legal-tail, legal-may, place-born, newborn-own, birth-stays, own-none}
use Rattle.eip_history.proofs.Parts.{numbered-number}
use Rattle.eip_history.proofs.Places.{ended-other, fate-other}
use Rattle.eip_history.proofs.Stuck.{Standing, InEnd, InQueue, Held, Asleep, Waits, Able, standing}
use Rattle.eip_history.proofs.Final.{joined-keeps}
use Rattle.eip_history.proofs.Clock.{clock-rises}

-- Ready or in hand
abbrev pub is_acting : Place → Bool
is_acting place_is.Ready = true
is_acting (place_is.InHand w) = true
is_acting _ = false

acting-at : (s : Plan) (past : Past) (b : Birth) (p : Place) → place_of s past b ≡ p → is_acting p ≡ true → is_acting (place_of s past b) ≡ true
acting-at s past b p h t = ap is_acting h ∙ t

-- whose entry it is, but for a Start, acts
pub record Actor (s : Plan) (past : Past) (x : ℕ) : Type 0 where
  pub birth : Birth
  pub born : numbered (births s past) x ≡ Some birth
  pub acting : is_acting (place_of s past birth) ≡ true

actor-at : (s : Plan) (past : Past) (n x : ℕ) (p : Place) → n ≡ x → (b : Birth) × (numbered (births s past) n ≡ Some b) × (place_of s past b ≡ p)
    → is_acting p ≡ true → Actor s past x
actor-at s past n x p e r t = record { birth = r.0; born = rw (← e) r.1; acting = acting-at s past r.0 p r.2 t }

pub entry-actor : (s : Plan) (limit : ℕ) (past : Past) (w x : ℕ) (k : Kind) → May s limit past w k → concerns x k ≡ true → is_start k ≡ false → Actor s past x
entry-actor s limit past w x (Start q n) may c f = absurd (cc f)
entry-actor s limit past w x (Take n) may c f = actor-at s past n x _ (eqb-true n x c) (place-born s past n _ may.0) refl
entry-actor s limit past w x (Answer n a) may c f = by_side (is_outside may.asks.request) may.act (eqb-true n x c)
  where
    by_side : (v : Bool) → MayAct s limit past w n v → n ≡ x → Actor s past x
    by_side true act e = actor-at s past n x _ e (place-born s past n _ act) refl
    by_side false act e = actor-at s past n x _ e (place-born s past n _ act.0) refl
entry-actor s limit past w x (Starve n) (inl h) c f = actor-at s past n x _ (eqb-true n x c) (place-born s past n _ h) refl
entry-actor s limit past w x (Starve n) (inr h) c f = actor-at s past n x _ (eqb-true n x c) (place-born s past n _ h) refl
entry-actor s limit past w x (Return n) may c f = absurd may
entry-actor s limit past w x _ may c f = absurd (cc c)

queue-acting : (r : Origin) (v : Bool) (p : Place) → is_acting (queued r v p) ≡ true → (q : Place) → queued r v q ≡ q
queue-acting (from.Queue n) false p h q = absurd (cc h)
queue-acting (from.Queue n) true p h q = refl
queue-acting (from.Source n i) v p h q = refl
queue-acting (from.Part n i) v p h q = refl
queue-acting (from.Group n) v p h q = refl

-- who acts has left its queue
pub acting-out : (s : Plan) (past : Past) (b : Birth) → is_acting (place_of s past b) ≡ true → (p : Place) → queued b.origin (started (own b.number past)) p ≡ p
unfolding place_of
acting-out s past b h = by_fate (fate s past b) refl h
  where
    by_fate : (f : Fate) → fate s past b ≡ f → is_acting (place_by (clock past) (all_ended s past) b (own b.number past) f) ≡ true
        → (p : Place) → queued b.origin (started (own b.number past)) p ≡ p
    by_fate (Ends e m) t g = absurd (cc g)
    by_fate (AsksNext q p) t g = queue-acting b.origin (started (own b.number past)) _ g
    by_fate Strays t g = queue-acting b.origin (started (own b.number past)) _ g

-- the place behind an own entry
pub place-here : (s : Plan) (e : Entry) (past : Past) (b : Birth) → concerns b.number e.kind ≡ true
    → place_of s (e ∷ past) b ≡ place_by (clock (e ∷ past)) (all_ended s (e ∷ past)) b (e ∷ own b.number past) (fate s (e ∷ past) b)
unfolding place_of
place-here s e past b c = ap (λ o. place_by (clock (e ∷ past)) (all_ended s (e ∷ past)) b o (fate s (e ∷ past) b)) (own-here b.number e past c)

-- a number that isn't born yet
pub past-births : (s : Plan) (past : Past) (i : ℕ) → numbered (births s past) (suc i) ≡ None → length (births s past) ≤ i
past-births s past i h = elim (cases_lt i (length (births s past))) [
  | inl l ↦ (let r = slice_get-some (births s past) i l in let g = rw h at r.1 in absurd (cc g))
  | inr l ↦ l
]

-- who is newborn has no entry
pub newborn-silent : (s : Plan) (w limit : ℕ) (e : Entry) (past : Past) (x : ℕ) (b : Birth) → KeepsRules s w limit (e ∷ past)
    → numbered (births s past) x ≡ None → numbered (births s (e ∷ past)) x ≡ Some b → own b.number (e ∷ past) ≡ []
newborn-silent s w limit e past zero b legal none at = absurd (cc at)
newborn-silent s w limit e past (suc i) b legal none at =
    let l = past-births s past i none in
    let n = numbered-number s (e ∷ past) (suc i) b at in
    newborn-own s w limit e past b.number legal (omega (arith, l, n))

-- an entry that isn't x's changes no end of x, born or not
pub ended-beside : (s : Plan) (laws : PlanLaws s) (w limit : ℕ) (e : Entry) (past : Past) (x : ℕ) → KeepsRules s w limit (e ∷ past)
    → concerns x e.kind ≡ false → ended s (e ∷ past) x ≡ ended s past x
unfolding ended fate
ended-beside s laws w limit e past x legal c = by_birth (numbered (births s past) x) refl
  where
    by_newborn : (o : Option Birth) → numbered (births s (e ∷ past)) x ≡ o → numbered (births s past) x ≡ None → end_at s (e ∷ past) o ≡ None
    by_newborn None at none = refl
    by_newborn (Some b) at none =
        ap (λ o. end_of (fate_by s b o)) (newborn-silent s w limit e past x b legal none at) ∙ laws.starts b

    by_birth : (o : Option Birth) → numbered (births s past) x ≡ o → ended s (e ∷ past) x ≡ end_at s past o
    by_birth (Some b) at = ended-other s e past x b at c ∙ ap (end_at s past) at
    by_birth None at = by_newborn (numbered (births s (e ∷ past)) x) refl at

-- ---- who has been taken

pub paused-ready : (now now' : ℕ) (all all' : ℕ → ℕ → Bool) (p : Pause) → now ≤ now' → ((f c : ℕ) → all f c ≡ true → all' f c ≡ true)
    → paused now all p ≡ place_is.Ready → paused now' all' p ≡ place_is.Ready
paused-ready now now' all all' (Sleeps d) l h g = elim (cases_Bool (nat_lt now d)) [
  | inl t ↦ absurd (let k = rw t at g in cc k)
  | inr t ↦ (let m = ltb-false now d t in rw (le-ltb now' d (omega (arith, m, l))) refl)
]
paused-ready now now' all all' (Joins f c) l h g = elim (cases_Bool (all f c)) [
  | inl t ↦ rw (h f c t) refl
  | inr t ↦ absurd (let k = rw t at g in cc k)
]
paused-ready now now' all all' Runs l h g = refl

pub paused-place : (s : Plan) (past : Past) (b : Birth) → place_of s past b ≡ place_is.Ready
    → paused (clock past) (all_ended s past) (pause_of (last_answer (own b.number past))) ≡ place_is.Ready
unfolding place_of
paused-place s past b h = by_fate (fate s past b) refl h
  where
    hand-ready : (o : Option ℕ) (p : Place) → in_hand o p ≡ place_is.Ready → p ≡ place_is.Ready
    hand-ready None p g = g
    hand-ready (Some w) p g = absurd (cc g)

    out : (p : Place) → queued b.origin (started (own b.number past)) p ≡ place_is.Ready → p ≡ place_is.Ready
    out p g = sym (queue-acting b.origin (started (own b.number past)) p (ap is_acting g) p) ∙ g

    by_fate : (f : Fate) → fate s past b ≡ f → place_by (clock past) (all_ended s past) b (own b.number past) f ≡ place_is.Ready
        → paused (clock past) (all_ended s past) (pause_of (last_answer (own b.number past))) ≡ place_is.Ready
    by_fate (Ends e m) t g = absurd (cc g)
    by_fate (AsksNext q p) t g = hand-ready (taker (own b.number past)) _ (out _ g)
    by_fate Strays t g = hand-ready (taker (own b.number past)) _ (out _ g)

pub clock-grows : (s : Plan) (w limit : ℕ) (e : Entry) (past : Past) → KeepsRules s w limit (e ∷ past) → clock past ≤ clock (e ∷ past)
unfolding clock
clock-grows s w limit e past legal = by_kind e.kind (legal-may s w limit e past legal)
  where
    by_kind : (k : Kind) → May s limit past e.worker k → clock past ≤ ticked k (clock past)
    by_kind (Tick t) may = clock-rises s w limit past t (legal-tail s w limit e past legal) may.2
    by_kind _ may = omega arith

-- whose newest entry is a Take waits for nothing, as long as it is in hand
pub taken-ready : (s : Plan) (w limit : ℕ) (past : Past) (b : Birth) (v : ℕ) → KeepsRules s w limit past
    → ((d : Birth) → numbered (births s past) b.number ≡ Some d → d ≡ b) → taker (own b.number past) ≡ Some v → paused (clock past) (all_ended s past) (pause_of (last_answer (own b.number past))) ≡ place_is.Ready
taken-ready s w limit [] b v legal at h = absurd (let g = rw (own-none b.number) at h in cc g)
taken-ready s w limit (e ∷ past) b v legal at h = by_test (concerns b.number e.kind) refl (λ g. taken-ready s w limit past b v (legal-tail s w limit e past legal) (λ d u. at d (birth-stays s e past b.number d u)) g)
  where
    rises : clock past ≤ clock (e ∷ past)
    rises = clock-grows s w limit e past legal

    still : (o : Option Reply) → paused (clock past) (all_ended s past) (pause_of o) ≡ place_is.Ready
        → paused (clock (e ∷ past)) (all_ended s (e ∷ past)) (pause_of o) ≡ place_is.Ready
    still o g = paused-ready (clock past) (clock (e ∷ past)) (all_ended s past) (all_ended s (e ∷ past)) (pause_of o) rises
        (λ f c t. joined-keeps s w limit e past f c legal t) g

    by_kind : (k : Kind) → e.kind ≡ k → May s limit past e.worker k → concerns b.number k ≡ true → taken_by e.worker k ≡ Some v
        → paused (clock past) (all_ended s past) (pause_of (or_answer k (last_answer (own b.number past)))) ≡ place_is.Ready
    by_kind (Take y) same may c g =
        let yx : y ≡ b.number = eqb-true y b.number c in
        let p = place-born s past y _ may.0 in
        let u : numbered (births s past) b.number ≡ Some p.0 = subst (λ (m : ℕ). numbered (births s past) m ≡ Some p.0) yx p.1 in
        let d : p.0 ≡ b = at p.0 (birth-stays s e past b.number p.0 u) in
        paused-place s past b (subst (λ q. place_of s past q ≡ place_is.Ready) d p.2)
    by_kind _ same may c g = absurd (cc g)

    by_test : (u : Bool) → concerns b.number e.kind ≡ u
        → (taker (own b.number past) ≡ Some v → paused (clock past) (all_ended s past) (pause_of (last_answer (own b.number past))) ≡ place_is.Ready)
        → paused (clock (e ∷ past)) (all_ended s (e ∷ past)) (pause_of (last_answer (own b.number (e ∷ past)))) ≡ place_is.Ready
    by_test true c ih =
        rw (own-here b.number e past c)
        (still (or_answer e.kind (last_answer (own b.number past)))
        (by_kind e.kind refl (legal-may s w limit e past legal) c (rw (own-here b.number e past c) at h)))
    by_test false c ih =
        rw (own-other b.number e past c) (still (last_answer (own b.number past)) (ih (rw (own-other b.number e past c) at h)))

-- who is still in a queue has no entry
pub queued-silent : (s : Plan) (w limit : ℕ) (past : Past) (b : Birth) (q : ℕ) → KeepsRules s w limit past
    → ((d : Birth) → numbered (births s past) b.number ≡ Some d → d ≡ b) → b.origin ≡ from.Queue q → started (own b.number past) ≡ false
    → own b.number past ≡ []
queued-silent s w limit [] b q legal at o h = own-none b.number
queued-silent s w limit (e ∷ past) b q legal at o h =
    by_test (concerns b.number e.kind) refl (λ g. queued-silent s w limit past b q (legal-tail s w limit e past legal) (λ d u. at d (birth-stays s e past b.number d u)) o g)
  where
    by_start : (v : Bool) → is_start e.kind ≡ v → concerns b.number e.kind ≡ true → (v || started (own b.number past)) ≡ false → ⊥
    by_start true t c g = cc g
    by_start false t c g =
        let r = entry-actor s limit past e.worker b.number e.kind (legal-may s w limit e past legal) c t in
        let d : r.birth ≡ b = at r.birth (birth-stays s e past b.number r.birth r.born) in
        let act : is_acting (place_of s past b) ≡ true = subst (λ x. is_acting (place_of s past x) ≡ true) d r.acting in
        let out = acting-out s past b act place_is.Ready in
        let k = rw (o, g) at out in
        cc k

    by_test : (u : Bool) → concerns b.number e.kind ≡ u → (started (own b.number past) ≡ false → own b.number past ≡ []) → own b.number (e ∷ past) ≡ []
    by_test true c ih = absurd (by_start (is_start e.kind) refl c (rw (own-here b.number e past c) at h))
    by_test false c ih = own-other b.number e past c ∙ ih (rw (own-other b.number e past c) at h)

-- it waits in queue q: it was born there and hasn't started
abbrev pub waits_in : ℕ → Birth → Past → Fate → Bool
waits_in q b o (Ends e m) = false
waits_in q b o f = is_born_into q b.origin && not (started o)

in-pause : (q now : ℕ) (all : ℕ → ℕ → Bool) (p : Pause) → is_in q (paused now all p) ≡ false
in-pause q now all (Sleeps d) = elim (nat_lt now d) as (λ v. is_in q (cond v (place_is.Retry d) place_is.Ready) ≡ false) [ true ↦ refl | false ↦ refl ]
in-pause q now all (Joins f c) = elim (all f c) as (λ v. is_in q (cond v place_is.Ready place_is.Joining) ≡ false) [ true ↦ refl | false ↦ refl ]
in-pause q now all Runs = refl

in-hand : (q : ℕ) (w : Option ℕ) (p : Place) → is_in q p ≡ false → is_in q (in_hand w p) ≡ false
in-hand q (Some v) p h = refl
in-hand q None p h = h

in-queue : (q : ℕ) (r : Origin) (v : Bool) (p : Place) → is_in q p ≡ false → is_in q (queued r v p) ≡ (is_born_into q r && not v)
in-queue q (from.Queue n) false p h = elim (n == q) as (λ u. u ≡ (u && true)) [ true ↦ refl | false ↦ refl ]
in-queue q (from.Queue n) true p h = h ∙ sym (and_right (n == q) false refl)
in-queue q (from.Source n i) v p h = h
in-queue q (from.Part n i) v p h = h
in-queue q (from.Group n) v p h = h

in-by : (q now : ℕ) (all : ℕ → ℕ → Bool) (b : Birth) (o : Past) (f : Fate) → is_in q (place_by now all b o f) ≡ waits_in q b o f
in-by q now all b o (Ends e m) = refl
in-by q now all b o (AsksNext u p) = in-queue q b.origin (started o) _ (in-hand q (taker o) _ (in-pause q now all (pause_of (last_answer o))))
in-by q now all b o Strays = in-queue q b.origin (started o) _ (in-hand q (taker o) _ (in-pause q now all (pause_of (last_answer o))))

pub in-is : (s : Plan) (past : Past) (b : Birth) (q : ℕ) → is_in q (place_of s past b) ≡ waits_in q b (own b.number past) (fate s past b)
unfolding place_of
in-is s past b q = in-by q (clock past) (all_ended s past) b (own b.number past) (fate s past b)

-- an entry that isn't its own takes nobody out of a queue
pub in-other : (s : Plan) (e : Entry) (past : Past) (b : Birth) (q : ℕ) → concerns b.number e.kind ≡ false
    → is_in q (place_of s (e ∷ past) b) ≡ is_in q (place_of s past b)
in-other s e past b q c =
    in-is s (e ∷ past) b q
    ∙ (ap (λ o. waits_in q b o (fate s (e ∷ past) b)) (own-other b.number e past c)
    ∙ (ap (waits_in q b (own b.number past)) (fate-other s e past b c) ∙ sym (in-is s past b q)))

acting-not-in : (q : ℕ) (p : Place) → is_acting p ≡ true → is_in q p ≡ false
acting-not-in q place_is.Ready h = refl
acting-not-in q (place_is.InHand w) h = refl
acting-not-in q (place_is.Ended e) h = absurd (cc h)
acting-not-in q (place_is.Queue r) h = absurd (cc h)
acting-not-in q (place_is.Retry d) h = absurd (cc h)
acting-not-in q place_is.Joining h = absurd (cc h)

out-of-queue : (q : ℕ) (b : Birth) (o : Past) (f : Fate) → (is_born_into q b.origin && not (started o)) ≡ false → waits_in q b o f ≡ false
out-of-queue q b o (Ends e m) h = refl
out-of-queue q b o (AsksNext u p) h = h
out-of-queue q b o Strays h = h

-- nor is who acts in a queue, before its entry or behind it
pub in-acting : (s : Plan) (e : Entry) (past : Past) (b : Birth) (q : ℕ) → is_acting (place_of s past b) ≡ true → concerns b.number e.kind ≡ true
    → (is_in q (place_of s past b) ≡ false) × (is_in q (place_of s (e ∷ past) b) ≡ false)
in-acting s e past b q h c =
    let was = acting-not-in q (place_of s past b) h in
    let out = sym (in-queue q b.origin (started (own b.number past)) place_is.Ready refl) ∙ ap (is_in q) (acting-out s past b h place_is.Ready) in (
      was,
      in-is s (e ∷ past) b q ∙ (ap (λ o. waits_in q b o (fate s (e ∷ past) b)) (own-here b.number e past c)
          ∙ out-of-queue q b (e ∷ own b.number past) (fate s (e ∷ past) b) (by_start (is_start e.kind) (is_born_into q b.origin) (started (own b.number past)) out)),
    )
  where
    by_start : (u r v : Bool) → (r && not v) ≡ false → (r && not (u || v)) ≡ false
    by_start true r v g = and_right r false refl
    by_start false r v g = g

-- who waits in a queue has no entry
pub waiting-silent : (s : Plan) (w limit : ℕ) (past : Past) (b : Birth) (q : ℕ) → KeepsRules s w limit past
    → ((d : Birth) → numbered (births s past) b.number ≡ Some d → d ≡ b) → is_in q (place_of s past b) ≡ true → own b.number past ≡ []
waiting-silent s w limit past b q legal at h =
    let t = in-waiting q b (own b.number past) (fate s past b) (sym (in-is s past b q) ∙ h) in
    by_origin b.origin refl t
  where
    in-waiting : (q : ℕ) (b : Birth) (o : Past) (f : Fate) → waits_in q b o f ≡ true → (is_born_into q b.origin && not (started o)) ≡ true
    in-waiting q b o (Ends e m) g = absurd (cc g)
    in-waiting q b o (AsksNext u p) g = g
    in-waiting q b o Strays g = g

    not-started : (u v : Bool) → (u && not v) ≡ true → v ≡ false
    not-started u false g = refl
    not-started true true g = absurd (cc g)
    not-started false true g = absurd (cc g)

    by_origin : (r : Origin) → b.origin ≡ r → (is_born_into q b.origin && not (started (own b.number past))) ≡ true → own b.number past ≡ []
    by_origin (from.Queue n) o g = queued-silent s w limit past b n legal at o (not-started (is_born_into q b.origin) (started (own b.number past)) g)
    by_origin (from.Source n i) o g = absurd (let k = rw o at g in cc k)
    by_origin (from.Part n i) o g = absurd (let k = rw o at g in cc k)
    by_origin (from.Group n) o g = absurd (let k = rw o at g in cc k)

-- who starts has left its queue
pub in-started : (s : Plan) (e : Entry) (past : Past) (b : Birth) (q : ℕ) → concerns b.number e.kind ≡ true → is_start e.kind ≡ true
    → is_in q (place_of s (e ∷ past) b) ≡ false
in-started s e past b q c t =
    in-is s (e ∷ past) b q
    ∙ (ap (λ o. waits_in q b o (fate s (e ∷ past) b)) (own-here b.number e past c)
    ∙ out-of-queue q b (e ∷ own b.number past) (fate s (e ∷ past) b) (by_start (is_start e.kind) (is_born_into q b.origin) t))
  where
    by_start : (u r : Bool) → u ≡ true → (r && not (u || started (own b.number past))) ≡ false
    by_start true r g = and_right r false refl
    by_start false r g = absurd (cc g)

ended-run : (r : Origin) (v : Bool) (w : Option ℕ) (p : Place) → is_ended p ≡ false → is_ended (queued r v (in_hand w p)) ≡ false
ended-run r v (Some u) p h = by_queue r v
  where
    by_queue : (r : Origin) (v : Bool) → is_ended (queued r v (place_is.InHand u)) ≡ false
    by_queue (from.Queue n) false = refl
    by_queue (from.Queue n) true = refl
    by_queue (from.Source n i) v = refl
    by_queue (from.Part n i) v = refl
    by_queue (from.Group n) v = refl
ended-run (from.Queue n) false None p h = refl
ended-run (from.Queue n) true None p h = h
ended-run (from.Source n i) v None p h = h
ended-run (from.Part n i) v None p h = h
ended-run (from.Group n) v None p h = h

ended-pause : (now : ℕ) (all : ℕ → ℕ → Bool) (p : Pause) → is_ended (paused now all p) ≡ false
ended-pause now all (Sleeps d) = elim (nat_lt now d) as (λ v. is_ended (cond v (place_is.Retry d) place_is.Ready) ≡ false) [ true ↦ refl | false ↦ refl ]
ended-pause now all (Joins f c) = elim (all f c) as (λ v. is_ended (cond v place_is.Ready place_is.Joining) ≡ false) [ true ↦ refl | false ↦ refl ]
ended-pause now all Runs = refl

-- who has ended stands at its end, and nobody else does
pub end-is : (s : Plan) (past : Past) (b : Birth) → is_ended (place_of s past b) ≡ is_some (end_of (fate s past b))
unfolding place_of
end-is s past b = by_fate (fate s past b)
  where
    by_fate : (f : Fate) → is_ended (place_by (clock past) (all_ended s past) b (own b.number past) f) ≡ is_some (end_of f)
    by_fate (Ends e m) = refl
    by_fate (AsksNext q p) =
        ended-run b.origin (started (own b.number past)) (taker (own b.number past)) _ (ended-pause (clock past) (all_ended s past) (pause_of (last_answer (own b.number past))))
    by_fate Strays =
        ended-run b.origin (started (own b.number past)) (taker (own b.number past)) _ (ended-pause (clock past) (all_ended s past) (pause_of (last_answer (own b.number past))))

pub acting-lives : (p : Place) → is_acting p ≡ true → is_ended p ≡ false
acting-lives place_is.Ready h = refl
acting-lives (place_is.InHand w) h = refl
acting-lives (place_is.Ended e) h = absurd (cc h)
acting-lives (place_is.Queue r) h = absurd (cc h)
acting-lives (place_is.Retry d) h = absurd (cc h)
acting-lives place_is.Joining h = absurd (cc h)

pub waiting-lives : (r : ℕ) (p : Place) → is_in r p ≡ true → is_ended p ≡ false
waiting-lives r (place_is.Queue q) h = refl
waiting-lives r (place_is.Ended e) h = absurd (cc h)
waiting-lives r (place_is.InHand w) h = absurd (cc h)
waiting-lives r (place_is.Retry d) h = absurd (cc h)
waiting-lives r place_is.Joining h = absurd (cc h)
waiting-lives r place_is.Ready h = absurd (cc h)

-- who waits in a queue was born into it
pub waiting-born : (s : Plan) (past : Past) (b : Birth) (r : ℕ) → is_in r (place_of s past b) ≡ true → b.origin ≡ from.Queue r
waiting-born s past b r h = by_origin b.origin refl (in-waits (fate s past b) (sym (in-is s past b r) ∙ h))
  where
    in-waits : (f : Fate) → waits_in r b (own b.number past) f ≡ true → (is_born_into r b.origin && not (started (own b.number past))) ≡ true
    in-waits (Ends e m) g = absurd (cc g)
    in-waits (AsksNext u p) g = g
    in-waits Strays g = g

    by_origin : (o : Origin) → b.origin ≡ o → (is_born_into r b.origin && not (started (own b.number past))) ≡ true → b.origin ≡ from.Queue r
    by_origin (from.Queue n) e g =
        let k = rw e at g in
        let both = and_parts (n == r) (not (started (own b.number past))) k in
        e ∙ ap from.Queue (eqb-true n r both.0)
    by_origin (from.Source n i) e g = absurd (let k = rw e at g in cc k)
    by_origin (from.Part n i) e g = absurd (let k = rw e at g in cc k)
    by_origin (from.Group n) e g = absurd (let k = rw e at g in cc k)
