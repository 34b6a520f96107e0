-- Who has ended has no further entry, and no entry makes the rest of the work grow.
use Rattle.std.proofs.Common.{◌≡◌, ℕ, zero, suc, ◌+◌, ◌≤◌, Bool, true, false, nat_lt, List, ◌∷◌, Option, Some, None, is_some, refl, sym, ap, subst, ◌∙◌, arith, cond, inl, inr}
use Rattle.std.proofs.lemmas.Bool.{cases_Bool, eqb-true, lt-ltb, ltb-true}
use Rattle.eip_exchange.specs.declared.birth.Birth.{Birth}
use Rattle.eip_exchange.specs.declared.birth.Origin.{Origin}
use Rattle.eip_exchange.specs.declared.birth.Origin.TheVariants as from
use Rattle.eip_exchange.specs.declared.end.Ended.{Ended as Finished}
use Rattle.eip_frames.specs.Fate.{Fate, AsksNext, Ends, Strays}
use Rattle.eip_frames.specs.Fits.{is_outside}
use Rattle.eip_ledger.specs.declared.entry.Entry.{Entry}
use Rattle.eip_ledger.specs.declared.place.Place.{Place}
use Rattle.eip_ledger.specs.declared.place.Place.TheVariants as place_is
use Rattle.eip_ledger.specs.declared.entry.Kind.{Kind}
use Rattle.eip_ledger.specs.declared.entry.Kind.TheVariants.{Start, Take, Answer, Starve, Return}
use Rattle.eip_history.specs.Plan.{Plan}
use Rattle.eip_history.specs.Own.{Past, own, concerns, numbered, last_answer, started, taker, clock}
use Rattle.eip_history.specs.Births.{births, fate}
use Rattle.eip_history.specs.Place.{ended, end_at, end_of, joined, cons_option, all_ended, pause_of, Pause, Sleeps, Joins, Runs, paused, in_hand, queued, place_by, place_of, is_in, is_ended}
use Rattle.eip_history.specs.Rules.{KeepsRules, May, MayAct, first}
use Rattle.eip_history.specs.Work.{weight}
use Rattle.eip_history.proofs.Told.{own-other}
use Rattle.eip_history.proofs.Unborn.{legal-may, place-born, first-placed}
use Rattle.eip_history.proofs.Places.{ended-is, ended-other, fate-other}

is-ended-at : (s : Plan) (past : Past) (b : Birth) (p : Place) → place_of s past b ≡ p → is_ended p ≡ false → is_ended (place_of s past b) ≡ false
is-ended-at s past b p h f = ap is_ended h ∙ f

in-queue : (q : ℕ) (p : Place) → is_in q p ≡ true → is_ended p ≡ false
in-queue q (place_is.Queue r) h = refl
in-queue q (place_is.Ended e) h = absurd (cc h)
in-queue q (place_is.InHand w) h = absurd (cc h)
in-queue q (place_is.Retry d) h = absurd (cc h)
in-queue q place_is.Joining h = absurd (cc h)
in-queue q place_is.Ready h = absurd (cc h)

-- who has an entry hasn't ended
pub entry-live : (s : Plan) (limit : ℕ) (past : Past) (w x : ℕ) (k : Kind) → May s limit past w k → concerns x k ≡ true
    → (b : Birth) × (numbered (births s past) x ≡ Some b) × (is_ended (place_of s past b) ≡ false)
entry-live s limit past w x (Start q n) may c =
    let e : n ≡ x = eqb-true n x c in let r = first-placed s past (is_in q) n may.0 in (r.0, rw (← e) r.1, in-queue q (place_of s past r.0) r.2)
entry-live s limit past w x (Take n) may c =
    let e : n ≡ x = eqb-true n x c in let r = place-born s past n _ may.0 in (r.0, rw (← e) r.1, is-ended-at s past r.0 _ r.2 refl)
entry-live s limit past w x (Answer n a) may c = let e : n ≡ x = eqb-true n x c in by_side (is_outside may.asks.request) may.act e
  where
    by_side : (v : Bool) → MayAct s limit past w n v → n ≡ x → (b : Birth) × (numbered (births s past) x ≡ Some b) × (is_ended (place_of s past b) ≡ false)
    by_side true act e = let r = place-born s past n _ act in (r.0, rw (← e) r.1, is-ended-at s past r.0 _ r.2 refl)
    by_side false act e = let r = place-born s past n _ act.0 in (r.0, rw (← e) r.1, is-ended-at s past r.0 _ r.2 refl)
entry-live s limit past w x (Starve n) (inl h) c =
    let e : n ≡ x = eqb-true n x c in let r = place-born s past n _ h in (r.0, rw (← e) r.1, is-ended-at s past r.0 _ r.2 refl)
entry-live s limit past w x (Starve n) (inr h) c =
    let e : n ≡ x = eqb-true n x c in let r = place-born s past n _ h in (r.0, rw (← e) r.1, is-ended-at s past r.0 _ r.2 refl)
entry-live s limit past w x (Return n) may c = absurd may
entry-live s limit past w x _ may c = absurd (cc c)

pub end-place : (s : Plan) (past : Past) (b : Birth) → is_some (end_of (fate s past b)) ≡ true → is_ended (place_of s past b) ≡ true
unfolding place_of
end-place s past b h = by_fate (fate s past b) refl h
  where
    by_fate : (f : Fate) → fate s past b ≡ f → is_some (end_of f) ≡ true
        → is_ended (place_by (clock past) (all_ended s past) b (own b.number past) (fate s past b)) ≡ true
    by_fate (Ends e m) t g = rw t refl
    by_fate (AsksNext q p) t g = absurd (cc g)
    by_fate Strays t g = absurd (cc g)

-- who has ended, stays so
pub ended-final : (s : Plan) (w limit : ℕ) (e : Entry) (past : Past) (x : ℕ) (b : Birth) → KeepsRules s w limit (e ∷ past)
    → numbered (births s past) x ≡ Some b → is_some (end_of (fate s past b)) ≡ true → concerns x e.kind ≡ false
ended-final s w limit e past x b legal at h = elim (cases_Bool (concerns x e.kind)) [
  | inl c ↦ (let r = entry-live s limit past e.worker x e.kind (legal-may s w limit e past legal) c in
      let same : r.0 ≡ b = let u = r.1 in cc in
      let f : is_ended (place_of s past b) ≡ false =
      subst (λ d. is_ended (place_of s past d) ≡ false) same r.2 in let t = end-place s past b h in absurd (cc t))
  | inr f ↦ f
]

pub some-born : (s : Plan) (past : Past) (x : ℕ) → is_some (ended s past x) ≡ true → (b : Birth) × (numbered (births s past) x ≡ Some b)
unfolding ended
some-born s past x h = by_option (numbered (births s past) x) refl h
  where
    by_option : (o : Option Birth) → numbered (births s past) x ≡ o → is_some (end_at s past o) ≡ true → (b : Birth) × (numbered (births s past) x ≡ Some b)
    by_option (Some b) e g = (b, e)
    by_option None e g = absurd (cc g)

-- how who has ended ended, stays so
pub ended-stays : (s : Plan) (w limit : ℕ) (e : Entry) (past : Past) (x : ℕ) → KeepsRules s w limit (e ∷ past) → is_some (ended s past x) ≡ true
    → ended s (e ∷ past) x ≡ ended s past x
ended-stays s w limit e past x legal h =
    let b = some-born s past x h in
    ended-other s e past x b.0 b.1 (ended-final s w limit e past x b.0 legal b.1 (ap is_some (sym (ended-is s past x b.0 b.1)) ∙ h))

pub ended-keeps : (s : Plan) (w limit : ℕ) (e : Entry) (past : Past) (x : ℕ) → KeepsRules s w limit (e ∷ past) → is_some (ended s past x) ≡ true
    → is_some (ended s (e ∷ past) x) ≡ true
ended-keeps s w limit e past x legal h = ap is_some (ended-stays s w limit e past x legal h) ∙ h

-- parts that have all ended, stay so
pub joined-keeps : (s : Plan) (w limit : ℕ) (e : Entry) (past : Past) (first count : ℕ) → KeepsRules s w limit (e ∷ past)
    → is_some (joined s past first count) ≡ true → is_some (joined s (e ∷ past) first count) ≡ true
joined-keeps s w limit e past first zero legal h = refl
joined-keeps s w limit e past first (suc k) legal h =
    by_first (ended s past first) (joined s past (first + 1) k) refl refl (λ g. joined-keeps s w limit e past (first + 1) k legal g) h
  where
    both : (o : Option Finished) (r : Option (List Finished)) → is_some o ≡ true → is_some r ≡ true → is_some (cons_option o r) ≡ true
    both (Some a) (Some b) x y = refl
    both None r x y = absurd (cc x)
    both (Some a) None x y = absurd (cc y)

    by_first : (o : Option Finished) (r : Option (List Finished)) → ended s past first ≡ o → joined s past (first + 1) k ≡ r
        → (is_some (joined s past (first + 1) k) ≡ true → is_some (joined s (e ∷ past) (first + 1) k) ≡ true)
        → is_some (cons_option o r) ≡ true → is_some (cons_option (ended s (e ∷ past) first) (joined s (e ∷ past) (first + 1) k)) ≡ true
    by_first (Some a) (Some l) t u ih g =
        both (ended s (e ∷ past) first) (joined s (e ∷ past) (first + 1) k) (ended-keeps s w limit e past first legal (ap is_some t)) (ih (ap is_some u))
    by_first None r t u ih g = absurd (cc g)
    by_first (Some a) None t u ih g = absurd (cc g)

-- weights
pause-weight : (now now' : ℕ) (all all' : ℕ → ℕ → Bool) (p : Pause) → now ≤ now' → ((f c : ℕ) → all f c ≡ true → all' f c ≡ true)
    → weight (paused now' all' p) ≤ weight (paused now all p)
pause-weight now now' all all' (Sleeps d) l h = elim (cases_Bool (nat_lt now' d)) [
  | inl t ↦ (let k = ltb-true now' d t in rw (t, lt-ltb now d (omega (arith, k, l))) (omega arith))
  | inr t ↦ rw t (elim (nat_lt now d) as (λ v. 2 ≤ weight (cond v (place_is.Retry d) place_is.Ready)) [ true ↦ omega arith | false ↦ omega arith ])
]
pause-weight now now' all all' (Joins f c) l h = elim (cases_Bool (all f c)) [
  | inl t ↦ rw (t, h f c t) (omega arith)
  | inr t ↦ rw t (elim (all' f c) as (λ v. weight (cond v place_is.Ready place_is.Joining) ≤ 3) [ true ↦ omega arith | false ↦ omega arith ])
]
pause-weight now now' all all' Runs l h = omega arith

hand-weight : (w : Option ℕ) (p q : Place) → weight q ≤ weight p → weight (in_hand w q) ≤ weight (in_hand w p)
hand-weight (Some v) p q l = omega arith
hand-weight None p q l = l

queue-weight : (r : Origin) (v : Bool) (p q : Place) → weight q ≤ weight p → weight (queued r v q) ≤ weight (queued r v p)
queue-weight (from.Queue n) false p q l = omega arith
queue-weight (from.Queue n) true p q l = l
queue-weight (from.Source r i) v p q l = l
queue-weight (from.Part y i) v p q l = l
queue-weight (from.Group g) v p q l = l

place-weight : (now now' : ℕ) (all all' : ℕ → ℕ → Bool) (b : Birth) (o : Past) (f : Fate) → now ≤ now'
    → ((x c : ℕ) → all x c ≡ true → all' x c ≡ true) → weight (place_by now' all' b o f) ≤ weight (place_by now all b o f)
place-weight now now' all all' b o (Ends e m) l h = omega arith
place-weight now now' all all' b o (AsksNext q p) l h =
    queue-weight b.origin (started o) _ _ (hand-weight (taker o) _ _ (pause-weight now now' all all' (pause_of (last_answer o)) l h))
place-weight now now' all all' b o Strays l h =
    queue-weight b.origin (started o) _ _ (hand-weight (taker o) _ _ (pause-weight now now' all all' (pause_of (last_answer o)) l h))

-- an entry makes no other exchange's place weigh more
pub weight-other : (s : Plan) (w limit : ℕ) (e : Entry) (past : Past) (b : Birth) → KeepsRules s w limit (e ∷ past) → concerns b.number e.kind ≡ false
    → clock past ≤ clock (e ∷ past) → weight (place_of s (e ∷ past) b) ≤ weight (place_of s past b)
unfolding place_of
weight-other s w limit e past b legal c l =
    let o = own-other b.number e past c in
    let f = fate-other s e past b c in
    let g = ap (λ o'. weight (place_by (clock (e ∷ past)) (all_ended s (e ∷ past)) b o' (fate s (e ∷ past) b))) o
    ∙ ap (λ f'. weight (place_by (clock (e ∷ past)) (all_ended s (e ∷ past)) b (own b.number past) f')) f in
    let h = place-weight (clock past) (clock (e ∷ past)) (all_ended s past) (all_ended s (e ∷ past)) b (own b.number past) (fate s past b) l
    (λ x k t. joined-keeps s w limit e past x k legal t) in
    rw g h
