-- A Tick lowers the work.
use Rattle.std.proofs.Common.{◌≡◌, ℕ, zero, suc, ◌+◌, ◌<◌, ◌≤◌, Bool, true, false, min, List, [], ◌∷◌, ◌++◌, length, filter, filter_map, Option, Some, None, refl, ap, ◌∙◌, arith, cond, inl, inr, ◌⊎◌}
use Rattle.std.specs.List.{slice_get, cons_option as list_cons}
use Rattle.std.proofs.lemmas.Bool.{le-ltb, cases_lt, le-leb}
use Rattle.std.proofs.Math.Nat.{min-eq_left, min_comm}
use Rattle.eip_exchange.specs.declared.birth.Birth.{Birth}
use Rattle.eip_frames.specs.declared.answer.Completion.TheVariants as by
use Rattle.eip_ledger.specs.declared.entry.Entry.{Entry}
use Rattle.eip_ledger.specs.declared.place.Place.{Place}
use Rattle.eip_ledger.specs.declared.place.Place.TheVariants as place_is
use Rattle.eip_ledger.specs.declared.entry.Kind.TheVariants.{Tick}
use Rattle.eip_history.specs.Plan.{Plan}
use Rattle.eip_history.specs.Own.{Past, clock}
use Rattle.eip_history.specs.Groups.{Group, due_of, closed_by, is_due}
use Rattle.eip_history.specs.Births.{story, births, groups, group_births}
use Rattle.eip_history.specs.Place.{place_of}
use Rattle.eip_history.specs.Rules.{KeepsRules, dues, least, or_least, retry_due}
use Rattle.eip_history.specs.Laws.{PlanLaws}
use Rattle.eip_history.specs.Work.{weight, weigh, open_count, births_work, work}
use Rattle.eip_history.proofs.Unborn.{legal-tail, legal-may, newborn-own}
use Rattle.eip_history.proofs.Places.{place-tick}
use Rattle.eip_history.proofs.Final.{weight-other}
use Rattle.eip_history.proofs.Falls.{old-weigh, weigh-append, weigh-less, groups-weigh, closed-count, open-due, sources-same}

pub least-at : (xs : List ℕ) (t : ℕ) → least xs ≡ Some t → (i : ℕ) × (slice_get xs i ≡ Some t)
least-at [] t h = absurd (cc h)
least-at (x ∷ xs) t h = by_rest (least xs) refl h (λ y g. least-at xs y g)
  where
    by_rest : (o : Option ℕ) → least xs ≡ o → or_least x o ≡ Some t → ((y : ℕ) → least xs ≡ Some y → (i : ℕ) × (slice_get xs i ≡ Some y))
        → (i : ℕ) × (slice_get (x ∷ xs) i ≡ Some t)
    by_rest None e g ih = (0, g)
    by_rest (Some y) e g ih = elim (cases_lt y x) [
      | inl l ↦ (let r = ih y e in
          let m : min x y ≡ y = min_comm x y ∙ min-eq_left (omega (arith, l)) in let same : y ≡ t = let k = rw m at g in cc in (suc r.0, rw (← same) r.1))
      | inr l ↦ (let k = rw (min-eq_left l) at g in (0, k))
    ]

append-at : {A : Type 0} (xs ys : List A) (i : ℕ) (v : A) → slice_get (xs ++ ys) i ≡ Some v
    → ((j : ℕ) × (slice_get xs j ≡ Some v)) ⊎ ((j : ℕ) × (slice_get ys j ≡ Some v))
append-at [] ys i v h = inr (i, h)
append-at (x ∷ xs) ys zero v h = inl (0, h)
append-at (x ∷ xs) ys (suc i) v h = elim (append-at xs ys i v h) [ inl r ↦ inl (suc r.0, r.1) | inr r ↦ inr (r.0, r.1) ]

some-at : {A B : Type 0} (f : A → Option B) (xs : List A) (i : ℕ) (y : B) → slice_get (filter_map f xs) i ≡ Some y
    → (j : ℕ) × (x : A) × (slice_get xs j ≡ Some x) × (f x ≡ Some y)
some-at f [] i y h = absurd (cc h)
some-at {A} {B} f (x ∷ xs) i y h = by_value (f x) refl i h (λ k g. some-at f xs k y g)
  where
    by_value : (o : Option B) → f x ≡ o → (i : ℕ) → slice_get (list_cons o (filter_map f xs)) i ≡ Some y
        → ((k : ℕ) → slice_get (filter_map f xs) k ≡ Some y → (j : ℕ) × (z : A) × (slice_get xs j ≡ Some z) × (f z ≡ Some y))
        → (j : ℕ) × (z : A) × (slice_get (x ∷ xs) j ≡ Some z) × (f z ≡ Some y)
    by_value None e i g ih = let r = ih i g in (suc r.0, r.1, r.2, r.3)
    by_value (Some v) e zero g ih = (0, x, refl, e ∙ g)
    by_value (Some v) e (suc i) g ih = let r = ih i g in (suc r.0, r.1, r.2, r.3)

filter-some : {A : Type 0} (p : A → Bool) (xs : List A) (i : ℕ) (x : A) → slice_get xs i ≡ Some x → p x ≡ true → 1 ≤ length (filter p xs)
filter-some p [] i x h t = absurd (cc h)
filter-some p (y ∷ ys) zero x h t = let same : y ≡ x = cc in let u : p y ≡ true = rw same t in rw u (omega arith)
filter-some p (y ∷ ys) (suc i) x h t =
    let ih = filter-some p ys i x h t in elim (p y) as (λ v. 1 ≤ length (cond v (y ∷ filter p ys) (filter p ys))) [ true ↦ omega arith | false ↦ ih ]

-- who is due at t: a sleeper, or an open group
pub due-at : (s : Plan) (past : Past) (t : ℕ) → least (dues s past) ≡ Some t
    → ((j : ℕ) × (b : Birth) × (slice_get (births s past) j ≡ Some b) × (retry_due (place_of s past b)
    ≡ Some t)) ⊎ ((j : ℕ) × (g : Group) × (slice_get (groups s past) j ≡ Some g) × (due_of s g ≡ Some t))
unfolding dues
due-at s past t h =
    let r = least-at (dues s past) t h in
    elim (append-at (filter_map (λ (b : Birth). retry_due (place_of s past b)) (births s past)) (filter_map (due_of s) (groups s past)) r.0 t r.1) [
      | inl a ↦ inl (some-at (λ (b : Birth). retry_due (place_of s past b)) (births s past) a.0 t a.1)
      | inr a ↦ inr (some-at (due_of s) (groups s past) a.0 t a.1)
    ]

retry-is : (p : Place) (t : ℕ) → retry_due p ≡ Some t → p ≡ place_is.Retry t
retry-is (place_is.Retry d) t h = let e : d ≡ t = cc in ap place_is.Retry e
retry-is (place_is.Ended e) t h = absurd (cc h)
retry-is (place_is.InHand w) t h = absurd (cc h)
retry-is (place_is.Queue d) t h = absurd (cc h)
retry-is place_is.Joining t h = absurd (cc h)
retry-is place_is.Ready t h = absurd (cc h)

tick-births : (s : Plan) (v t : ℕ) (past : Past)
    → births s ((record { worker = v; kind = Tick t }) ∷ past)
    ≡ births s past ++ group_births s (length (births s past) + 1) by.Timeout (filter (is_due s t) (groups s past))
unfolding story
tick-births s v t past = refl

tick-groups : (s : Plan) (v t : ℕ) (past : Past) → groups s ((record { worker = v; kind = Tick t }) ∷ past) ≡ closed_by by.Timeout (is_due s t) (groups s past)
unfolding story
tick-groups s v t past = refl

tick-clock : (v t : ℕ) (past : Past) → clock ((record { worker = v; kind = Tick t }) ∷ past) ≡ t
unfolding clock
tick-clock v t past = refl

wakes : (s : Plan) (w limit v t j : ℕ) (past : Past) (b : Birth) → KeepsRules s w limit ((record { worker = v; kind = Tick t }) ∷ past) → clock past ≤ t
    → slice_get (births s past) j ≡ Some b → retry_due (place_of s past b) ≡ Some t
    → weigh (λ (d : Birth). weight (place_of s ((record { worker = v; kind = Tick t }) ∷ past) d)) (births s past) < births_work s past
unfolding births_work
wakes s w limit v t j past b legal l at due =
    let e : Entry = record { worker = v; kind = Tick t } in
    let c = tick-clock v t past in
    let p = retry-is (place_of s past b) t due in
    let q = place-tick s w limit v t past b (legal-tail s w limit e past legal) l in
    let less : weight (place_of s (e ∷ past) b) < weight (place_of s past b) = rw (q, p, le-ltb t t (omega arith)) (omega arith) in
    weigh-less (λ (d : Birth). weight (place_of s past d)) (λ (d : Birth). weight (place_of s (e ∷ past) d)) (births s past) j b at less
    (λ i d at_d. weight-other s w limit e past d legal refl (omega (arith, l, c)))

pub falls-tick : (s : Plan) (laws : PlanLaws s) (w limit v t : ℕ) (past : Past) → KeepsRules s w limit ((record { worker = v; kind = Tick t }) ∷ past)
    → clock past ≤ t → work s ((record { worker = v; kind = Tick t }) ∷ past) < work s past
unfolding births_work
falls-tick s laws w limit v t past legal l =
    let e : Entry = record { worker = v; kind = Tick t } in
    let f : Birth → ℕ = λ b. weight (place_of s (e ∷ past) b) in
    let c = tick-clock v t past in
    let a = old-weigh s w limit v (Tick t) past legal (λ x. refl) (omega (arith, c, l)) in
    let b = ap (weigh f) (tick-births s v t past)
    ∙ weigh-append f (births s past) (group_births s (length (births s past) + 1) by.Timeout (filter (is_due s t) (groups s past))) in
    let n = groups-weigh s laws (e ∷ past) by.Timeout (length (births s past)) (length (births s past)
    + 1) (filter (is_due s t) (groups s past)) (omega arith) (λ x h. newborn-own s w limit e past x legal h) in
    let g = ap open_count (tick-groups s v t past) in
    let k = closed-count by.Timeout (is_due s t) (groups s past) (open-due s t) in
    let r = sources-same s v (Tick t) past (λ u was. refl) in
    elim (due-at s past t (legal-may s w limit e past legal).2) [
      | inl d ↦ (let m = wakes s w limit v t d.0 past d.1 legal l d.2 d.3 in omega (arith, m, b, n, g, k, r))
      | inr d ↦ (let m = filter-some (is_due s t) (groups s past) d.0 d.1 d.2 (rw (d.3, le-leb t t (omega arith)) refl) in omega (arith, a, b, n, g, k, r, m))
    ]
