-- No state is stuck.
use Rattle.std.proofs.Common.{◌≡◌, ◌≢◌, ℕ, zero, suc, ◌<◌, Bool, true, false, ◌==◌, nat_lt, List, [], ◌∷◌, ◌++◌, length, filter, filter_map, map, Option, Some, None, is_some, refl, ap, arith, eq-eqb, cond, inl, inr}
use Rattle.std.specs.List.{slice_get, cons_option as list_cons}
use Rattle.std.proofs.lemmas.Bool.{cases_Bool, eqb-true}
use Rattle.eip_exchange.specs.declared.birth.Birth.{Birth}
use Rattle.eip_exchange.specs.declared.end.End.{End}
use Rattle.eip_exchange.specs.declared.birth.Origin.{Origin}
use Rattle.eip_exchange.specs.declared.birth.Origin.TheVariants as from
use Rattle.eip_frames.specs.declared.answer.Answer.{Answer as Reply}
use Rattle.eip_frames.specs.declared.answer.Answer.TheVariants as reply
use Rattle.eip_frames.specs.Fate.{Fate, AsksNext, Ends, Strays}
use Rattle.eip_ledger.specs.declared.place.Place.{Place}
use Rattle.eip_ledger.specs.declared.place.Place.TheVariants as place_is
use Rattle.eip_history.specs.Plan.{Plan}
use Rattle.eip_history.specs.Own.{Past, own, numbers_below, last_answer, started, taker, clock}
use Rattle.eip_history.specs.Births.{fate}
use Rattle.eip_history.specs.Place.{end_of, all_ended, pause_of, paused, in_hand, queued, place_by, place_of}
use Rattle.eip_history.specs.Rules.{least, or_least}

-- lists
pub none-at : {A : Type 0} (p : A → Bool) (xs : List A) (i : ℕ) (x : A) → filter p xs ≡ [] → slice_get xs i ≡ Some x → p x ≡ false
none-at p [] i x e h = absurd (cc h)
none-at p (y ∷ ys) i x e h = by_test (p y) refl e (λ j f g. none-at p ys j x f g)
  where
    by_place : (i : ℕ) → slice_get (y ∷ ys) i ≡ Some x → p y ≡ false → ((j : ℕ) → slice_get ys j ≡ Some x → p x ≡ false) → p x ≡ false
    by_place zero g f r = let same : y ≡ x = cc in rw (← same) f
    by_place (suc j) g f r = r j g

    by_test : (v : Bool) → p y ≡ v → cond v (y ∷ filter p ys) (filter p ys) ≡ []
        → ((j : ℕ) → filter p ys ≡ [] → slice_get ys j ≡ Some x → p x ≡ false) → p x ≡ false
    by_test true t f r = absurd (cc f)
    by_test false t f r = by_place i h t (λ j g. r j f g)

pub none-from : {A : Type 0} (p : A → Bool) (xs : List A) → ((i : ℕ) (x : A) → slice_get xs i ≡ Some x → p x ≡ false) → filter p xs ≡ []
none-from p [] h = refl
none-from p (x ∷ xs) h = rw (h 0 x refl) (none-from p xs (λ i y g. h (suc i) y g))

pub map-none : {A B : Type 0} (f : A → B) (xs : List A) → map f xs ≡ [] → xs ≡ []
map-none f [] h = refl
map-none f (x ∷ xs) h = absurd (cc h)

pub length-none : {A : Type 0} (xs : List A) → length xs ≡ 0 → xs ≡ []
length-none [] h = refl
length-none (x ∷ xs) h = absurd (omega (arith, h))

pub append-none : {A : Type 0} (xs ys : List A) → xs ++ ys ≡ [] → (xs ≡ []) × (ys ≡ [])
append-none [] ys h = (refl, h)
append-none (x ∷ xs) ys h = absurd (cc h)

pub some-none-at : {A B : Type 0} (f : A → Option B) (xs : List A) (i : ℕ) (x : A) → filter_map f xs ≡ [] → slice_get xs i ≡ Some x → f x ≡ None
some-none-at f [] i x e h = absurd (cc h)
some-none-at {A} {B} f (y ∷ ys) i x e h = by_value (f y) refl e (λ j g u. some-none-at f ys j x g u)
  where
    by_place : (i : ℕ) → slice_get (y ∷ ys) i ≡ Some x → f y ≡ None → ((j : ℕ) → slice_get ys j ≡ Some x → f x ≡ None) → f x ≡ None
    by_place zero g n r = let same : y ≡ x = cc in rw (← same) n
    by_place (suc j) g n r = r j g

    by_value : (o : Option B) → f y ≡ o → list_cons o (filter_map f ys) ≡ [] → ((j : ℕ) → filter_map f ys ≡ [] → slice_get ys j ≡ Some x → f x ≡ None)
        → f x ≡ None
    by_value (Some z) t g r = absurd (cc g)
    by_value None t g r = by_place i h t (λ j u. r j g u)

pub below-none : (p : ℕ → Bool) (n q : ℕ) → numbers_below p n ≡ [] → q < n → p q ≡ false
below-none p zero q e l = absurd (omega arith)
below-none p (suc n) q e l =
    let both = append-none (numbers_below p n) (cond (p n) (n ∷ []) []) e in
    elim (cases_Bool (q == n)) [
      | inl t ↦ (let same = eqb-true q n t in rw same (elim (cases_Bool (p n)) [ inl y ↦ absurd (let k = rw y at both.1 in cc k) | inr f ↦ f ]))
      | inr f ↦ below-none p n q both.0 (let ne : q ≢ n = λ same. let k = eq-eqb q n same in cc in omega (arith, ne, l))
    ]

pub least-none : (xs : List ℕ) → least xs ≡ None → xs ≡ []
least-none [] h = refl
least-none (x ∷ xs) h = by_rest (least xs) h
  where
    by_rest : (o : Option ℕ) → or_least x o ≡ None → x ∷ xs ≡ []
    by_rest None g = absurd (cc g)
    by_rest (Some y) g = absurd (cc g)

-- where a birth stands, with the reason
pub data Standing (s : Plan) (past : Past) (b : Birth) : Type 0 where
  InEnd : (e : End) → place_of s past b ≡ place_is.Ended e → is_some (end_of (fate s past b)) ≡ true → Standing s past b
  InQueue : (q : ℕ) → b.origin ≡ from.Queue q → place_of s past b ≡ place_is.Queue q → Standing s past b
  Held : (w : ℕ) → taker (own b.number past) ≡ Some w → place_of s past b ≡ place_is.InHand w → Standing s past b
  Asleep : (d : ℕ) → last_answer (own b.number past) ≡ Some (reply.Slept d) → nat_lt (clock past) d ≡ true → place_of s past b ≡ place_is.Retry d
      → Standing s past b
  Waits : (first count : ℕ) → last_answer (own b.number past) ≡ Some (reply.Born first count) → all_ended s past first count ≡ false
      → place_of s past b ≡ place_is.Joining → Standing s past b
  Able : place_of s past b ≡ place_is.Ready → Standing s past b

abbrev run : ℕ → (ℕ → ℕ → Bool) → Origin → Bool → Option ℕ → Option Reply → Place
run now all r v w a = queued r v (in_hand w (paused now all (pause_of a)))

paused-standing : (s : Plan) (past : Past) (b : Birth) (a : Option Reply) → last_answer (own b.number past) ≡ a
    → place_of s past b ≡ paused (clock past) (all_ended s past) (pause_of a) → Standing s past b
paused-standing s past b (Some (reply.Slept d)) la h = elim (cases_Bool (nat_lt (clock past) d)) [ inl t ↦ Asleep d la t (rw t at h) | inr t ↦ Able (rw t at h) ]
paused-standing s past b (Some (reply.Born f c)) la h = elim (cases_Bool (all_ended s past f c)) [ inl t ↦ Able (rw t at h) | inr t ↦ Waits f c la t (rw t at h) ]
paused-standing s past b (Some _) la h = Able h
paused-standing s past b None la h = Able h

hand-standing : (s : Plan) (past : Past) (b : Birth) (w : Option ℕ) → taker (own b.number past) ≡ w
    → place_of s past b ≡ in_hand w (paused (clock past) (all_ended s past) (pause_of (last_answer (own b.number past)))) → Standing s past b
hand-standing s past b (Some w) t h = Held w t h
hand-standing s past b None t h = paused-standing s past b (last_answer (own b.number past)) refl h

queue-standing : (s : Plan) (past : Past) (b : Birth) (r : Origin) (v : Bool) → b.origin ≡ r
    → place_of s past b ≡ queued r v (in_hand (taker (own b.number past)) (paused (clock past) (all_ended s past) (pause_of (last_answer (own b.number past)))))
    → Standing s past b
queue-standing s past b (from.Queue q) false o h = InQueue q o h
queue-standing s past b (from.Queue q) true o h = hand-standing s past b (taker (own b.number past)) refl h
queue-standing s past b (from.Source r i) v o h = hand-standing s past b (taker (own b.number past)) refl h
queue-standing s past b (from.Part y i) v o h = hand-standing s past b (taker (own b.number past)) refl h
queue-standing s past b (from.Group g) v o h = hand-standing s past b (taker (own b.number past)) refl h

pub standing : (s : Plan) (past : Past) (b : Birth) → Standing s past b
unfolding place_of
standing s past b = by_fate (fate s past b) refl
  where
    by_fate : (f : Fate) → fate s past b ≡ f → Standing s past b
    by_fate (Ends e m) h = InEnd e (ap (place_by (clock past) (all_ended s past) b (own b.number past)) h) (rw h refl)
    by_fate (AsksNext q p) h =
        queue-standing s past b b.origin (started (own b.number past)) refl (ap (place_by (clock past) (all_ended s past) b (own b.number past)) h)
    by_fate Strays h = queue-standing s past b b.origin (started (own b.number past)) refl (ap (place_by (clock past) (all_ended s past) b (own b.number past)) h)
