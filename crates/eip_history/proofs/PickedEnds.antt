-- What the end of an exchange does to any table that is read from the places.
use Rattle.std.proofs.Common.{◌≡◌, ◌≢◌, ℕ, suc, ◌+◌, ◌==◌, Bool, false, cond, List, [], ◌∷◌, filter, filter_map, map, length, Option, Some, None, refl, sym, ap, arith, inl, inr, eq-eqb}
use Rattle.std.specs.List.{slice_get}
use Rattle.std.proofs.lemmas.Bool.{cases_Bool, ne_eqb}
use Rattle.eip_exchange.specs.declared.birth.Birth.{Birth}
use Rattle.eip_ledger.specs.declared.entry.Entry.{Entry}
use Rattle.eip_ledger.specs.declared.place.Place.{Place}
use Rattle.eip_history.specs.Plan.{Plan}
use Rattle.eip_history.specs.Own.{Past, concerns, ticked, numbered}
use Rattle.eip_history.specs.Births.{births}
use Rattle.eip_history.specs.Place.{place_of, picked, numbers_at, count_at, busy, is_busy, number_of}
use Rattle.eip_history.specs.Rules.{KeepsRules}
use Rattle.eip_history.proofs.Told.{births-numbered}
use Rattle.eip_history.proofs.Unborn.{legal-tail}
use Rattle.eip_history.proofs.Parts.{is_part_of, numbered-number}
use Rattle.eip_history.proofs.Places.{place-end-other}
use Rattle.eip_history.proofs.OneRow.{Differ, differ-at}

-- x = i + 1 may end by the entry and is nobody's part: only its own row changes
pub picked-alone : {A : Type 0} (s : Plan) (w limit : ℕ) (e : Entry) (past : Past) (i : ℕ) (d : Birth) → KeepsRules s w limit (e ∷ past)
    → ((y : ℕ) → y ≢ 1 + i → concerns y e.kind ≡ false) → ((n : ℕ) → ticked e.kind n ≡ n)
    → slice_get (births s past) i ≡ Some d → ((y : ℕ) → is_part_of y d.origin ≡ false) → (pick : Birth → Place → Option A)
    → Differ A (picked s past pick) (filter_map (λ (b : Birth). pick b (place_of s (e ∷ past) b)) (births s past))
    (pick d (place_of s past d)) (pick d (place_of s (e ∷ past) d))
unfolding picked
picked-alone s w limit e past i d legal only t at alone pick =
    let e1 : 1 + i ≡ suc i = omega arith in
    let at_x : numbered (births s past) (1 + i) ≡ Some d = rw e1 at in
    differ-at (λ (b : Birth). pick b (place_of s past b)) (λ (b : Birth). pick b (place_of s (e ∷ past) b)) 1 (births s past) i d at (births-numbered s past)
    (λ b ne. ap (pick b) (sym (place-end-other s w limit e past (1 + i) d b (legal-tail s w limit e past legal) at_x only ne (alone b.number) t)))

-- a table behind an end: the row of who ends changes first, then that of its parent
pub record DifferTwice (A : Type 0) (before after : List A) (was now was_parent now_parent : Option A) : Type 0 where
  pub between : List A
  pub own : Differ A before between was now
  pub parent : Differ A between after was_parent now_parent

-- x = i + 1 may end by the entry and is a part of j + 1: these two rows change
pub picked-end : {A : Type 0} (s : Plan) (w limit : ℕ) (e : Entry) (past : Past) (i j : ℕ) (d c : Birth) → KeepsRules s w limit (e ∷ past)
    → ((y : ℕ) → y ≢ 1 + i → concerns y e.kind ≡ false) → ((n : ℕ) → ticked e.kind n ≡ n)
    → slice_get (births s past) i ≡ Some d → slice_get (births s past) j ≡ Some c → i ≢ j
    → ((y : ℕ) → y ≢ 1 + j → is_part_of y d.origin ≡ false) → (pick : Birth → Place → Option A)
    → DifferTwice A (picked s past pick) (filter_map (λ (b : Birth). pick b (place_of s (e ∷ past) b)) (births s past))
    (pick d (place_of s past d)) (pick d (place_of s (e ∷ past) d)) (pick c (place_of s past c)) (pick c (place_of s (e ∷ past) c))
unfolding picked
picked-end {A} s w limit e past i j d c legal only t at_d at_c apart parent pick =
    let f : Birth → Option A = λ b. pick b (place_of s past b) in
    let g : Birth → Option A = λ b. pick b (place_of s (e ∷ past) b) in
    let mid : Birth → Option A = λ b. cond (b.number == (1 + j)) (f b) (g b) in
    let tail = legal-tail s w limit e past legal in
    let ns = births-numbered s past in
    let ei : 1 + i ≡ suc i = omega arith in
    let ej : 1 + j ≡ suc j = omega arith in
    let at_x : numbered (births s past) (1 + i) ≡ Some d = rw ei at_d in
    let at_p : numbered (births s past) (1 + j) ≡ Some c = rw ej at_c in
    let d_number : d.number ≡ 1 + i = numbered-number s past (1 + i) d at_x in
    let c_number : c.number ≡ 1 + j = numbered-number s past (1 + j) c at_p in
    let mid_d : mid d ≡ g d = ap (λ v. cond v (f d) (g d)) (ne_eqb d.number (1 + j) (λ same. apart (omega (arith, d_number, same)))) in
    let mid_c : mid c ≡ f c = ap (λ v. cond v (f c) (g c)) (eq-eqb c.number (1 + j) c_number) in
    let one : Differ A (filter_map f (births s past)) (filter_map mid (births s past)) (f d) (mid d) =
    differ-at f mid 1 (births s past) i d at_d ns
    (λ b ne. elim (cases_Bool (b.number == (1 + j))) [
      | inl y ↦ rw y refl
      | inr n ↦ rw n (ap (pick b) (sym (place-end-other s w limit e past (1
          + i) d b tail at_x only ne (parent b.number (λ same. let k = eq-eqb b.number (1 + j) same in
          cc)) t)))
    ]) in
    let two : Differ A (filter_map mid (births s past)) (filter_map g (births s past)) (mid c) (g c) =
    differ-at mid g 1 (births s past) j c at_c ns (λ b ne. ap (λ v. cond v (f b) (g b)) (ne_eqb b.number (1 + j) ne)) in
    record { between = filter_map mid (births s past); own = rw mid_d at one; parent = rw mid_c at two }

-- ---- the words that are such tables

pub filter-picked : {A B : Type 0} (p : A → Bool) (f : A → B) (xs : List A) → map f (filter p xs) ≡ filter_map (λ x. cond (p x) (Some (f x)) None) xs
filter-picked p f [] = refl
filter-picked p f (x ∷ xs) = let ih = filter-picked p f xs in elim (cases_Bool (p x)) [ inl t ↦ rw t (ap (λ ys. f x ∷ ys) ih) | inr n ↦ rw n ih ]

pub length-picked : {A : Type 0} (p : A → Bool) (xs : List A) → length (filter p xs) ≡ length (filter_map (λ x. cond (p x) (Some x) None) xs)
length-picked p [] = refl
length-picked p (x ∷ xs) = let ih = length-picked p xs in elim (cases_Bool (p x)) [ inl t ↦ rw t (ap suc ih) | inr n ↦ rw n ih ]

pub numbers-picked : (s : Plan) (past : Past) (p : Place → Bool) → numbers_at s past p ≡ picked s past (λ b q. cond (p q) (Some b.number) None)
unfolding numbers_at picked
numbers-picked s past p = filter-picked (λ (b : Birth). p (place_of s past b)) number_of (births s past)

pub count-picked : (s : Plan) (past : Past) (p : Place → Bool) → count_at s past p ≡ length (picked s past (λ b q. cond (p q) (Some b) None))
unfolding count_at picked
count-picked s past p = length-picked (λ (b : Birth). p (place_of s past b)) (births s past)

pub busy-picked : (s : Plan) (past : Past) (q : ℕ) → busy s past q ≡ length (picked s past (λ b p. cond (is_busy q b p) (Some b) None))
unfolding busy picked
busy-picked s past q = length-picked (λ (b : Birth). is_busy q b (place_of s past b)) (births s past)
