-- How the numbers and the counts of rows change where one row changes.
use Rattle.std.proofs.Common.{◌≡◌, ℕ, zero, suc, ◌+◌, ◌<◌, ◌≤◌, Bool, true, false, cond, List, [], ◌∷◌, ◌++◌, length, set, filter, map, Some, refl, sym, ap, ◌∙◌, arith, eq-eqb}
use Rattle.std.specs.List.{slice_get}
use Rattle.std.proofs.lemmas.List.{append-nil}
use Rattle.std.proofs.lemmas.Bool.{cases_Bool, ne_eqb, lt-ltb, ltb-true}
use Rattle.std.proofs.Common.{inl, inr, nat_lt}
use Rattle.eip_exchange.specs.declared.birth.Birth.{Birth}
use Rattle.eip_history.specs.Place.{number_of}
use Rattle.eip_history.specs.Tables.{Related, AreNumberedFrom, without, put_in, bit}
use Rattle.eip_tables.specs.Numbers.{row_numbers, row_count}

-- the rows' numbers are those of the births that they stand for
pub numbers-related : {R : Type 0} (S : Birth → R → Type 0) (q : Birth → Bool) (p : R → Bool) (n : ℕ) (bs : List Birth) (rs : List R)
    → AreNumberedFrom n bs → Related S bs rs → ((b : Birth) (r : R) → S b r → q b ≡ p r) → map number_of (filter q bs) ≡ row_numbers p n rs
numbers-related S q p n [] [] ns rel h = refl
numbers-related S q p n [] (r ∷ rs) ns rel h = absurd rel
numbers-related S q p n (b ∷ bs) [] ns rel h = absurd rel
numbers-related S q p n (b ∷ bs) (r ∷ rs) ns rel h =
    let ih = numbers-related S q p (n + 1) bs rs ns.1 rel.1 h in
    rw (h b r rel.0) (elim (p r) as (λ v. map number_of (cond v (b ∷ filter q bs) (filter q bs)) ≡ cond v (n ∷ row_numbers p (n + 1) rs) (row_numbers p (n + 1) rs)) [
      | true ↦ ap (λ m. m ∷ map number_of (filter q bs)) ns.0 ∙ ap (λ xs. n ∷ xs) ih
      | false ↦ ih
    ])

-- and so are their counts
pub count-related : {R : Type 0} (S : Birth → R → Type 0) (q : Birth → Bool) (p : R → Bool) (bs : List Birth) (rs : List R)
    → Related S bs rs → ((b : Birth) (r : R) → S b r → q b ≡ p r) → length (filter q bs) ≡ row_count p rs
count-related S q p [] [] rel h = refl
count-related S q p [] (r ∷ rs) rel h = absurd rel
count-related S q p (b ∷ bs) [] rel h = absurd rel
count-related S q p (b ∷ bs) (r ∷ rs) rel h =
    let ih = count-related S q p bs rs rel.1 h in
    rw (h b r rel.0) (elim (p r) as (λ v. length (cond v (b ∷ filter q bs) (filter q bs)) ≡ length (cond v (r ∷ filter p rs) (filter p rs))) [
      | true ↦ ap suc ih
      | false ↦ ih
    ])

-- a row behind the others
pub numbers-push : {R : Type 0} (p : R → Bool) (n : ℕ) (rs : List R) (r : R) → row_numbers p n (rs ++ r ∷ []) ≡ row_numbers p n rs ++ cond (p r) ((n + length rs) ∷ []) []
numbers-push p n [] r = let e : n + 0 ≡ n = omega arith in rw e refl
numbers-push p n (x ∷ rs) r =
    let ih = numbers-push p (n + 1) rs r in
    let e : n + suc (length rs) ≡ n + 1 + length rs = omega arith in
    rw e (elim (p x) as (λ v. cond v (n ∷ row_numbers p (n + 1) (rs ++ r ∷ [])) (row_numbers p (n + 1) (rs ++ r ∷ [])) ≡ cond v (n ∷ row_numbers p (n + 1) rs) (row_numbers p (n + 1) rs) ++ cond (p r) ((n + 1 + length rs) ∷ []) []) [
      | true ↦ ap (λ xs. n ∷ xs) ih
      | false ↦ ih
    ])

pub count-push : {R : Type 0} (p : R → Bool) (rs : List R) (r : R) → row_count p (rs ++ r ∷ []) ≡ row_count p rs + bit (p r)
count-push p [] r = elim (p r) as (λ v. length (cond v (r ∷ []) []) ≡ 0 + bit v) [ true ↦ omega arith | false ↦ omega arith ]
count-push p (x ∷ rs) r =
    let ih = count-push p rs r in
    elim (p x) as (λ v. length (cond v (x ∷ filter p (rs ++ r ∷ [])) (filter p (rs ++ r ∷ []))) ≡ length (cond v (x ∷ filter p rs) (filter p rs)) + bit (p r)) [ true ↦ omega (arith, ih) | false ↦ ih ]

-- a row that passes as the one before it did
pub numbers-stay : {R : Type 0} (p : R → Bool) (n : ℕ) (rs : List R) (i : ℕ) (old new : R) → slice_get rs i ≡ Some old → p old ≡ p new → row_numbers p n (set rs i new) ≡ row_numbers p n rs
numbers-stay p n [] i old new at same = absurd (cc at)
numbers-stay p n (x ∷ rs) zero old new at same = let e : x ≡ old = cc in rw (e, same) refl
numbers-stay p n (x ∷ rs) (suc i) old new at same = ap (λ xs. cond (p x) (n ∷ xs) xs) (numbers-stay p (n + 1) rs i old new at same)

-- no number from m on is below it
without-above : {R : Type 0} (p : R → Bool) (n m : ℕ) (rs : List R) → n < m → without n (row_numbers p m rs) ≡ row_numbers p m rs
without-above p n m [] l = refl
without-above p n m (x ∷ rs) l =
    let ih = without-above p n (m + 1) rs (omega (arith, l)) in
    elim (p x) as (λ v. without n (cond v (m ∷ row_numbers p (m + 1) rs) (row_numbers p (m + 1) rs)) ≡ cond v (m ∷ row_numbers p (m + 1) rs) (row_numbers p (m + 1) rs)) [
      | true ↦ rw (ne_eqb m n (omega (arith, l))) (ap (λ xs. m ∷ xs) ih)
      | false ↦ ih
    ]

-- a row that passes no longer leaves the numbers
pub numbers-leave : {R : Type 0} (p : R → Bool) (n : ℕ) (rs : List R) (i : ℕ) (new : R) → p new ≡ false → row_numbers p n (set rs i new) ≡ without (n + i) (row_numbers p n rs)
numbers-leave p n [] i new gone = refl
numbers-leave p n (x ∷ rs) zero new gone =
    let e : n + 0 ≡ n = omega arith in
    let rest = without-above p n (n + 1) rs (omega arith) in
    rw (gone, e) (elim (p x) as (λ v. row_numbers p (n + 1) rs ≡ without n (cond v (n ∷ row_numbers p (n + 1) rs) (row_numbers p (n + 1) rs))) [
      | true ↦ rw (eq-eqb n n refl) (sym rest)
      | false ↦ sym rest
    ])
numbers-leave p n (x ∷ rs) (suc i) new gone =
    let ih = numbers-leave p (n + 1) rs i new gone in
    let e : n + suc i ≡ n + 1 + i = omega arith in
    rw e (elim (p x) as (λ v. cond v (n ∷ row_numbers p (n + 1) (set rs i new)) (row_numbers p (n + 1) (set rs i new)) ≡ without (n + 1 + i) (cond v (n ∷ row_numbers p (n + 1) rs) (row_numbers p (n + 1) rs))) [
      | true ↦ rw (ne_eqb n (n + 1 + i) (omega arith)) (ap (λ xs. n ∷ xs) ih)
      | false ↦ ih
    ])

put-front : {R : Type 0} (p : R → Bool) (n m : ℕ) (rs : List R) → n < m → put_in n (row_numbers p m rs) ≡ n ∷ row_numbers p m rs
put-front p n m [] l = refl
put-front p n m (x ∷ rs) l =
    let ih = put-front p n (m + 1) rs (omega (arith, l)) in
    elim (p x) as (λ v. put_in n (cond v (m ∷ row_numbers p (m + 1) rs) (row_numbers p (m + 1) rs)) ≡ n ∷ cond v (m ∷ row_numbers p (m + 1) rs) (row_numbers p (m + 1) rs)) [
      | true ↦ rw (lt-ltb n m l) refl
      | false ↦ ih
    ]

not-below : (x y : ℕ) → y ≤ x → nat_lt x y ≡ false
not-below x y l = elim (cases_Bool (nat_lt x y)) [ inl t ↦ absurd (let h = ltb-true x y t in omega arith) | inr f ↦ f ]

-- a row that passes now, and did not before, joins the numbers in its place
pub numbers-join : {R : Type 0} (p : R → Bool) (n : ℕ) (rs : List R) (i : ℕ) (old new : R) → slice_get rs i ≡ Some old → p old ≡ false → p new ≡ true → row_numbers p n (set rs i new) ≡ put_in (n + i) (row_numbers p n rs)
numbers-join p n [] i old new at was now = absurd (cc at)
numbers-join p n (x ∷ rs) zero old new at was now =
    let same : x ≡ old = cc in
    let e : n + 0 ≡ n = omega arith in
    rw (same, was, now, e) (sym (put-front p n (n + 1) rs (omega arith)))
numbers-join p n (x ∷ rs) (suc i) old new at was now =
    let ih = numbers-join p (n + 1) rs i old new at was now in
    let e : n + suc i ≡ n + 1 + i = omega arith in
    let above : nat_lt (n + 1 + i) n ≡ false = not-below (n + 1 + i) n (omega arith) in
    rw e (elim (p x) as (λ v. cond v (n ∷ row_numbers p (n + 1) (set rs i new)) (row_numbers p (n + 1) (set rs i new)) ≡ put_in (n + 1 + i) (cond v (n ∷ row_numbers p (n + 1) rs) (row_numbers p (n + 1) rs))) [
      | true ↦ rw above (ap (λ xs. n ∷ xs) ih)
      | false ↦ ih
    ])

-- how a count changes with one row
pub count-set : {R : Type 0} (p : R → Bool) (rs : List R) (i : ℕ) (old new : R) → slice_get rs i ≡ Some old → row_count p (set rs i new) + bit (p old) ≡ row_count p rs + bit (p new)
count-set p [] i old new at = absurd (cc at)
count-set p (x ∷ rs) zero old new at =
    let same : x ≡ old = cc in
    rw (← same) (elim (p x) as (λ v. length (cond (p new) (new ∷ filter p rs) (filter p rs)) + bit v ≡ length (cond v (x ∷ filter p rs) (filter p rs)) + bit (p new)) [
      | true ↦ elim (p new) as (λ u. length (cond u (new ∷ filter p rs) (filter p rs)) + 1 ≡ length (x ∷ filter p rs) + bit u) [ true ↦ omega arith | false ↦ omega arith ]
      | false ↦ elim (p new) as (λ u. length (cond u (new ∷ filter p rs) (filter p rs)) + 0 ≡ length (filter p rs) + bit u) [ true ↦ omega arith | false ↦ omega arith ]
    ])
count-set p (x ∷ rs) (suc i) old new at =
    let ih = count-set p rs i old new at in
    elim (p x) as (λ v. length (cond v (x ∷ filter p (set rs i new)) (filter p (set rs i new))) + bit (p old) ≡ length (cond v (x ∷ filter p rs) (filter p rs)) + bit (p new)) [ true ↦ omega (arith, ih) | false ↦ ih ]

-- a row that doesn't pass comes behind the others
pub push-none : {R : Type 0} (p : R → Bool) (rs : List R) (new : R) → p new ≡ false → row_numbers p 1 (rs ++ new ∷ []) ≡ row_numbers p 1 rs
push-none p rs new gone = numbers-push p 1 rs new ∙ rw gone (append-nil (row_numbers p 1 rs))
