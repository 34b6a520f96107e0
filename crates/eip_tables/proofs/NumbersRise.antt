-- Rising numbers: those of rows, how one of them is taken out, and where one goes in two runs of them.
use Rattle.std.proofs.Common.{◌≡◌, ◌≢◌, ℕ, zero, suc, ◌+◌, ◌<◌, ◌≤◌, ◌==◌, Bool, true, false, not, nat_lt, List, [], ◌∷◌, length, drop, Some, cond, refl, sym, ap, arith, get_or, eq-eqb}
use Rattle.std.proofs.lemmas.Bool.{ne_eqb, lt-ltb, le-ltb}
use Rattle.std.proofs.lemmas.Option.{none-some, same_Some}
use Rattle.std.specs.List.{remove}
use Rattle.eip_history.specs.Rules.{first}
use Rattle.eip_history.specs.Tables.{without}
use Rattle.eip_tables.specs.Numbers.{RiseFrom, AreRising, row_numbers, place_in}

rise-before : (m n : ℕ) (xs : List ℕ) → m ≤ n → RiseFrom n xs → RiseFrom m xs
rise-before m n [] l h = tt
rise-before m n (x ∷ xs) l h = (omega (arith, l, h.0), h.1)

numbers-rise-from : {R : Type 0} (p : R → Bool) (n : ℕ) (rs : List R) → RiseFrom n (row_numbers p n rs)
numbers-rise-from p n [] = tt
numbers-rise-from p n (r ∷ rs) =
    let rest = numbers-rise-from p (n + 1) rs in
    elim (p r) as (λ b. RiseFrom n (cond b (n ∷ row_numbers p (n + 1) rs) (row_numbers p (n + 1) rs))) [
      | true ↦ (omega arith, rest)
      | false ↦ rise-before n (n + 1) (row_numbers p (n + 1) rs) (omega arith) rest
    ]

-- the numbers of the rows that pass a test rise
pub numbers-rise : {R : Type 0} (p : R → Bool) (rs : List R) → AreRising (row_numbers p 1 rs)
numbers-rise p rs = rise-before 0 1 (row_numbers p 1 rs) (omega arith) (numbers-rise-from p 1 rs)

above-start : (n : ℕ) (xs : List ℕ) (i : ℕ) → RiseFrom n xs → i < length xs → n ≤ get_or xs i 0
above-start n [] i h l = absurd (omega (arith, l))
above-start n (x ∷ xs) zero h l = h.0
above-start n (x ∷ xs) (suc i) h l = let above = above-start (x + 1) xs i h.1 (omega (arith, l)) in omega (arith, above, h.0)

-- a later one is no less
pub rising-order : (n : ℕ) (xs : List ℕ) → RiseFrom n xs → (i j : ℕ) → i ≤ j → j < length xs → get_or xs i 0 ≤ get_or xs j 0
rising-order n [] h i j l m = absurd (omega (arith, m))
rising-order n (x ∷ xs) h zero zero l m = omega arith
rising-order n (x ∷ xs) h zero (suc j) l m = let above = above-start (x + 1) xs j h.1 (omega (arith, m)) in omega (arith, above)
rising-order n (x ∷ xs) h (suc i) zero l m = absurd (omega (arith, l))
rising-order n (x ∷ xs) h (suc i) (suc j) l m = rising-order (x + 1) xs h.1 i j (omega (arith, l)) (omega (arith, m))

-- one that isn't there is not taken out
pub without-absent : (x : ℕ) (xs : List ℕ) → ((i : ℕ) → i < length xs → get_or xs i 0 ≢ x) → without x xs ≡ xs
without-absent x [] h = refl
without-absent x (y ∷ ys) h =
    let other : (y == x) ≡ false = ne_eqb y x (h 0 (omega arith)) in
    rw other (ap (λ zs. y ∷ zs) (without-absent x ys (λ i l. h (suc i) (omega (arith, l)))))

-- those that are left rise as well
pub without-rises : (x n : ℕ) (xs : List ℕ) → RiseFrom n xs → RiseFrom n (without x xs)
without-rises x n [] h = tt
without-rises x n (y ∷ ys) h =
    let rest = without-rises x (y + 1) ys h.1 in
    elim (y == x) as (λ b. RiseFrom n (cond (not b) (y ∷ without x ys) (without x ys))) [
      | true ↦ rise-before n (y + 1) (without x ys) (omega (arith, h.0)) rest
      | false ↦ (h.0, rest)
    ]

-- one that is there stands there once
pub without-found : (n x i : ℕ) (xs : List ℕ) → RiseFrom n xs → i < length xs → get_or xs i 0 ≡ x → remove xs i ≡ without x xs
without-found n x i [] h l e = absurd (omega (arith, l))
without-found n x zero (y ∷ ys) h l e =
    let same : (y == x) ≡ true = eq-eqb y x e in
    rw same (sym (without-absent x ys (λ j m is. let above = above-start (y + 1) ys j h.1 m in omega (arith, above, is, e))))
without-found n x (suc i) (y ∷ ys) h l e =
    let above = above-start (y + 1) ys i h.1 (omega (arith, l)) in
    let other : (y == x) ≡ false = ne_eqb y x (λ is. omega (arith, is, above, e)) in
    rw other (ap (λ zs. y ∷ zs) (without-found (y + 1) x i ys h.1 (omega (arith, l)) e))

-- the least one goes where the first one is taken off
pub without-least : (x : ℕ) (xs : List ℕ) → AreRising xs → first xs ≡ Some x → drop 1 xs ≡ without x xs
without-least x [] h is = absurd (none-some x is)
without-least x (y ∷ ys) h is = without-found 0 x 0 (y ∷ ys) h (omega arith) (same_Some y x is)

-- where a number goes that is there: behind it
pub place-behind : (n x i : ℕ) (xs : List ℕ) → RiseFrom n xs → i < length xs → get_or xs i 0 ≡ x → place_in x xs ≡ i + 1
place-behind n x i [] h l e = absurd (omega (arith, l))
place-behind n x zero (y ∷ []) h l e =
    let least : nat_lt x y ≡ false = le-ltb x y (omega (arith, e)) in
    rw least refl
place-behind n x zero (y ∷ (z ∷ zs)) h l e =
    let least : nat_lt x y ≡ false = le-ltb x y (omega (arith, e)) in
    let next : nat_lt x z ≡ true = lt-ltb x z (omega (arith, e, h.1.0)) in
    rw least (rw next refl)
place-behind n x (suc i) (y ∷ ys) h l e =
    let above = above-start (y + 1) ys i h.1 (omega (arith, l)) in
    let least : nat_lt x y ≡ false = le-ltb x y (omega (arith, above, e)) in
    let rest = place-behind (y + 1) x i ys h.1 (omega (arith, l)) e in
    rw least (omega (arith, rest))

-- where a number goes that isn't there: behind the lesser ones
pub place-between : (x i : ℕ) (xs : List ℕ) → i ≤ length xs
    → ((k : ℕ) → k < i → get_or xs k 0 < x)
    → ((k : ℕ) → i ≤ k → k < length xs → x < get_or xs k 0) → place_in x xs ≡ i
place-between x i [] l below above = omega (arith, l)
place-between x zero (y ∷ ys) l below above =
    let first : nat_lt x y ≡ true = lt-ltb x y (above 0 (omega arith) (omega arith)) in
    rw first refl
place-between x (suc i) (y ∷ ys) l below above =
    let least : nat_lt x y ≡ false = le-ltb x y (omega (arith, below 0 (omega arith))) in
    let rest = place-between x i ys (omega (arith, l)) (λ k m. below (suc k) (omega (arith, m))) (λ k m o. above (suc k) (omega (arith, m)) (omega (arith, o))) in
    rw least (omega (arith, rest))
