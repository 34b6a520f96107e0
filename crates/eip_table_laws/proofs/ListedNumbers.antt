-- The numbers of the rows that pass a test: who is among them, the least of them, and those that pass another test.
use Rattle.std.proofs.Common.{◌≡◌, ℕ, zero, suc, ◌+◌, ◌-◌, ◌<◌, ◌≤◌, Bool, true, false, ◌==◌, ◌&&◌, cond, List, [], ◌∷◌, length, set, filter, Option, Some, None, refl, sym, ap, ◌∙◌, arith, eq-eqb, get_or}
use Rattle.std.specs.List.{slice_get, All}
use Rattle.std.specs.Prelude.{IfSome, IfNone}
use Rattle.std.proofs.lemmas.Bool.{ne_eqb, eqb-true}
use Rattle.std.proofs.lemmas.List.{set-set}
use Rattle.eip_history.specs.Rules.{first}
use Rattle.eip_history.specs.Tables.{without, put_in}
use Rattle.eip_tables.specs.Numbers.{row_numbers, IsNumberOf}
use Rattle.eip_tables.specs.Outside.{is_among, with_number, outside_looked}
use Rattle.eip_table_laws.proofs.RowNumbers.{numbers-stay, numbers-leave, numbers-join}
use Rattle.eip_table_laws.proofs.SourceEvents.{get-set-same}

-- nobody below the first number is among them
pub among-below : {R : Type 0} (q : R → Bool) (y m : ℕ) (rs : List R) → y < m → is_among y (row_numbers q m rs) ≡ false
among-below q y m [] l = refl
among-below q y m (r ∷ rs) l =
    let ih = among-below q y (m + 1) rs (omega (arith, l)) in
    elim (q r) as (λ v. is_among y (cond v (m ∷ row_numbers q (m + 1) rs) (row_numbers q (m + 1) rs)) ≡ false) [
      | true ↦ rw (ne_eqb m y (omega (arith, l))) ih
      | false ↦ ih
    ]

-- a number is among them where its row passes
pub among-numbers : {R : Type 0} (q : R → Bool) (n : ℕ) (rs : List R) (i : ℕ) (r : R) → slice_get rs i ≡ Some r → is_among (n + i) (row_numbers q n rs) ≡ q r
among-numbers q n [] i r at = absurd (cc at)
among-numbers q n (x ∷ rs) zero r at =
    let same : x ≡ r = cc in
    let e : n + 0 ≡ n = omega arith in
    let rest = among-below q n (n + 1) rs (omega arith) in
    rw (e, sym same) (elim (q x) as (λ v. is_among n (cond v (n ∷ row_numbers q (n + 1) rs) (row_numbers q (n + 1) rs)) ≡ v) [
      | true ↦ rw (eq-eqb n n refl) refl
      | false ↦ rest
    ])
among-numbers q n (x ∷ rs) (suc i) r at =
    let ih = among-numbers q (n + 1) rs i r at in
    let e : n + suc i ≡ n + 1 + i = omega arith in
    rw e (elim (q x) as (λ v. is_among (n + 1 + i) (cond v (n ∷ row_numbers q (n + 1) rs) (row_numbers q (n + 1) rs)) ≡ q r) [
      | true ↦ rw (ne_eqb n (n + 1 + i) (omega arith)) ih
      | false ↦ ih
    ])

-- who is among them has a row that passes
pub record AmongRows {R : Type 0} (q : R → Bool) (n : ℕ) (rs : List R) (x : ℕ) : Type 0 where
  pub index : ℕ
  pub row : R
  pub at : slice_get rs index ≡ Some row
  pub is : x ≡ n + index
  pub passes : q row ≡ true

among-later : {R : Type 0} (q : R → Bool) (n x : ℕ) (y : R) (rs : List R) → AmongRows q (n + 1) rs x → AmongRows q n (y ∷ rs) x
among-later q n x y rs a = record { index = suc a.index; row = a.row; at = a.at; is = (let h = a.is in omega (arith, h)); passes = a.passes }

pub among-row : {R : Type 0} (q : R → Bool) (n : ℕ) (rs : List R) (x : ℕ) → is_among x (row_numbers q n rs) ≡ true → AmongRows q n rs x
among-row q n [] x h = absurd (cc h)
among-row {R} q n (y ∷ rs) x h = by (λ g. among-later q n x y rs (among-row q (n + 1) rs x g)) (q y) refl (n == x) refl h
  where
    by : (is_among x (row_numbers q (n + 1) rs) ≡ true → AmongRows q n (y ∷ rs) x) → (v : Bool) → q y ≡ v → (u : Bool) → (n == x) ≡ u
        → is_among x (cond v (n ∷ row_numbers q (n + 1) rs) (row_numbers q (n + 1) rs)) ≡ true → AmongRows q n (y ∷ rs) x
    by ih false e u d g = ih g
    by ih true e true d g = record { index = 0; row = y; at = refl; is = (let s = eqb-true n x d in omega (arith, s)); passes = e }
    by ih true e false d g = ih (rw d at g)

-- the first of them is the least
pub first-among : (xs : List ℕ) (x : ℕ) → first xs ≡ Some x → is_among x xs ≡ true
first-among [] x h = absurd (cc h)
first-among (y ∷ ys) x h = let same : y ≡ x = cc in rw (eq-eqb y x same) refl

pub first-none : (xs : List ℕ) → first xs ≡ None → xs ≡ []
first-none [] h = refl
first-none (y ∷ ys) h = absurd (cc h)

pub first-least : {R : Type 0} (q : R → Bool) (n : ℕ) (rs : List R) (x y : ℕ) → first (row_numbers q n rs) ≡ Some x → y < x → is_among y (row_numbers q n rs) ≡ false
first-least q n [] x y h l = refl
first-least {R} q n (r ∷ rs) x y h l = by (λ g. first-least q (n + 1) rs x y g l) (q r) h
  where
    by : (first (row_numbers q (n + 1) rs) ≡ Some x → is_among y (row_numbers q (n + 1) rs) ≡ false) → (v : Bool) → first (cond v (n ∷ row_numbers q (n + 1) rs) (row_numbers q (n + 1) rs)) ≡ Some x
        → is_among y (cond v (n ∷ row_numbers q (n + 1) rs) (row_numbers q (n + 1) rs)) ≡ false
    by ih true g = let same : n ≡ x = cc in rw (ne_eqb n y (omega (arith, l, same))) (among-below q y (n + 1) rs (omega (arith, l, same)))
    by ih false g = ih g

-- each of them has a row
abbrev IsWithin : List ℕ → ℕ → ℕ → Type 0
IsWithin xs n m = (k d : ℕ) → k < length xs → (n ≤ get_or xs k d) × (get_or xs k d < n + m)

within-more : (n m : ℕ) (xs : List ℕ) → IsWithin xs (n + 1) m → (v : Bool) → IsWithin (cond v (n ∷ xs) xs) n (suc m)
within-more n m xs ih true zero d l = (omega arith, omega arith)
within-more n m xs ih true (suc k) d l = let h = ih k d (omega (arith, l)) in (omega (arith, h.0), omega (arith, h.1))
within-more n m xs ih false k d l = let h = ih k d l in (omega (arith, h.0), omega (arith, h.1))

within-by : {R : Type 0} (p : R → Bool) (n : ℕ) (rs : List R) → IsWithin (row_numbers p n rs) n (length rs)
within-by p n [] k d l = absurd (omega (arith, l))
within-by p n (r ∷ rs) k d l = within-more n (length rs) (row_numbers p (n + 1) rs) (within-by p (n + 1) rs) (p r) k d l

pub numbers-within : {R : Type 0} (p : R → Bool) (rs : List R) → All (IsNumberOf rs) (row_numbers p 1 rs)
numbers-within p rs = λ k d l. let h = within-by p 1 rs k d l in (omega (arith, h.0), omega (arith, h.1))

-- those of them that pass a test on numbers that tells of their rows
pub numbers-filter : {R : Type 0} (p q : R → Bool) (g : ℕ → Bool) (n : ℕ) (rs : List R) → ((i : ℕ) (r : R) → slice_get rs i ≡ Some r → g (n + i) ≡ q r) → filter g (row_numbers p n rs) ≡ row_numbers (λ r. p r && q r) n rs
numbers-filter p q g n [] h = refl
numbers-filter p q g n (x ∷ rs) h =
    let ih = numbers-filter p q g (n + 1) rs (λ i r at. let e : n + suc i ≡ n + 1 + i = omega arith in rw e at (h (suc i) r at)) in
    let z : n + 0 ≡ n = omega arith in
    let here : g n ≡ q x = rw z at (h 0 x refl) in
    elim (p x) as (λ v. filter g (cond v (n ∷ row_numbers p (n + 1) rs) (row_numbers p (n + 1) rs)) ≡ cond (v && q x) (n ∷ row_numbers (λ r. p r && q r) (n + 1) rs) (row_numbers (λ r. p r && q r) (n + 1) rs)) [
      | true ↦ rw here (elim (q x) as (λ u. cond u (n ∷ filter g (row_numbers p (n + 1) rs)) (filter g (row_numbers p (n + 1) rs)) ≡ cond u (n ∷ row_numbers (λ r. p r && q r) (n + 1) rs) (row_numbers (λ r. p r && q r) (n + 1) rs)) [
        | true ↦ ap (λ xs. n ∷ xs) ih
        | false ↦ ih
      ])
      | false ↦ ih
    ]

-- two tests that agree on the rows
pub numbers-same : {R : Type 0} (p q : R → Bool) (n : ℕ) (rs : List R) → ((i : ℕ) (r : R) → slice_get rs i ≡ Some r → p r ≡ q r) → row_numbers p n rs ≡ row_numbers q n rs
numbers-same p q n [] h = refl
numbers-same p q n (x ∷ rs) h = rw (h 0 x refl) (ap (λ xs. cond (q x) (n ∷ xs) xs) (numbers-same p q (n + 1) rs (λ i r at. h (suc i) r at)))

-- a row that passes now joins the numbers, whether it passed before or not
pub numbers-with : {R : Type 0} (p : R → Bool) (n : ℕ) (rs : List R) (i : ℕ) (gone new : R) → i < length rs → p gone ≡ false → p new ≡ true → row_numbers p n (set rs i new) ≡ with_number (n + i) (row_numbers p n rs)
numbers-with p n rs i gone new l was now =
    ap (row_numbers p n) (sym (set-set rs i gone new))
    ∙ (numbers-join p n (set rs i gone) i gone new (get-set-same rs i gone l) was now
    ∙ ap (put_in (n + i)) (numbers-leave p n rs i gone was))

-- a row that was looked at joins the numbers where it passes
pub numbers-looked : {R : Type 0} (p : R → Bool) (n : ℕ) (rs : List R) (i : ℕ) (gone old new : R) (v : Bool) → slice_get rs i ≡ Some old → i < length rs → p gone ≡ false → p new ≡ v → (v ≡ false → p old ≡ false)
    → row_numbers p n (set rs i new) ≡ outside_looked v (n + i) (row_numbers p n rs)
numbers-looked p n rs i gone old new true at l none now was = numbers-with p n rs i gone new l none now
numbers-looked p n rs i gone old new false at l none now was = numbers-stay p n rs i old new at (was refl ∙ sym now)

pub set-there : {A : Type 0} (xs : List A) (i : ℕ) (x : A) → slice_get xs i ≡ Some x → set xs i x ≡ xs
set-there [] i x h = absurd (cc h)
set-there (y ∷ xs) zero x h = let same : y ≡ x = cc in ap (λ z. z ∷ xs) (sym same)
set-there (y ∷ xs) (suc i) x h = ap (λ ys. y ∷ ys) (set-there xs i x h)

-- what holds of the first of a list, where there is one
pub if-first : (o : Option ℕ) (xs : List ℕ) (P : ℕ → Type 0) → o ≡ first xs → ((x : ℕ) → first xs ≡ Some x → P x) → IfSome o P
if-first (Some x) xs P e f = f x (sym e)
if-first None xs P e f = tt

pub if-no-first : (o : Option ℕ) (xs : List ℕ) → o ≡ first xs → IfNone o (xs ≡ [])
if-no-first (Some x) xs e = tt
if-no-first None xs e = first-none xs (sym e)

-- the row of a number passes no longer
pub leave-at : {R : Type 0} (p : R → Bool) (rs : List R) (x : ℕ) (new : R) → 0 < x → p new ≡ false → row_numbers p 1 (set rs (x - 1) new) ≡ without x (row_numbers p 1 rs)
leave-at p rs x new l gone = let e : 1 + (x - 1) ≡ x = omega (arith, l) in rw e at (numbers-leave p 1 rs (x - 1) new gone)
