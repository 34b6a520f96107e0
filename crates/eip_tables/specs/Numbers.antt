-- Tables by number: what stands in the rows that pass a test.
use Rattle.std.specs.Prelude.{ℕ, zero, suc, ◌+◌, ◌<◌, ◌≤◌, Bool, cond, nat_lt, List, [], ◌∷◌, length, filter, ⊤}

-- the numbers of the rows that pass a test, where the first row has this number
abbrev pub row_numbers : {R : Type 0} → (R → Bool) → ℕ → List R → List ℕ
row_numbers p n [] = []
row_numbers p n (r ∷ rs) = cond (p r) (n ∷ row_numbers p (n + 1) rs) (row_numbers p (n + 1) rs)

-- how many rows pass a test
abbrev pub row_count : {R : Type 0} → (R → Bool) → List R → ℕ
row_count p rs = length (filter p rs)

-- a table by number with the room that it has left
pub record TableView (T : Type 0) : Type 0 where
  pub items : List T
  pub spare : ℕ

-- numbers in rising order with the room that they have left
pub record NumbersView : Type 0 where
  pub numbers : List ℕ
  pub spare : ℕ

-- how many numbers stand before the first greater one
abbrev pub place_in : ℕ → List ℕ → ℕ
place_in x [] = 0
place_in x (y ∷ ys) = cond (nat_lt x y) 0 (place_in x ys + 1)

-- how many numbers there is room for, those that are there among them
abbrev pub capacity : NumbersView → ℕ
capacity v = length v.numbers + v.spare

-- the numbers rise strictly, and none is below the first one named
abbrev pub RiseFrom : ℕ → List ℕ → Type 0
RiseFrom n [] = ⊤
RiseFrom n (x ∷ xs) = (n ≤ x) × RiseFrom (x + 1) xs

-- each number is less than those behind it
abbrev pub AreRising : List ℕ → Type 0
AreRising xs = RiseFrom 0 xs

-- so many numbers, from one on
abbrev pub numbers_from : (first count : ℕ) → List ℕ
numbers_from first zero = []
numbers_from first (suc count) = first ∷ numbers_from (first + 1) count

-- a number that has a row
abbrev pub IsNumberOf : {R : Type 0} → List R → ℕ → Type 0
IsNumberOf rows x = (0 < x) × (x ≤ length rows)
