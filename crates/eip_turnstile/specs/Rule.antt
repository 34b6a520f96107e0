-- The rule of a turnstile's table: there is one list of entries, and each seat knows a part of it.
-- Word 0 is the length of the list. Word 1 is 0, or one more than the number of the seat that has the turn. While word 1 is 0, the value
-- lies in slot 0, and the list is the value's. While a seat has the turn, the list is the one with which the value went out, and behind
-- the count the one with which it comes back.
use Rattle.std.specs.Prelude.{◌≡◌, ℕ, zero, suc, ◌+◌, ◌<◌, ◌≤◌, List, [], ◌∷◌, ◌++◌, length, slice_index, Bool, true, false, cond, ◌==◌, ◌&&◌, Option, Some, None}
use mathlib.Core.Option.{some}
use lib.ListN.{get_elem?}
use Rattle.atomic_table.specs.Table.{State}
use Rattle.eip_turnstile.specs.declared.view.View.{View}

module _ {E : Type 0} where
  -- what the entries of one number tell, in their order
  abbrev pub entries_by : ℕ → List (ℕ × E) → List E
  entries_by n [] = []
  entries_by n (x ∷ xs) = cond (x.0 == n) (x.1 ∷ entries_by n xs) (entries_by n xs)

  -- the list is this one and more
  abbrev pub StartsWith : List (ℕ × E) → List (ℕ × E) → Type 0
  StartsWith log seen = (rest : List (ℕ × E)) × (log ≡ seen ++ rest)

  -- all entries are of this number
  abbrev pub AllBy : ℕ → List (ℕ × E) → Type 0
  AllBy n [] = Unit {0}
  AllBy n (x ∷ xs) = (x.0 ≡ n) × AllBy n xs

  -- all entries are of numbers below this one
  abbrev pub AllBelow : ℕ → List (ℕ × E) → Type 0
  AllBelow n [] = Unit {0}
  AllBelow n (x ∷ xs) = (x.0 < n) × AllBelow n xs

  -- of each of these numbers the list has the entries that stand beside it, and no others
  abbrev pub Told : List (ℕ × E) → List (ℕ × List E) → Type 0
  Told log [] = Unit {0}
  Told log (x ∷ xs) = (entries_by x.0 log ≡ x.1) × Told log xs

-- how often the number stands there
abbrev pub times : {A : Type 0} → ℕ → List (ℕ × A) → ℕ
times n [] = 0
times n (x ∷ xs) = cond (x.0 == n) 1 0 + times n xs

-- the slot's value was taken out
abbrev pub is_empty : {T : Type 0} → Option T → Bool
is_empty None = true
is_empty (Some x) = false

-- the seat holds slot 0, which is empty, and no other
abbrev pub is_lent : {T : Type 0} → List (ℕ × Option T) → Bool
is_lent [] = false
is_lent (x ∷ []) = (x.0 == 0) && is_empty x.1
is_lent (x ∷ y ∷ xs) = false

-- the sum over a list
abbrev pub total : {A : Type 0} → (A → ℕ) → List A → ℕ
total f [] = 0
total f (x ∷ xs) = f x + total f xs

-- how many seats have the turn, by word 1
abbrev pub busy : ℕ → ℕ
busy zero = 0
busy (suc n) = 1

-- 1 for true, 0 for false
abbrev pub one_if : Bool → ℕ
one_if true = 1
one_if false = 0

module _ {E B : Type 0} where
  -- the numbers whose entries a seat knows, its own first
  abbrev pub all_of : View E B → List (ℕ × List E)
  all_of v = (v.number, v.mine) ∷ v.olds

  -- the same, and nothing where another seat has taken it in
  abbrev pub known : View E B → List (ℕ × List E)
  known v = cond v.spent [] (all_of v)

  -- how often the seat knows of this number
  abbrev pub knows_of : ℕ → View E B → ℕ
  knows_of n v = times n (known v)

  -- how many numbers the seat knows of
  abbrev pub known_count : View E B → ℕ
  known_count v = length (known v)

  -- 1 for a seat that has the turn
  abbrev pub has_turn : View E B → ℕ
  has_turn v = one_if v.turn

  -- a seat that isn't spent: what it has seen is how the list begins, it knows its numbers' entries and the base; where it has the turn,
  -- word 1 names it, and it has seen the whole list
  pub record Sits (log : List (ℕ × E)) (made : ℕ) (start : B) (word : ℕ) (v : View E B) : Type 0 where
    pub begins : StartsWith log v.seen
    pub own : Told log (known v)
    pub based : v.base ≡ Some start
    pub first : v.number ≡ 0 → v.made ≡ made
    pub turned : v.turn ≡ true → (word ≡ v.number + 1) × (v.seen ≡ log)

  -- a seat that is spent has no turn, and any other is as above
  abbrev pub Fits : List (ℕ × E) → ℕ → B → ℕ → View E B → Type 0
  Fits log made start word v = (v.spent ≡ true → v.turn ≡ false) × (v.spent ≡ false → Sits log made start word v)

  -- each number below `made` is known of by one seat, and once; no other number is
  abbrev pub Once : ℕ → List (View E B) → Type 0
  Once made views = (n : ℕ) → (n < made → total (knows_of n) views ≡ 1) × (made ≤ n → total (knows_of n) views ≡ 0)

  -- the rule, of a value of type T with these entries and this base
  pub record Kept {T : Type 0} (entries : T → List (ℕ × E)) (base : T → B) (start : B) (s : State (Option T) (View E B)) : Type 0 where
    pub log : List (ℕ × E)
    pub made : ℕ
    pub wide : length s.words ≡ 2
    pub counted : slice_index s.words 0 ≡ length log
    pub home : slice_index s.words 1 ≡ 0 → (y : T) × (get_elem? s.homes 0 ≡ some (some (Some y))) × (entries y ≡ log) × (base y ≡ start)
    pub each : (j : ℕ) (v : View E B) → get_elem? s.views j ≡ some v → Fits log made start (slice_index s.words 1) v
    pub once : Once made s.views
    pub whole : total known_count s.views ≡ made
    pub turns : total has_turn s.views ≡ busy (slice_index s.words 1)
    pub below : AllBelow made log

  -- the view of the seat that `new` gives
  abbrev pub first_view : B → View E B
  first_view start = record { number = 0; spent = false; turn = false; seen = []; mine = []; base = Some start; made = 1; olds = [] }
