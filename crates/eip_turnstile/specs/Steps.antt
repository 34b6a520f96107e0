-- How a view changes, and what each step tells.
use Rattle.std.specs.Prelude.{◌≡◌, ◌≢◌, ℕ, ◌+◌, List, [], ◌∷◌, ◌++◌, length, true, false, cond, Option, Some, None, nat_lt}
use Rattle.atomic_table.specs.Table.{Me, Step}
use Rattle.eip_turnstile.specs.declared.view.View.{View}
use Rattle.eip_turnstile.specs.Rule.{entries_by, StartsWith, all_of}

-- the longer of two lists, and the first where they are as long
abbrev pub longer : {E : Type 0} → List (ℕ × E) → List (ℕ × E) → List (ℕ × E)
longer xs ys = cond (nat_lt (length xs) (length ys)) ys xs

module _ {E B : Type 0} where
  -- the seat has the turn, and has seen the whole list
  abbrev pub claimed : View E B → List (ℕ × E) → View E B
  claimed v log = record { number = v.number; spent = v.spent; turn = true; seen = log; mine = v.mine; base = v.base; made = v.made; olds = v.olds }

  -- the seat has seen the list with the entries of its turn
  abbrev pub counted : View E B → List (ℕ × E) → View E B
  counted v log = record { number = v.number; spent = v.spent; turn = v.turn; seen = log; mine = entries_by v.number log; base = v.base; made = v.made; olds = v.olds }

  -- the turn is over
  abbrev pub released : View E B → View E B
  released v = record { number = v.number; spent = v.spent; turn = false; seen = v.seen; mine = v.mine; base = v.base; made = v.made; olds = v.olds }

  -- the first seat, behind the making of one more
  abbrev pub split_left : View E B → View E B
  split_left v = record { number = v.number; spent = v.spent; turn = v.turn; seen = v.seen; mine = v.mine; base = v.base; made = v.made + 1; olds = v.olds }

  -- the seat that was made then
  abbrev pub split_right : View E B → View E B
  split_right v = record { number = v.made; spent = false; turn = false; seen = v.seen; mine = []; base = v.base; made = 0; olds = [] }

  -- a seat that took another one in
  abbrev pub joined : View E B → View E B → View E B
  joined v w = record { number = v.number; spent = v.spent; turn = v.turn; seen = longer v.seen w.seen; mine = v.mine; base = v.base; made = v.made; olds = all_of w ++ v.olds }

  -- the one that was taken in
  abbrev pub spent_view : View E B
  spent_view = record { number = 0; spent = true; turn = false; seen = []; mine = []; base = None; made = 0; olds = [] }

  module _ {T : Type 0} (entries : T → List (ℕ × E)) (base : T → B) where
    -- word 1 was 0: the seat has the turn and holds the slot with the value, whose list and base are as the seat knew; or nothing changed
    abbrev pub Claims : Step (Option T) → Me (Option T) (View E B) → ℕ → Me (Option T) (View E B) → Type 0
    Claims st m r n =
        (r ≡ 0 → (y : T) × (n ≡ (claimed m.0 (entries y), (0, Some y) ∷ m.1)) × (Some (base y) ≡ m.0.base) × StartsWith (entries y) m.0.seen × (entries_by m.0.number (entries y) ≡ m.0.mine))
        × (r ≢ 0 → n ≡ m)

    -- the list of a slot's value
    abbrev pub list_of : Option T → List (ℕ × E)
    list_of (Some y) = entries y
    list_of None = []

    -- the list of the value in the slot that the seat took last
    abbrev pub held_list : List (ℕ × Option T) → List (ℕ × E)
    held_list [] = []
    held_list (x ∷ xs) = list_of x.1

    -- the list of the value that the seat holds is counted
    abbrev pub Counts : Step (Option T) → Me (Option T) (View E B) → ℕ → Me (Option T) (View E B) → Type 0
    Counts st m r n = n ≡ (counted m.0 (held_list m.1), m.1)

    -- the value is at home again
    abbrev pub Releases : Step (Option T) → Me (Option T) (View E B) → ℕ → Me (Option T) (View E B) → Type 0
    Releases st m r n = n ≡ (released m.0, [])
