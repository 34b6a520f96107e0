-- Maps from numbers.
use Rattle.std.specs.Prelude.{ℕ, ◌≡◌, ◌==◌, List, Option, if◌then◌else◌}
use Rattle.std.specs.Map.{lookup}

-- what a map has at a number
abbrev pub value_at : {X : Type 0} → List (ℕ × X) → ℕ → Option X
value_at entries x = lookup (λ k. x == k) entries

-- the new map has w at a number, and all else as before
abbrev pub Puts : {X : Type 0} → List (ℕ × X) → List (ℕ × X) → ℕ → Option X → Type 0
Puts old new k w = (x : ℕ) → value_at new x ≡ (if k == x then w else value_at old x)
