-- Counts of faults: what a handed-in object's count says of an answer.
use Rattle.std.specs.Prelude.{ℕ, ◌≡◌, ◌+◌, ◌-◌, ◌^◌, ◌≤◌, min}

-- the count rose, or stands at its greatest value
abbrev pub Rose : ℕ → ℕ → Type 0
Rose before now = min (before + 1) (2 ^ 64 - 1) ≤ now

-- a count after n faults: it never falls, it rose by at least n or stands at its greatest value, and it stays where there were none
pub record Rises (n before now : ℕ) : Type 0 where
  pub never_falls : before ≤ now
  pub least : min (before + n) (2 ^ 64 - 1) ≤ now
  pub none : n ≡ 0 → now ≡ before
