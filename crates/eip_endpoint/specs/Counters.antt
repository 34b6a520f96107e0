-- The calls of a memory form: how many were made, which fail, and how many failed.
use Rattle.std.specs.Prelude.{ℕ, ◌+◌, ◌-◌, ◌^◌, ◌==◌, min, Bool, cond, List}
use Rattle.std.specs.List.{list_any}

-- the numbers of the calls that fail, the number of the last call, from 1, and how many failed
pub record Counter : Type 0 where
  pub failing : List ℕ
  pub number : ℕ
  pub faults : ℕ

-- one more, or the greatest value that a count can have
abbrev pub risen : ℕ → ℕ
risen n = min (n + 1) (2 ^ 64 - 1)

-- does the next call fail
abbrev pub fails_next : Counter → Bool
fails_next c = list_any (λ k. k == risen c.number) c.failing

-- the counter behind the next call, by whether it fails
abbrev pub counted_as : Bool → Counter → Counter
counted_as fails c = record { failing = c.failing; number = risen c.number; faults = cond fails (risen c.faults) c.faults }

-- the counter behind the next call
abbrev pub counted : Counter → Counter
counted c = counted_as (fails_next c) c

-- a counter before the first call
abbrev pub fresh : List ℕ → Counter
fresh failing = record { failing = failing; number = 0; faults = 0 }
