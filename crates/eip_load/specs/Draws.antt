-- The numbers that a load test draws.
use Rattle.std.specs.Prelude.{ℕ, zero, suc, ◌+◌, ◌*◌, ◌%◌, ◌^◌}

-- the number behind x, by the linear congruential generator that the C standard gives as an example of `rand`, in 31 bits
abbrev pub next_number : ℕ → ℕ
next_number x = (1103515245 * x + 12345) % 2 ^ 31

-- the k-th number; the one before the first is 0
abbrev pub drawn : ℕ → ℕ
drawn zero = 0
drawn (suc k) = next_number (drawn k)
