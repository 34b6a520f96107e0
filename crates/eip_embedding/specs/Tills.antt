-- The amounts that a till takes, and their sum.
use Rattle.std.specs.Prelude.{ℕ, ℤ, ◌+ℤ◌, List, FitsSigned}
use Rattle.std.specs.Int.{w64}
use Rattle.std.specs.Str.Parse.{signed_digits_value}
use Rattle.eip_text.specs.Numbers.{IsWhole}

-- the sum with the number that a body says
abbrev pub sum_with : ℤ → List ℕ → ℤ
sum_with sum body = sum +ℤ signed_digits_value 10 body

-- the body is a whole number, and the sum with it one of 64 bits
abbrev pub IsAmount : ℤ → List ℕ → Type 0
IsAmount sum body = IsWhole body × FitsSigned w64 (sum_with sum body)
