-- Whole numbers as decimal texts.
use Rattle.std.specs.Prelude.{ℕ, ◌^◌, ℤ, pos, negsuc, Bool, ◌&&◌, nat_lt, List, length, drop, Option, Some, None, if◌then◌else◌, FitsSigned}
use Rattle.std.specs.Int.{w64}
use Rattle.std.specs.List.{list_all}
use Rattle.std.specs.Str.Parse.{IsNumeral, starts_with_minus, signed_digits_value}
use Rattle.eip_text.specs.Cuts.{is_digit}

-- an optional `-` and one or more digits, whose value fits 64 bits
abbrev pub IsWhole : List ℕ → Type 0
IsWhole bs = IsNumeral 10 (if starts_with_minus bs then drop 1 bs else bs) × FitsSigned w64 (signed_digits_value 10 bs)

-- ---- the same as a test

-- one or more decimal digits
abbrev pub is_numeral : List ℕ → Bool
is_numeral ds = nat_lt 0 (length ds) && list_all is_digit ds

-- a number of 64 bits with a sign
abbrev pub is_small : ℤ → Bool
is_small (pos n) = nat_lt n (2 ^ 63)
is_small (negsuc n) = nat_lt n (2 ^ 63)

-- an optional `-` and one or more digits, whose value is a number of 64 bits
abbrev pub is_whole : List ℕ → Bool
is_whole bs = is_numeral (if starts_with_minus bs then drop 1 bs else bs) && is_small (signed_digits_value 10 bs)

-- the whole number that a text spells
unfoldable pub whole_of : List ℕ → Option ℤ
whole_of bs = if is_whole bs then Some (signed_digits_value 10 bs) else None
