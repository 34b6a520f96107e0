-- Counts: numbers below 2 ^ 32 as decimal texts, without sign and without needless zero.
use Rattle.std.specs.Prelude.{ℕ, ◌^◌, ◌&&◌, nat_lt, List, decimal, Option, Some, None, if◌then◌else◌}
use Rattle.std.specs.Str.{bytes_eq}
use Rattle.std.specs.Str.Parse.{digits_value}

-- the number below 2 ^ 32 whose decimal text this is
unfoldable pub count_of : List ℕ → Option ℕ
count_of bs = if nat_lt (digits_value 10 bs) (2 ^ 32) && bytes_eq (decimal (digits_value 10 bs)) bs then Some (digits_value 10 bs) else None
