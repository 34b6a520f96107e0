-- The order of two texts: as numbers where both are whole numbers, else by their bytes.
use Rattle.std.specs.Prelude.{ℕ, ℤ, List, Option, Some, None}
use Rattle.std.specs.declared.cmp.Ordering.{Ordering}
use Rattle.std.specs.Ordering.{nat_cmp, int_cmp}
use Rattle.std.specs.Cmp.Lexicographic.{slice_cmp}
use Rattle.eip_text.specs.Numbers.{whole_of}

-- the numbers' order where there are both, else the other one
abbrev pub numbers_or : Option ℤ → Option ℤ → Ordering → Ordering
numbers_or (Some m) (Some n) other = int_cmp m n
numbers_or (Some m) None other = other
numbers_or None n other = other

unfoldable pub order : List ℕ → List ℕ → Ordering
order a b = numbers_or (whole_of a) (whole_of b) (slice_cmp nat_cmp a b)
