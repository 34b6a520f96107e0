-- Who is ready behind births and ends: how many are born, and that the parent that is ready again has a row.
use Rattle.std.proofs.Common.{◌≡◌, ℕ, zero, suc, ◌+◌, ◌<◌, ◌≤◌, List, length, set as put_at, Option, Some, None, refl, ap, arith}
use Rattle.std.specs.Prelude.{IfSome}
use Rattle.std.proofs.Math.ListN.{length-set}
use Rattle.eip_tables.specs.Numbers.{IsNumberOf, numbers_from}
use Rattle.eip_tables.specs.Row.{Row}

pub from-many : (first count : ℕ) → length (numbers_from first count) ≡ count
from-many first zero = refl
from-many first (suc count) = ap suc (from-many (first + 1) count)

-- also behind a change of another row
pub if-woken : (woken : Option ℕ) (rows : List Row) (i : ℕ) (new : Row) → ((y : ℕ) → woken ≡ Some y → (0 < y) × (y ≤ length rows)) → IfSome woken (λ y. IsNumberOf (put_at rows i new) y)
if-woken None rows i new h = tt
if-woken (Some y) rows i new h =
    let w = h y refl in
    let many : length (put_at rows i new) ≡ length rows = length-set rows i new in
    (w.0, omega (arith, w.1, many))
