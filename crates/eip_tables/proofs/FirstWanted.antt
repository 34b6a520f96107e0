-- The first of a list, from an index on, that passes a test.
use Rattle.std.proofs.Common.{◌≡◌, ℕ, suc, ◌+◌, ◌<◌, Bool, true, false, List, length, drop, filter, Some, refl, arith, get_or, drop-cons}
use Rattle.eip_history.specs.Rules.{first}

-- the first of a list from an index on that passes
pub first-here : (p : ℕ → Bool) (xs : List ℕ) (i : ℕ) (d : ℕ) → i < length xs → p (get_or xs i d) ≡ true → first (filter p (drop i xs)) ≡ Some (get_or xs i d)
first-here p xs i d l h = rw (drop-cons xs i d, h) refl

pub first-later : (p : ℕ → Bool) (xs : List ℕ) (i : ℕ) (d : ℕ) → i < length xs → p (get_or xs i d) ≡ false → first (filter p (drop i xs)) ≡ first (filter p (drop (i + 1) xs))
first-later p xs i d l h = let e : i + 1 ≡ suc i = omega arith in rw (e, drop-cons xs i d, h) refl
