-- Where a text may be cut.
use Rattle.std.proofs.Common.{◌≡◌, ℕ, ◌≤◌, List, length, take, sym, ap, subst, arith}
use Rattle.std.specs.Str.{IsUtf8}
use Rattle.std.specs.String.Boundary.{IsSplitPoint}
use Rattle.std.proofs.lemmas.Str.{IsCharBoundary-from_take}

-- bytes whose first n are a text may be cut there
pub split_start : (bytes text : List ℕ) (n : ℕ) → bytes ≡ text → IsUtf8 bytes → n ≤ length text → IsUtf8 (take n text) → IsSplitPoint bytes n
split_start bytes text n same utf8 le start =
    let long : length bytes ≡ length text = ap length same in
    let place = IsCharBoundary-from_take bytes n utf8 (omega arith) (subst (λ (xs : List ℕ). IsUtf8 (take n xs)) (sym same) start) in
    (place.0, λ _. place.1)
