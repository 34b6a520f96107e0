-- Whole numbers are texts.
use Rattle.std.proofs.Common.{ℕ, ◌<◌, ◌==◌, ◌≡◌, Bool, true, false, cond, List, [], ◌∷◌, arith, zero, suc, refl}
use Rattle.std.proofs.lemmas.Bool.Decides.{nat_tests}
use Rattle.std.proofs.lemmas.Fmt.{IsAscii-from_digits}
use Rattle.std.proofs.lemmas.Str.{IsUtf8-from_ascii, IsUtf8-nil}
use Rattle.std.specs.Str.{IsAscii, IsUtf8}
use Rattle.std.specs.Str.Parse.{AllDigits}
use Rattle.eip_text.specs.Numbers.{IsWhole}

minus_kept : (b : ℕ) (bs : List ℕ) → b < 128 → IsAscii bs → IsAscii (b ∷ bs)
minus_kept b bs small rest zero = small
minus_kept b bs small rest (suc i) = rest i

ascii_at : (t : Bool) (b : ℕ) (bs : List ℕ) → (b == 45) ≡ t → AllDigits 10 (cond t bs (b ∷ bs)) → IsAscii (b ∷ bs)
ascii_at true b bs minus digits = minus_kept b bs (grind (arith, nat_tests)) (IsAscii-from_digits bs digits)
ascii_at false b bs other digits = IsAscii-from_digits (b ∷ bs) digits

pub IsUtf8-whole : (bs : List ℕ) → IsWhole bs → IsUtf8 bs
IsUtf8-whole [] w = IsUtf8-nil
IsUtf8-whole (b ∷ bs) w = IsUtf8-from_ascii (b ∷ bs) (ascii_at (b == 45) b bs refl w.0.1)
