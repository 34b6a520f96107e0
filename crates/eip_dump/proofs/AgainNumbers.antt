-- A printed number is read again, where no digit follows it.
use Rattle.std.proofs.Common.{◌≡◌, ℕ, ◌+◌, ◌-◌, ◌*◌, ◌^◌, ◌<◌, ◌≤◌, Bool, true, false, not, List, [], ◌∷◌, ◌++◌, Some, refl, sym, ap, ◌∙◌, arith}
use Rattle.std.specs.Prelude.{decimal}
use Rattle.std.specs.Char.{digit_value}
use Rattle.std.specs.Str.Parse.{AllDigits, digits_value_after}
use Rattle.std.proofs.lemmas.Bool.{lt-ltb}
use Rattle.std.proofs.lemmas.Bool.Decides.{nat_tests}
use Rattle.std.proofs.lemmas.Fmt.{decimal_is_IsNumeral}
use Rattle.eip_text.specs.Cuts.{is_digit}
use Rattle.eip_dump.specs.Lines.{number}
use Rattle.eip_dump.specs.Reading.{digits_behind, number_at, small, small_at}

-- a text in front of which no digit stands
abbrev pub is_done : List ℕ → Bool
is_done [] = true
is_done (b ∷ bs) = not (is_digit b)

not_so : (t : Bool) → not t ≡ true → t ≡ false
not_so true h = absurd cc
not_so false h = refl

done_digits : (v : ℕ) (rest : List ℕ) → is_done rest ≡ true → digits_behind v rest ≡ Some (v, rest)
unfolding digits_behind
done_digits v [] h = refl
done_digits v (b ∷ bs) h = rw (not_so (is_digit b) h) refl

digit_is : (d : ℕ) → digit_value d < 10 → (is_digit d ≡ true) × (digit_value d ≡ d - 48)
digit_is d h = (grind (arith, nat_tests, h), grind (arith, nat_tests, h))

-- more digits make no smaller number
not_below : (v : ℕ) (ds : List ℕ) → v ≤ digits_value_after 10 v ds
not_below v [] = omega arith
not_below v (d ∷ ds) = let h = not_below (v * 10 + digit_value d) ds in omega (arith, h)

one_again : (v d n : ℕ) (bs : List ℕ) → is_digit d ≡ true → v * 10 + (d - 48) ≡ n → n < 2 ^ 64 → digits_behind v (d ∷ bs) ≡ digits_behind n bs
unfolding digits_behind
one_again v d n bs t e l = rw (t, e, lt-ltb n (2 ^ 64) l) refl

digits_again : (v : ℕ) (ds rest : List ℕ) → AllDigits 10 ds → digits_value_after 10 v ds < 2 ^ 64 → is_done rest ≡ true → digits_behind v (ds ++ rest) ≡ Some (digits_value_after 10 v ds, rest)
digits_again v [] rest a l h = done_digits v rest h
digits_again v (d ∷ ds) rest a l h =
    let is = digit_is d a.0 in
    let low = not_below (v * 10 + digit_value d) ds in
    one_again v d (v * 10 + digit_value d) (ds ++ rest) is.0 (ap (λ (x : ℕ). v * 10 + x) (sym is.1)) (omega (arith, low, l)) ∙ digits_again (v * 10 + digit_value d) ds rest a.1 l h

pub decimal_again : (n : ℕ) (rest : List ℕ) → n < 2 ^ 64 → is_done rest ≡ true → digits_behind 0 (decimal n ++ rest) ≡ Some (n, rest)
decimal_again n rest l h =
    let is = decimal_is_IsNumeral n l in
    digits_again 0 (decimal n) rest is.0.1 (omega (arith, is.1, l)) h ∙ ap (λ (m : ℕ). Some (m, rest)) is.1

pub number_again : (n : ℕ) (rest : List ℕ) → n < 2 ^ 64 → is_done rest ≡ true → number_at (number n ++ rest) ≡ Some (n, rest)
unfolding number_at
number_again n rest l h = decimal_again n rest l h

pub small_is : (n : ℕ) → n < 2 ^ 32 → small n ≡ Some n
small_is n l = rw (lt-ltb n (2 ^ 32) l) refl

pub small_again : (n : ℕ) (rest : List ℕ) → n < 2 ^ 32 → is_done rest ≡ true → small_at (number n ++ rest) ≡ Some (n, rest)
unfolding small_at
small_again n rest l h = rw (number_again n rest (omega arith) h, small_is n l) refl
