-- The test for whole numbers decides what the reader of numbers says.
use Rattle.std.proofs.Common.{◌≡◌, ◌^◌, ℕ, ◌<◌, ◌&&◌, Bool, true, false, cond, List, [], ◌∷◌, length, drop, Option, None, Some, ℤ, pos, negsuc, refl, sym, ap, ◌∙◌, arith}
use Rattle.std.specs.Prelude.{FitsSigned, nat_lt}
use Rattle.std.specs.Int.{w64}
use Rattle.std.specs.List.{list_all}
use Rattle.std.specs.Option.{SomeIff}
use Rattle.std.specs.Char.{digit_value}
use Rattle.std.specs.Str.Parse.{AllDigits, IsNumeral, signed_digits_value, starts_with_minus}
use Rattle.std.proofs.lemmas.Bool.Decides.{nat_tests}
use Rattle.std.proofs.lemmas.Bool.{and_parts, lt-ltb, ltb-true}
use Rattle.std.proofs.lemmas.Str.Parse.{digit_from_value}
use Rattle.eip_text.specs.Cuts.{is_digit}
use Rattle.eip_text.specs.Numbers.{IsWhole, is_numeral, is_small, is_whole, whole_of}

digit_true : (c : ℕ) → digit_value c < 10 → is_digit c ≡ true
digit_true c h = let range = digit_from_value c h in grind (arith, nat_tests, range)

digit_small : (c : ℕ) → is_digit c ≡ true → digit_value c < 10
digit_small c h = grind (arith, nat_tests)

digits_true : (ds : List ℕ) → AllDigits 10 ds → list_all is_digit ds ≡ true
digits_true [] h = refl
digits_true (d ∷ ds) h = ap (λ (b : Bool). b && list_all is_digit ds) (digit_true d h.0) ∙ digits_true ds h.1

digits_small : (ds : List ℕ) → list_all is_digit ds ≡ true → AllDigits 10 ds
digits_small [] h = tt
digits_small (d ∷ ds) h = let p = and_parts (is_digit d) (list_all is_digit ds) h in (digit_small d p.0, digits_small ds p.1)

small_true : (z : ℤ) → FitsSigned w64 z → is_small z ≡ true
small_true (pos n) h = lt-ltb n (2 ^ 63) h.sfits
small_true (negsuc n) h = lt-ltb n (2 ^ 63) h.sfits

small_fits : (z : ℤ) → is_small z ≡ true → FitsSigned w64 z
small_fits (pos n) h = record { sfits = ltb-true n (2 ^ 63) h }
small_fits (negsuc n) h = record { sfits = ltb-true n (2 ^ 63) h }

numeral_true : (ds : List ℕ) → IsNumeral 10 ds → is_numeral ds ≡ true
numeral_true ds h = ap (λ (b : Bool). b && list_all is_digit ds) (lt-ltb 0 (length ds) h.0) ∙ digits_true ds h.1

numeral_so : (ds : List ℕ) → is_numeral ds ≡ true → IsNumeral 10 ds
numeral_so ds h = let p = and_parts (nat_lt 0 (length ds)) (list_all is_digit ds) h in (ltb-true 0 (length ds) p.0, digits_small ds p.1)

abbrev unsigned : List ℕ → List ℕ
unsigned bs = cond (starts_with_minus bs) (drop 1 bs) bs

whole_true : (bs : List ℕ) → IsWhole bs → is_whole bs ≡ true
whole_true bs h = ap (λ (b : Bool). b && is_small (signed_digits_value 10 bs)) (numeral_true (unsigned bs) h.0) ∙ small_true (signed_digits_value 10 bs) h.1

whole_so : (bs : List ℕ) → is_whole bs ≡ true → IsWhole bs
whole_so bs h =
    let p = and_parts (is_numeral (unsigned bs)) (is_small (signed_digits_value 10 bs)) h in
    (numeral_so (unsigned bs) p.0, small_fits (signed_digits_value 10 bs) p.1)

not_whole : (t : Bool) (bs : List ℕ) → is_whole bs ≡ t → (IsWhole bs → ⊥) → None ≡ cond t (Some (signed_digits_value 10 bs)) None
not_whole true bs e h = absurd (h (whole_so bs e))
not_whole false bs e h = refl

-- what the reader of numbers answers is the number that the text spells
pub whole_is : (bs : List ℕ) (r : Option ℤ) → SomeIff r (IsWhole bs) (signed_digits_value 10 bs) → r ≡ whole_of bs
unfolding whole_of
whole_is bs None h = not_whole (is_whole bs) bs refl h
whole_is bs (Some z) h = ap Some h.1 ∙ ap (λ (b : Bool). cond b (Some (signed_digits_value 10 bs)) None) (sym (whole_true bs h.0))
