-- A range by its text.
use Rattle.std.proofs.Common.{◌≡◌, ◌↔◌, ℕ, Bool, true, false, cond, eqb, List, [], ◌∷◌, ◌++◌, length, Option, Some, None, ℤ, refl, sym, ap, subst, ◌∙◌, arith}
use Rattle.std.specs.Prelude.{IsTrue, nat_lt, option_and_then, option_map}
use Rattle.std.specs.List.{list_all}
use Rattle.std.specs.Str.Parse.{signed_digits_value}
use Rattle.std.proofs.lemmas.Bool.Decides.{nat_tests}
use Rattle.std.proofs.lemmas.Bool.{and_parts}
use Rattle.eip_text.specs.Cuts.{behind, cut, holds_byte, is_digit}
use Rattle.eip_text.specs.Numbers.{is_numeral, is_small, is_whole, whole_of}
use Rattle.eip_text.proofs.Cutting.{cut_parts, cut_again, behind_parts}
use Rattle.eip_simple.specs.Operators.{bounds, is_between, is_between_texts, is_within, IsInRange}

-- ---- a whole number has no dot

digit_no_dot : (d : ℕ) → is_digit d ≡ true → eqb d 46 ≡ false
digit_no_dot d h = grind (arith, nat_tests)

digits_no_dot : (ds : List ℕ) → list_all is_digit ds ≡ true → holds_byte 46 ds ≡ false
digits_no_dot [] h = refl
digits_no_dot (d ∷ ds) h =
    let p = and_parts (is_digit d) (list_all is_digit ds) h in
    rw (digit_no_dot d p.0, digits_no_dot ds p.1) refl

minus_no_dot : (d : ℕ) → eqb d 45 ≡ true → eqb d 46 ≡ false
minus_no_dot d h = grind (arith, nat_tests)

signed_no_dot : (t : Bool) (d : ℕ) (ds : List ℕ) → eqb d 45 ≡ t → is_numeral (cond t ds (d ∷ ds)) ≡ true → holds_byte 46 (d ∷ ds) ≡ false
signed_no_dot true d ds e h =
    let p = and_parts (nat_lt 0 (length ds)) (list_all is_digit ds) h in
    rw (minus_no_dot d e, digits_no_dot ds p.1) refl
signed_no_dot false d ds e h = digits_no_dot (d ∷ ds) (and_parts (nat_lt 0 (length (d ∷ ds))) (list_all is_digit (d ∷ ds)) h).1

whole_no_dot : (bs : List ℕ) → is_whole bs ≡ true → holds_byte 46 bs ≡ false
whole_no_dot [] h = refl
whole_no_dot (b ∷ bs) h =
    signed_no_dot (eqb b 45) b bs refl (and_parts (is_numeral (cond (eqb b 45) bs (b ∷ bs))) (is_small (signed_digits_value 10 (b ∷ bs))) h).0

some_whole : (t : Bool) (z n : ℤ) → cond t (Some z) None ≡ Some n → t ≡ true
some_whole true z n e = refl
some_whole false z n e = absurd cc

number_no_dot : (bs : List ℕ) (n : ℤ) → whole_of bs ≡ Some n → holds_byte 46 bs ≡ false
unfolding whole_of
number_no_dot bs n e = whole_no_dot bs (some_whole (is_whole bs) (signed_digits_value 10 bs) n e)

-- ---- the two bounds

dot_behind : (p : List ℕ × List ℕ) (high : Option (List ℕ)) (q : List ℕ × List ℕ) → behind (46 ∷ []) p.1 ≡ high → option_map (λ h. (p.0, h)) high ≡ Some q
    → p.0 ++ (46 ∷ p.1) ≡ q.0 ++ (46 ∷ 46 ∷ q.1)
dot_behind p None q b e = absurd cc
dot_behind p (Some h) q b e =
    let rest : p.1 ≡ 46 ∷ h = behind_parts (46 ∷ []) p.1 h b in
    let low : p.0 ≡ q.0 = cc in
    let high : h ≡ q.1 = cc in
    rw (rest, low, high) refl

bounds_by : (b : List ℕ) (o : Option (List ℕ × List ℕ)) (q : List ℕ × List ℕ) → cut 46 b ≡ o
    → option_and_then (λ p. option_map (λ h. (p.0, h)) (behind (46 ∷ []) p.1)) o ≡ Some q → b ≡ q.0 ++ (46 ∷ 46 ∷ q.1)
bounds_by b None q c e = absurd cc
bounds_by b (Some p) q c e = cut_parts 46 b p c ∙ dot_behind p (behind (46 ∷ []) p.1) q refl e

within_by : (a b : List ℕ) (o : Option (List ℕ × List ℕ)) → bounds b ≡ o → is_between_texts a o ≡ true → IsInRange a b
within_by a b None e h = absurd cc
within_by a b (Some q) e h = (q.0, q.1, bounds_by b (cut 46 b) q refl e, h)

bounds_again : (low high : List ℕ) → holds_byte 46 low ≡ false → bounds (low ++ (46 ∷ 46 ∷ high)) ≡ Some (low, high)
bounds_again low high h = rw (cut_again 46 low (46 ∷ high) h) refl

between_low : (a low high : Option ℤ) → is_between a low high ≡ true → (n : ℤ) × (low ≡ Some n)
between_low None low high h = absurd cc
between_low (Some n) None high h = absurd cc
between_low (Some n) (Some l) high h = (l, refl)

-- the text of a range is its two numbers with two dots between them
pub within_law : (a b : List ℕ) → IsTrue (is_within a b) ↔ IsInRange a b
unfolding is_within
within_law a b = (λ h. within_by a b (bounds b) refl h, λ r. back r)
  where
    back : IsInRange a b → is_between_texts a (bounds b) ≡ true
    back r =
        let l = between_low (whole_of a) (whole_of r.0) (whole_of r.1) r.3 in
        ap (λ (bs : List ℕ). is_between_texts a (bounds bs)) r.2
        ∙ (ap (is_between_texts a) (bounds_again r.0 r.1 (number_no_dot r.0 l.0 l.1)) ∙ r.3)

pub within_law_at : (a b : List ℕ) (r : Bool) → r ≡ is_within a b → IsTrue r ↔ IsInRange a b
within_law_at a b r e = subst (λ (t : Bool). IsTrue t ↔ IsInRange a b) (sym e) (within_law a b)
