-- Texts of JSON values: their numbers and tokens.
use Rattle.std.proofs.Common.{ℕ, ℤ, pos, negsuc, zero, suc, ◌+◌, ◌/◌, ◌%◌, ◌^◌, ◌<◌, ◌≤◌, ◌≡◌, ◌==◌, false, cond, drop, List, [], ◌∷◌, ◌++◌, length, get_or, Some, option_and_then, decimal, refl, ap, ◌∙◌, arith, SFits, append_assoc, Result, Ok, Err, OnOk}
use Rattle.std.specs.Int.{w128}
use Rattle.std.proofs.lemmas.Bool.{ne_eqb, le-leb, and_from}
use Rattle.std.proofs.lemmas.Fmt.{decimal_is_IsNumeral_wide, decimal_by_steps_wide, decimal_digit}
use Rattle.std.proofs.lemmas.Int.{ints}
use Rattle.std.proofs.lemmas.List.{drop_all}
use Rattle.std.proofs.lemmas.Str.Parse.{digit_at}
use Rattle.std.specs.Char.{is_ascii_digit}
use Rattle.std.specs.Fmt.{signed_decimal}
use Rattle.std.specs.List.{prefix_len}
use Rattle.json.specs.Print.{IsNumber}
use Rattle.json.specs.Token.{Token}
use Rattle.json.specs.Written.{Written}
use Rattle.serde_json.specs.Find.{of_integer}
use Rattle.serde_json.specs.Written.{number_text}
use Rattle.eip_text.specs.JsonText.{Wrote}
use Rattle.json.specs.Word.{head, after_whole, after_fraction, after_exponent, after_number}

-- ---- a whole number's digits are a number of JSON

digits_only : (ds : List ℕ) → ((i : ℕ) → i < length ds → (48 ≤ get_or ds i 0) × (get_or ds i 0 ≤ 57)) → prefix_len is_ascii_digit ds ≡ length ds
digits_only [] h = refl
digits_only (d ∷ ds) h =
    let first = h 0 (omega arith) in
    let rest = digits_only ds (λ i l. h (suc i) (omega arith)) in
    ap (λ b. cond b (1 + prefix_len is_ascii_digit ds) 0) (and_from _ _ (le-leb 48 d first.0) (le-leb d 57 first.1)) ∙ omega arith

-- no number above 0 begins with a zero
abbrev Leads : ℕ → List ℕ → Type 0
Leads n ds = (0 < length ds) × (0 < n → 48 < get_or ds 0 0)

leads_more : (n : ℕ) (ds : List ℕ) → 10 ≤ n → Leads (n / 10) ds → Leads n (ds ++ ((48 + n % 10) ∷ []))
leads_more n [] h before = absurd (omega (arith, before.0))
leads_more n (d ∷ ds) h before = (omega arith, λ _. before.1 (omega arith))

leads : (n : ℕ) → n < 10 ^ 64 → Leads n (decimal n)
leads = decimal_by_steps_wide Leads (λ n h. (omega arith, λ some. omega arith)) leads_more

whole_digits : (ds : List ℕ) → 48 < get_or ds 0 0 → prefix_len is_ascii_digit ds ≡ length ds → (after_whole ds ≡ Some []) × ((head ds == 45) ≡ false)
whole_digits [] first all = absurd (omega arith)
whole_digits (d ∷ ds) first all = (
  rw (ne_eqb d 48 (λ e. omega arith), all, ne_eqb (suc (length ds)) 0 (λ e. omega arith)) (ap Some (drop_all (length ds) ds (omega arith))),
  ne_eqb d 45 (λ e. omega arith),
)

whole_decimal : (n : ℕ) → n < 10 ^ 64 → (after_whole (decimal n) ≡ Some []) × ((head (decimal n) == 45) ≡ false)
whole_decimal zero h = let e = decimal_digit 0 (omega arith) in (ap after_whole e, ap (λ l. head l == 45) e)
whole_decimal (suc n) h =
    whole_digits (decimal (suc n)) ((leads (suc n) h).1 (omega arith)) (digits_only _ (λ i l. digit_at _ i (decimal_is_IsNumeral_wide (suc n) h).0.1 l))

IsNumber-below_zero : (n : ℕ) → n < 10 ^ 64 → IsNumber (45 ∷ decimal n)
unfolding after_number
IsNumber-below_zero n h = ap (λ o. option_and_then after_exponent (option_and_then after_fraction o)) (whole_decimal n h).0

IsNumber-not_below_zero : (n : ℕ) → n < 10 ^ 64 → IsNumber (decimal n)
unfolding after_number
IsNumber-not_below_zero n h =
    let w = whole_decimal n h in
    ap (λ o. option_and_then after_exponent (option_and_then after_fraction o)) (ap (λ b. after_whole (cond b (drop 1 (decimal n)) (decimal n))) w.1 ∙ w.0)

pub IsNumber-whole : (z : ℤ) → SFits w128 z → IsNumber (signed_decimal z)
IsNumber-whole (pos n) h = IsNumber-not_below_zero n (omega (arith, ints))
IsNumber-whole (negsuc n) h = IsNumber-below_zero (suc n) (omega (arith, ints))

-- ---- what was written

pub OnOk-mapped : {T E P Q : Type 0} (r : Result T E) → (P → Q) → OnOk r P → OnOk r Q
OnOk-mapped (Ok x) f h = f h
OnOk-mapped (Err x) f h = h

-- a token, and then more
pub Wrote-then : (t : Token) (ts : List Token) (a b c : Written) → b.before ≡ a.before → b.tokens ≡ a.tokens ++ t ∷ [] → Wrote ts b c → Wrote (t ∷ ts) a c
Wrote-then t ts a b c before tokens more = record {
  before = more.before ∙ before;
  tokens = more.tokens ∙ ap (λ x. x ++ ts) tokens ∙ append_assoc a.tokens (t ∷ []) ts;
}

pub number_text-whole : (z : ℤ) → number_text (of_integer z) ≡ signed_decimal z
number_text-whole (pos n) = refl
number_text-whole (negsuc n) = refl
