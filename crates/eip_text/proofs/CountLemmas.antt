-- Counts and their decimal texts.
use Rattle.std.proofs.Common.{◌≡◌, ◌≢◌, ℕ, ◌<◌, ◌^◌, Bool, true, false, cond, ltb, ◌&&◌, List, Option, Some, None, refl, sym, ap, ◌∙◌, arith}
use Rattle.std.specs.Str.{bytes_eq}
use Rattle.std.specs.Str.Parse.{digits_value}
use Rattle.std.specs.Fmt.{decimal}
use Rattle.std.proofs.lemmas.Bool.{and_parts, lt-ltb, ltb-true, false_from_ne_true}
use Rattle.std.proofs.lemmas.Slice.Eq.{bytes_eq-Decides}
use Rattle.std.proofs.lemmas.Fmt.{decimal_is_IsNumeral}
use Rattle.eip_text.specs.Counts.{count_of}

-- the number n is read from its decimal text
pub count_again : (n : ℕ) → n < 2 ^ 32 → count_of (decimal n) ≡ Some n
unfolding count_of
count_again n lt =
    let value : digits_value 10 (decimal n) ≡ n = (decimal_is_IsNumeral n (omega arith)).1 in
    let small : ltb n (2 ^ 32) ≡ true = lt-ltb n (2 ^ 32) lt in
    let same : bytes_eq (decimal n) (decimal n) ≡ true = (bytes_eq-Decides (decimal n) (decimal n)).1 refl in
    rw (value, small, same) refl

-- a text that is no number's decimal text is no count
pub no_count : (bs : List ℕ) → ((n : ℕ) → n < 2 ^ 32 → bs ≢ decimal n) → count_of bs ≡ None
unfolding count_of
no_count bs h =
    let t : (ltb (digits_value 10 bs) (2 ^ 32) && bytes_eq (decimal (digits_value 10 bs)) bs) ≡ false = false_from_ne_true _ (λ e.
    let p = and_parts (ltb (digits_value 10 bs) (2 ^ 32)) (bytes_eq (decimal (digits_value 10 bs)) bs) e in
    h (digits_value 10 bs) (ltb-true (digits_value 10 bs) (2 ^ 32) p.0) (sym ((bytes_eq-Decides (decimal (digits_value 10 bs)) bs).0 p.1))) in
    rw t refl

some_by : (t : Bool) (bs : List ℕ) (m n : ℕ) → (ltb m (2 ^ 32) && bytes_eq (decimal m) bs) ≡ t → cond {A = Option ℕ} t (Some m) None ≡ Some n → (n < 2 ^ 32) × (bs ≡ decimal n)
some_by true bs m n h e =
    let same : m ≡ n = cc in
    let p = and_parts (ltb m (2 ^ 32)) (bytes_eq (decimal m) bs) h in
    let small : m < 2 ^ 32 = ltb-true m (2 ^ 32) p.0 in
    (omega arith, sym ((bytes_eq-Decides (decimal m) bs).0 p.1) ∙ ap decimal same)
some_by false bs m n h e = absurd cc

-- what is read as n is n's decimal text
pub count_is : (bs : List ℕ) (n : ℕ) → count_of bs ≡ Some n → (n < 2 ^ 32) × (bs ≡ decimal n)
unfolding count_of
count_is bs n e = some_by (ltb (digits_value 10 bs) (2 ^ 32) && bytes_eq (decimal (digits_value 10 bs)) bs) bs (digits_value 10 bs) n refl e
