-- What is read of a predicate fits: sides, tests and conjunctions.
use Rattle.std.proofs.Common.{◌≡◌, ℕ, zero, suc, ◌+◌, Bool, true, false, not, cond, eqb, ◌&&◌, ◌⊎◌, inl, inr, List, [], ◌∷◌, length, Option, Some, None, Result, Ok, refl, sym, ap, subst, ◌∙◌}
use Rattle.std.specs.Prelude.{codes, option_map, option_and_then}
use Rattle.std.proofs.lemmas.Bool.{and_from, and_parts, and_right, ne_eqb, both_ways}
use Rattle.std.proofs.lemmas.List.{append-nil}
use Rattle.std.proofs.lemmas.Option.{same_Some}
use Rattle.eip_text.specs.Cuts.{behind, cut, holds_byte, digits, is_digit}
use Rattle.eip_text.proofs.Cutting.{guarded, mapped, cut_lacks, lacks_by}
use Rattle.eip_simple_read.specs.declared.tree.Part.{Part}
use Rattle.eip_simple_read.specs.declared.tree.Part.TheVariants as part
use Rattle.eip_simple_read.specs.declared.tree.Side.{Side}
use Rattle.eip_simple_read.specs.declared.tree.Side.TheVariants as side
use Rattle.eip_simple_read.specs.declared.operators.Operator.{Operator}
use Rattle.eip_simple_read.specs.declared.operators.Operator.TheVariants as operator
use Rattle.eip_simple_read.specs.declared.tree.Test.{Test}
use Rattle.eip_simple_read.specs.declared.tree.Test.TheVariants as test
use Rattle.eip_simple_read.specs.declared.joints.Joint.{Joint}
use Rattle.eip_simple_read.specs.declared.joints.Joint.TheVariants as joint
use Rattle.eip_simple_read.specs.Reading.{Fault, ◌>>=◌, ◌<|>◌, or_fault, tagged, function_behind, template, plain_value, enclosed, quoted, some_digits, numeral, word, side_at, operator_at, spaced, gap, plain_text, begins_quoted, pattern_text, pattern_at, operated, compared, test_at, joint_at, in_first, go_on, tests_at, all_tests}
use Rattle.eip_simple_read.specs.Spelling.{is_plain, is_some_text, is_quotable, are_parts, parts_text, is_side, is_test, are_all, are_any}
use Rattle.eip_simple_read.proofs.TemplateSteps.{ok_is}
use Rattle.eip_simple_read.proofs.Fits.{bind_ok, chosen, function_fits, template_fits, quote}

-- ---- quotes

quotable_by : (double : Bool) (bs : List ℕ) → holds_byte (quote double) bs ≡ false → is_quotable bs ≡ true
quotable_by true bs h = ap not (and_right (holds_byte 39 bs) (holds_byte 34 bs) h)
quotable_by false bs h = rw h refl

enclosed_fits : (double : Bool) (left : ℕ) (inner : List ℕ) (o : Option (List ℕ × List ℕ)) (x : Side × List ℕ) → cut (quote double) inner ≡ o → enclosed left o ≡ Ok x → is_side x.0 ≡ true
enclosed_fits double left inner None x c e = absurd cc
enclosed_fits double left inner (Some p) x c e =
    let t = bind_ok (template (length p.1 + 1) zero p.0) (λ ps. Ok (side.Value (record { parts = ps }), p.1)) x e in
    let s = template_fits (length p.1 + 1) zero p.0 t.0 t.1 in
    subst (λ (y : Side × List ℕ). is_side y.0 ≡ true) (ok_is (side.Value (record { parts = t.0 }), p.1) x t.2)
    (and_from (are_parts t.0) (is_quotable (parts_text t.0)) s.parts (quotable_by double (parts_text t.0) (s.quotes double (cut_lacks (quote double) inner p c))))

quoted_fits : (double : Bool) (inner : List ℕ) (x : Side × List ℕ) → quoted (quote double) inner ≡ Ok x → is_side x.0 ≡ true
unfolding quoted
quoted_fits double inner x e = enclosed_fits double (length inner + 1) inner (cut (quote double) inner) x refl e

-- ---- numbers and words

-- a text without '$' is plain
plain_without : (t after : List ℕ) → holds_byte 36 t ≡ false → is_plain t after ≡ true
plain_without [] after h = refl
plain_without (b ∷ bs) after h =
    let p = lacks_by (eqb b 36) 36 bs h in
    rw (p.0, plain_without bs after p.1) refl

plain_fits : (t : List ℕ) → is_some_text t ≡ true → holds_byte 36 t ≡ false → holds_byte 39 t ≡ false → is_side (plain_value t) ≡ true
plain_fits t some dollar mark =
    rw (some, plain_without t [] dollar) (ap is_quotable (append-nil t) ∙ quotable_by false t mark)

digits_lack_by : (t : Bool) (c b : ℕ) (bs : List ℕ) → is_digit c ≡ false → is_digit b ≡ t → holds_byte c (digits bs).0 ≡ false → holds_byte c (cond {A = List ℕ × List ℕ} t (b ∷ (digits bs).0, (digits bs).1) ([], b ∷ bs)).0 ≡ false
digits_lack_by true c b bs n d h =
    let other : eqb b c ≡ false = ne_eqb b c (λ e. both_ways (is_digit c) n (subst (λ (x : ℕ). is_digit x ≡ true) e d)) in
    rw (other, h) refl
digits_lack_by false c b bs n d h = refl

digits_lack : (c : ℕ) (bs : List ℕ) → is_digit c ≡ false → holds_byte c (digits bs).0 ≡ false
digits_lack c [] n = refl
digits_lack c (b ∷ bs) n = digits_lack_by (is_digit b) c b bs n refl (digits_lack c bs n)

some_is : (d : List ℕ × List ℕ) (p : List ℕ × List ℕ) → some_digits d ≡ Some p → (is_some_text p.0 ≡ true) × (p.0 ≡ d.0)
some_is ([], rest) p e = absurd cc
some_is (b ∷ bs, rest) p e =
    let made : List ℕ × List ℕ = (b ∷ bs, rest) in
    let same : made ≡ p = same_Some made p e in
    subst (λ (q : List ℕ × List ℕ). (is_some_text q.0 ≡ true) × (q.0 ≡ b ∷ bs)) same (refl, refl)

digits_fit : (bs : List ℕ) (p : List ℕ × List ℕ) → some_digits (digits bs) ≡ Some p → is_side (plain_value p.0) ≡ true
digits_fit bs p e =
    let s = some_is (digits bs) p e in
    plain_fits p.0 s.0 (ap (holds_byte 36) s.1 ∙ digits_lack 36 bs refl) (ap (holds_byte 39) s.1 ∙ digits_lack 39 bs refl)

negative_fits : (o : Option (List ℕ)) (p : List ℕ × List ℕ) → option_and_then (λ more. option_map (λ q. (45 ∷ q.0, q.1)) (some_digits (digits more))) o ≡ Some p → is_side (plain_value p.0) ≡ true
negative_fits None p e = absurd cc
negative_fits (Some more) p e =
    let m = mapped (λ (q : List ℕ × List ℕ). (45 ∷ q.0, q.1)) (some_digits (digits more)) p e in
    let s = some_is (digits more) m.0 m.1 in
    subst (λ (q : List ℕ × List ℕ). is_side (plain_value q.0) ≡ true) m.2
    (plain_fits (45 ∷ m.0.0) refl (ap (holds_byte 36) s.1 ∙ digits_lack 36 more refl) (ap (holds_byte 39) s.1 ∙ digits_lack 39 more refl))

numeral_fits : (bs : List ℕ) (p : List ℕ × List ℕ) → numeral bs ≡ Some p → is_side (plain_value p.0) ≡ true
unfolding numeral
numeral_fits bs p e =
    elim (chosen (option_and_then (λ more. option_map (λ q. (45 ∷ q.0, q.1)) (some_digits (digits more))) (behind (codes "-") bs)) (some_digits (digits bs)) p e) [
      | inl a ↦ negative_fits (behind (codes "-") bs) p a
      | inr a ↦ digits_fit bs p a
    ]

tagged_fits : (s : Side) (o : Option (List ℕ)) (p : Side × List ℕ) → is_side s ≡ true → tagged s o ≡ Some p → is_side p.0 ≡ true
tagged_fits s None p h e = absurd cc
tagged_fits s (Some rest) p h e =
    let made : Side × List ℕ = (s, rest) in
    subst (λ (q : Side × List ℕ). is_side q.0 ≡ true) (same_Some made p e) h

word_fits : (bs : List ℕ) (p : Side × List ℕ) → word bs ≡ Some p → is_side p.0 ≡ true
unfolding word
word_fits bs p e =
    let o3 = tagged (plain_value (codes "false")) (behind (codes "false") bs) in
    let o2 = tagged (plain_value (codes "true")) (behind (codes "true") bs) in
    elim (chosen (tagged side.Null (behind (codes "null") bs)) (o2 <|> o3) p e) [
      | inl a ↦ tagged_fits side.Null (behind (codes "null") bs) p refl a
      | inr e2 ↦
          elim (chosen o2 o3 p e2) [
            | inl a ↦ tagged_fits (plain_value (codes "true")) (behind (codes "true") bs) p refl a
            | inr a ↦ tagged_fits (plain_value (codes "false")) (behind (codes "false") bs) p refl a
          ]
    ]

-- ---- sides

-- what was read was read by the first choice or by the others
read_of : {A : Type 0} (o more : Option (Result A Fault)) (left : ℕ) (y : A) → or_fault (o <|> more) left ≡ Ok y → (o ≡ Some (Ok y)) ⊎ (or_fault more left ≡ Ok y)
read_of None more left y e = inr e
read_of {A = A} (Some r) more left y e = inl (ap (λ (x : Result A Fault). Some x) e)

read_last : {A : Type 0} (o : Option (Result A Fault)) (left : ℕ) (y : A) → or_fault o left ≡ Ok y → o ≡ Some (Ok y)
read_last None left y e = absurd cc
read_last {A = A} (Some r) left y e = ap (λ (x : Result A Fault). Some x) e

abbrev number_side : List ℕ × List ℕ → Result (Side × List ℕ) Fault
number_side p = Ok (plain_value p.0, p.1)

abbrev word_side : Side × List ℕ → Result (Side × List ℕ) Fault
word_side p = Ok (p.0, p.1)

call_read : (left : ℕ) (o : Option (List ℕ)) (x : Side × List ℕ) → option_map (λ inner. function_behind left inner >>= λ f. Ok (side.Call f.0, f.1)) o ≡ Some (Ok x) → is_side x.0 ≡ true
call_read left o x e =
    let m = mapped (λ (inner : List ℕ). function_behind left inner >>= λ f. Ok (side.Call f.0, f.1)) o (Ok x) e in
    let f = bind_ok (function_behind left m.0) (λ f. Ok (side.Call f.0, f.1)) x m.2 in
    subst (λ (y : Side × List ℕ). is_side y.0 ≡ true) (ok_is (side.Call f.0.0, f.0.1) x f.2) (function_fits left m.0 f.0 f.1)

quoted_read : (double : Bool) (o : Option (List ℕ)) (x : Side × List ℕ) → option_map (quoted (quote double)) o ≡ Some (Ok x) → is_side x.0 ≡ true
quoted_read double o x e =
    let m = mapped (quoted (quote double)) o (Ok x) e in
    quoted_fits double m.0 x m.2

number_read : (bs : List ℕ) (x : Side × List ℕ) → option_map number_side (numeral bs) ≡ Some (Ok x) → is_side x.0 ≡ true
number_read bs x e =
    let m = mapped number_side (numeral bs) (Ok x) e in
    subst (λ (y : Side × List ℕ). is_side y.0 ≡ true) (ok_is (plain_value m.0.0, m.0.1) x m.2) (numeral_fits bs m.0 m.1)

word_read : (bs : List ℕ) (x : Side × List ℕ) → option_map word_side (word bs) ≡ Some (Ok x) → is_side x.0 ≡ true
word_read bs x e =
    let m = mapped word_side (word bs) (Ok x) e in
    subst (λ (y : Side × List ℕ). is_side y.0 ≡ true) (ok_is (m.0.0, m.0.1) x m.2) (word_fits bs m.0 m.1)

pub side_fits : (bs : List ℕ) (x : Side × List ℕ) → side_at bs ≡ Ok x → is_side x.0 ≡ true
unfolding side_at
side_fits bs x e =
    let o5 = option_map word_side (word bs) in
    let o4 = option_map number_side (numeral bs) in
    let o3 = option_map (quoted 34) (behind (34 ∷ []) bs) in
    let o2 = option_map (quoted 39) (behind (39 ∷ []) bs) in
    let o1 = option_map (λ (inner : List ℕ). function_behind (length bs) inner >>= λ f. Ok (side.Call f.0, f.1)) (behind (codes "${") bs) in
    elim (read_of o1 (o2 <|> o3 <|> o4 <|> o5) (length bs) x e) [
      | inl a ↦ call_read (length bs) (behind (codes "${") bs) x a
      | inr e2 ↦
          elim (read_of o2 (o3 <|> o4 <|> o5) (length bs) x e2) [
            | inl a ↦ quoted_read false (behind (39 ∷ []) bs) x a
            | inr e3 ↦
                elim (read_of o3 (o4 <|> o5) (length bs) x e3) [
                  | inl a ↦ quoted_read true (behind (34 ∷ []) bs) x a
                  | inr e4 ↦
                      elim (read_of o4 o5 (length bs) x e4) [
                        | inl a ↦ number_read bs x a
                        | inr a ↦ word_read bs x (read_last o5 (length bs) x a)
                      ]
                ]
          ]
    ]

-- ---- patterns

plain_text_fits : (ps : List Part) (t : List ℕ) → are_parts ps ≡ true → is_quotable (parts_text ps) ≡ true → plain_text ps ≡ Some t → (is_plain t [] && is_quotable t) ≡ true
plain_text_fits [] t h q e = let none : List ℕ = [] in subst (λ (x : List ℕ). (is_plain x [] && is_quotable x) ≡ true) (same_Some none t e) refl
plain_text_fits (part.Plain u ∷ []) t h q e =
    let p = and_parts (is_some_text u && is_plain u [] && true) true h in
    let r = and_parts (is_some_text u && is_plain u []) true p.0 in
    let s = and_parts (is_some_text u) (is_plain u []) r.0 in
    subst (λ (x : List ℕ). (is_plain x [] && is_quotable x) ≡ true) (same_Some u t e) (and_from (is_plain u []) (is_quotable u) s.1 (ap is_quotable (sym (append-nil u)) ∙ q))
plain_text_fits (part.Plain u ∷ p ∷ ps) t h q e = absurd cc
plain_text_fits (part.Call f ∷ ps) t h q e = absurd cc

pattern_text_fits : (bs : List ℕ) (s : Side) (t : List ℕ) → is_side s ≡ true → pattern_text bs s ≡ Some t → (is_plain t [] && is_quotable t) ≡ true
pattern_text_fits bs (side.Value v) t h e =
    let p = and_parts (are_parts v.parts) (is_quotable (parts_text v.parts)) h in
    plain_text_fits v.parts t p.0 p.1 (guarded (begins_quoted bs) (plain_text v.parts) t e).1
pattern_text_fits bs (side.Call f) t h e = absurd cc
pattern_text_fits bs side.Null t h e = absurd cc

abbrev good_pattern : List ℕ → Result (List ℕ) Fault
good_pattern t = Ok t

pattern_fits : (bs : List ℕ) (p : List ℕ × List ℕ) → pattern_at None bs ≡ Ok p → (is_plain p.0 [] && is_quotable p.0) ≡ true
unfolding pattern_at
pattern_fits bs p e =
    let s = bind_ok (side_at bs) (λ s. or_fault (option_map good_pattern (pattern_text bs s.0)) (length bs) >>= λ text. Ok (text, s.1)) p e in
    let t = bind_ok (or_fault (option_map good_pattern (pattern_text bs s.0.0)) (length bs)) (λ text. Ok (text, s.0.1)) p s.2 in
    let m = mapped good_pattern (pattern_text bs s.0.0) (Ok t.0) (read_last (option_map good_pattern (pattern_text bs s.0.0)) (length bs) t.0 t.1) in
    let same : m.0 ≡ t.0 = ok_is m.0 t.0 m.2 in
    let fits = pattern_text_fits bs s.0.0 m.0 (side_fits bs s.0 s.1) m.1 in
    subst (λ (q : List ℕ × List ℕ). (is_plain q.0 [] && is_quotable q.0) ≡ true) (ok_is (t.0, s.0.1) p t.2) (subst (λ (u : List ℕ). (is_plain u [] && is_quotable u) ≡ true) same fits)

-- ---- tests

operated_fits : (left : Side) (after : List ℕ) (op : Operator) (x : Test × List ℕ) → is_side left ≡ true → operated None left after op ≡ Ok x → is_test x.0 ≡ true
operated_fits left after (operator.Compares op) x h e =
    let s = bind_ok (side_at after) (λ right. gap right.1 >>= λ end. Ok (test.Compare left op right.0, end)) x e in
    let g = bind_ok (gap s.0.1) (λ end. Ok (test.Compare left op s.0.0, end)) x s.2 in
    subst (λ (y : Test × List ℕ). is_test y.0 ≡ true) (ok_is (test.Compare left op s.0.0, g.0) x g.2) (and_from (is_side left) (is_side s.0.0) h (side_fits after s.0 s.1))
operated_fits left after (operator.Matches negated) x h e =
    let p = bind_ok (pattern_at None after) (λ pattern. gap pattern.1 >>= λ end. Ok (test.Matches left pattern.0 negated, end)) x e in
    let g = bind_ok (gap p.0.1) (λ end. Ok (test.Matches left p.0.0 negated, end)) x p.2 in
    subst (λ (y : Test × List ℕ). is_test y.0 ≡ true) (ok_is (test.Matches left p.0.0 negated, g.0) x g.2) (and_from (is_side left) (is_plain p.0.0 [] && is_quotable p.0.0) h (pattern_fits after p.0 p.1))

compared_fits : (left : Side) (rest : List ℕ) (o : Option (Operator × List ℕ)) (x : Test × List ℕ) → is_side left ≡ true → compared None left rest o ≡ Ok x → is_test x.0 ≡ true
compared_fits left rest None x h e = subst (λ (y : Test × List ℕ). is_test y.0 ≡ true) (ok_is (test.Single left, rest) x e) h
compared_fits left rest (Some op) x h e =
    let s = bind_ok (spaced op.1) (λ after. operated None left after op.0) x e in
    operated_fits left s.0 op.0 x h s.2

test_fits : (bs : List ℕ) (x : Test × List ℕ) → test_at None bs ≡ Ok x → is_test x.0 ≡ true
unfolding test_at
test_fits bs x e =
    let s = bind_ok (side_at bs) (λ left. gap left.1 >>= λ rest. compared None left.0 rest (operator_at rest)) x e in
    let g = bind_ok (gap s.0.1) (λ rest. compared None s.0.0 rest (operator_at rest)) x s.2 in
    compared_fits s.0.0 g.0 (operator_at g.0) x (side_fits bs s.0 s.1) g.2

-- ---- conjunctions

first_fits : (t : Test) (any : List (List Test)) → is_test t ≡ true → are_any any ≡ true → are_any (in_first t any) ≡ true
first_fits t [] h k = absurd cc
first_fits t ([] ∷ []) h k = absurd cc
first_fits t ((u ∷ ts) ∷ []) h k = and_from (is_test t) (are_all (u ∷ ts)) h k
first_fits t ([] ∷ us ∷ any) h k = absurd cc
first_fits t ((u ∷ ts) ∷ us ∷ any) h k =
    let p = and_parts (are_all (u ∷ ts)) (are_any (us ∷ any)) k in
    and_from (is_test t && are_all (u ∷ ts)) (are_any (us ∷ any)) (and_from (is_test t) (are_all (u ∷ ts)) h p.0) p.1

new_fits : (t : Test) (any : List (List Test)) → is_test t ≡ true → are_any any ≡ true → are_any ((t ∷ []) ∷ any) ≡ true
new_fits t [] h k = absurd cc
new_fits t (us ∷ any) h k = and_from (is_test t) (are_any (us ∷ any)) h k

go_on_fits : (t : Test) (j : Joint) (r : Result (List (List Test)) Fault) (any : List (List Test)) → is_test t ≡ true → ((more : List (List Test)) → r ≡ Ok more → are_any more ≡ true) → go_on t j r ≡ Ok any → are_any any ≡ true
go_on_fits t joint.End r any h k e = subst (λ (x : List (List Test)). are_any x ≡ true) (ok_is ((t ∷ []) ∷ []) any e) h
go_on_fits t joint.And r any h k e =
    let m = bind_ok r (λ more. Ok (in_first t more)) any e in
    subst (λ (x : List (List Test)). are_any x ≡ true) (ok_is (in_first t m.0) any m.2) (first_fits t m.0 h (k m.0 m.1))
go_on_fits t joint.Or r any h k e =
    let m = bind_ok r (λ more. Ok ((t ∷ []) ∷ more)) any e in
    subst (λ (x : List (List Test)). are_any x ≡ true) (ok_is ((t ∷ []) ∷ m.0) any m.2) (new_fits t m.0 h (k m.0 m.1))

tests_fit : (n : ℕ) (bs : List ℕ) (any : List (List Test)) → tests_at None n bs ≡ Ok any → are_any any ≡ true
unfolding tests_at
tests_fit zero bs any e = absurd cc
tests_fit (suc n) bs any e =
    let t = bind_ok (test_at None bs) (λ t. joint_at t.1 >>= λ j. go_on t.0 j.0 (tests_at None n j.1)) any e in
    let j = bind_ok (joint_at t.0.1) (λ j. go_on t.0.0 j.0 (tests_at None n j.1)) any t.2 in
    go_on_fits t.0.0 j.0.0 (tests_at None n j.0.1) any (test_fits bs t.0 t.1) (λ more. tests_fit n j.0.1 more) j.2

pub predicate_fits : (bs : List ℕ) (any : List (List Test)) → all_tests None bs ≡ Ok any → are_any any ≡ true
unfolding all_tests
predicate_fits bs any e = tests_fit (length bs + 1) _ any e
