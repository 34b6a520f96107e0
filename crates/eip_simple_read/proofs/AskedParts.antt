-- What the readers of one test ask a builder of patterns for.
use Rattle.std.proofs.Common.{◌≡◌, ℕ, Bool, List, [], ◌∷◌, Some, None, Result, Ok, Err, refl, sym, ap, ◌∙◌}
use Rattle.eip_simple_read.specs.declared.tree.Side.{Side}
use Rattle.eip_simple_read.specs.declared.tree.Op.{Op}
use Rattle.eip_simple_read.specs.declared.operators.Operator.{Operator}
use Rattle.eip_simple_read.specs.declared.operators.Operator.TheVariants as operator
use Rattle.eip_simple_read.specs.declared.fault.Stop.{Stop}
use Rattle.eip_simple_read.specs.Reading.{Fault, side_at, operator_at, spaced, gap, pattern_text, pattern_at}
use Rattle.eip_simple_read.specs.Builds.{Told, added, built, behind_read, operated_patterns, compared_patterns, test_patterns, AsksAt}
use Rattle.eip_simple_read.proofs.Asked.{asks_same}

-- ---- the right side of `regex`

pub no_side : (bs : List ℕ) (negated : Bool) (e : Fault) → side_at bs ≡ Err e → operated_patterns bs (operator.Matches negated) ≡ []
unfolding pattern_at
no_side bs negated e h = rw h refl

pub no_pattern : (bs : List ℕ) (negated : Bool) (e : Fault) → pattern_at None bs ≡ Err e → operated_patterns bs (operator.Matches negated) ≡ []
no_pattern bs negated e h = ap (λ (r : Result (List ℕ × List ℕ) Fault). behind_read r (λ (p : List ℕ × List ℕ). p.0 ∷ [])) h

pub one_pattern : (bs : List ℕ) (negated : Bool) (p : List ℕ × List ℕ) → pattern_at None bs ≡ Ok p → operated_patterns bs (operator.Matches negated) ≡ p.0 ∷ []
one_pattern bs negated p h = ap (λ (r : Result (List ℕ × List ℕ) Fault). behind_read r (λ (q : List ℕ × List ℕ). q.0 ∷ [])) h

pub side_pattern : (bs : List ℕ) (negated : Bool) (s : Side) (rest t : List ℕ) → side_at bs ≡ Ok (s, rest) → pattern_text bs s ≡ Some t → operated_patterns bs (operator.Matches negated) ≡ t ∷ []
unfolding pattern_at
side_pattern bs negated s rest t h g = rw (h, g) refl

-- ---- a comparison

pub no_comparison : (bs : List ℕ) (op : Op) (o : Operator) → o ≡ operator.Compares op → operated_patterns bs o ≡ []
no_comparison bs op o h = ap (operated_patterns bs) h

-- ---- a test

pub test_no_side : (bs : List ℕ) (e : Fault) → side_at bs ≡ Err e → test_patterns bs ≡ []
unfolding test_patterns
test_no_side bs e h = rw h refl

pub test_no_gap : (bs : List ℕ) (s : Side) (after : List ℕ) (e : Fault) → side_at bs ≡ Ok (s, after) → gap after ≡ Err e → test_patterns bs ≡ []
unfolding test_patterns
test_no_gap bs s after e h g = rw (h, g) refl

pub test_operator : (bs : List ℕ) (s : Side) (after rest : List ℕ) → side_at bs ≡ Ok (s, after) → gap after ≡ Ok rest → test_patterns bs ≡ compared_patterns (operator_at rest)
unfolding test_patterns
test_operator bs s after rest h g = rw (h, g) refl

pub test_single : (bs : List ℕ) (s : Side) (after rest : List ℕ) → side_at bs ≡ Ok (s, after) → gap after ≡ Ok rest → operator_at rest ≡ None → test_patterns bs ≡ []
test_single bs s after rest h g o = test_operator bs s after rest h g ∙ ap compared_patterns o

pub test_no_space : (bs : List ℕ) (s : Side) (after rest : List ℕ) (op : Operator × List ℕ) (e : Fault) → side_at bs ≡ Ok (s, after) → gap after ≡ Ok rest → operator_at rest ≡ Some op → spaced op.1 ≡ Err e → test_patterns bs ≡ []
test_no_space bs s after rest op e h g o k =
    test_operator bs s after rest h g ∙ ap compared_patterns o ∙ ap (λ (r : Result (List ℕ) Fault). behind_read r (λ (next : List ℕ). operated_patterns next op.0)) k

pub test_operated : (bs : List ℕ) (s : Side) (after rest next : List ℕ) (op : Operator × List ℕ) → side_at bs ≡ Ok (s, after) → gap after ≡ Ok rest → operator_at rest ≡ Some op → spaced op.1 ≡ Ok next → test_patterns bs ≡ operated_patterns next op.0
test_operated bs s after rest next op h g o k =
    test_operator bs s after rest h g ∙ ap compared_patterns o ∙ ap (λ (r : Result (List ℕ) Fault). behind_read r (λ (x : List ℕ). operated_patterns x op.0)) k

-- what was answered, where the patterns are the same
pub asks_alike : {X : Type 0} (r : Result X Stop) (xs ys : List (List ℕ)) (b n : Told) → xs ≡ ys → AsksAt r (λ _. ys) b n → AsksAt r (λ _. xs) b n
asks_alike (Ok x) xs ys b n e h = h ∙ ap (λ (zs : List (List ℕ)). added b (built zs)) (sym e)
asks_alike (Err stopped) xs ys b n e h = asks_same stopped xs ys b n e h
