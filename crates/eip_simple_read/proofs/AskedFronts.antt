-- The patterns up to a refused one are the first ones of all.
use Rattle.std.proofs.Common.{◌≡◌, ◌⊎◌, inl, inr, ℕ, zero, suc, ◌+◌, Bool, true, false, cond, ◌==◌, List, [], ◌++◌, length, Option, Some, None, option_map, Result, Ok, Err, refl, sym, ap, ◌∙◌, subst, append_assoc}
use Rattle.std.proofs.lemmas.List.{append-nil}
use Rattle.eip_text.specs.Cuts.{unspaced}
use Rattle.eip_simple_read.specs.declared.tree.Side.{Side}
use Rattle.eip_simple_read.specs.declared.tree.Test.{Test}
use Rattle.eip_simple_read.specs.declared.tree.Test.TheVariants as test
use Rattle.eip_simple_read.specs.declared.joints.Joint.{Joint}
use Rattle.eip_simple_read.specs.declared.joints.Joint.TheVariants as joint
use Rattle.eip_simple_read.specs.declared.operators.Operator.{Operator}
use Rattle.eip_simple_read.specs.declared.operators.Operator.TheVariants as operator
use Rattle.eip_simple_read.specs.Reading.{Fault, Refused, ◌>>=◌, or_fault, side_at, operator_at, spaced, gap, pattern_text, unless_refused, pattern_at, operated, compared, test_at, joint_at}
use Rattle.eip_simple_read.specs.Builds.{behind_read, test_patterns, unless_end, tests_patterns, patterns_in}

-- ---- a reading with one pattern refused is the reading with none, or that refusal

abbrev OrRefused : {A : Type 0} → Result A Fault → Result A Fault → Type 0
OrRefused r s = (r ≡ s) ⊎ ((left : ℕ) × (text : List ℕ) × (r ≡ Err (Refused left text)))

in_both : {A B : Type 0} (r : Result A Fault) (f g : A → Result B Fault) → ((x : A) → OrRefused (f x) (g x)) → OrRefused (r >>= f) (r >>= g)
in_both (Ok x) f g h = h x
in_both (Err e) f g h = inl refl

and_then : {A B : Type 0} (r s : Result A Fault) (f : A → Result B Fault) → OrRefused r s → OrRefused (r >>= f) (s >>= f)
and_then r s f (inl e) = inl (ap (λ x. x >>= f) e)
and_then r s f (inr (left, text, e)) = inr (left, text, ap (λ x. x >>= f) e)

by_place : (b : Bool) (left : ℕ) (text : List ℕ) → OrRefused (cond b (Err (Refused left text)) (Ok text)) (Ok text)
by_place true left text = inr (left, text, refl)
by_place false left text = inl refl

unless_or : (refused left : ℕ) (text : List ℕ) → OrRefused (unless_refused (Some refused) left text) (unless_refused None left text)
unless_or refused left text = by_place (left == refused) left text

pattern_or : (refused : ℕ) (bs : List ℕ) → OrRefused (pattern_at (Some refused) bs) (pattern_at None bs)
unfolding pattern_at
pattern_or refused bs =
    in_both (side_at bs) _ _ (λ (s : Side × List ℕ).
    in_both (or_fault (option_map (λ (t : List ℕ). Ok t) (pattern_text bs s.0)) (length bs)) _ _ (λ (text : List ℕ).
    and_then (unless_refused (Some refused) (length bs) text) (unless_refused None (length bs) text) (λ (p : List ℕ). Ok (p, s.1)) (unless_or refused (length bs) text)))

operated_or : (refused : ℕ) (left : Side) (after : List ℕ) (op : Operator) → OrRefused (operated (Some refused) left after op) (operated None left after op)
operated_or refused left after (operator.Compares op) = inl refl
operated_or refused left after (operator.Matches negated) =
    and_then (pattern_at (Some refused) after) (pattern_at None after) (λ (p : List ℕ × List ℕ). gap p.1 >>= λ end. Ok (test.Matches left p.0 negated, end)) (pattern_or refused after)

compared_or : (refused : ℕ) (left : Side) (rest : List ℕ) (o : Option (Operator × List ℕ)) → OrRefused (compared (Some refused) left rest o) (compared None left rest o)
compared_or refused left rest None = inl refl
compared_or refused left rest (Some op) = in_both (spaced op.1) _ _ (λ (after : List ℕ). operated_or refused left after op.0)

test_or : (refused : ℕ) (bs : List ℕ) → OrRefused (test_at (Some refused) bs) (test_at None bs)
unfolding test_at
test_or refused bs =
    in_both (side_at bs) _ _ (λ (left : Side × List ℕ). in_both (gap left.1) _ _ (λ (rest : List ℕ). compared_or refused left.0 rest (operator_at rest)))

-- ---- fronts

abbrev IsFront : List (List ℕ) → List (List ℕ) → Type 0
IsFront front all = (behind : List (List ℕ)) × (all ≡ front ++ behind)

same_front : (xs : List (List ℕ)) → IsFront xs xs
same_front xs = ([], sym (append-nil xs))

front_behind : (xs front all : List (List ℕ)) → IsFront front all → IsFront (xs ++ front) (xs ++ all)
front_behind xs front all (behind, e) = (behind, ap (λ (x : List (List ℕ)). xs ++ x) e ∙ sym (append_assoc xs front behind))

read_front : {A : Type 0} (r : Result A Fault) (f g : A → List (List ℕ)) → ((x : A) → IsFront (f x) (g x)) → IsFront (behind_read r f) (behind_read r g)
read_front (Ok x) f g h = h x
read_front (Err e) f g h = same_front []

joint_front : (j : Joint) (front all : List (List ℕ)) → IsFront front all → IsFront (unless_end j front) (unless_end j all)
joint_front joint.End front all h = same_front []
joint_front joint.And front all h = h
joint_front joint.Or front all h = h

either_front : {A : Type 0} (r s : Result A Fault) (f g : A → List (List ℕ)) → OrRefused r s → ((x : A) → IsFront (f x) (g x)) → IsFront (behind_read r f) (behind_read s g)
either_front {A} r s f g (inl e) h = subst (λ (x : Result A Fault). IsFront (behind_read x f) (behind_read s g)) (sym e) (read_front s f g h)
either_front {A} r s f g (inr (left, text, e)) h = subst (λ (x : Result A Fault). IsFront (behind_read x f) (behind_read s g)) (sym e) (behind_read s g, refl)

tests_front : (left n : ℕ) (bs : List ℕ) → IsFront (tests_patterns (Some left) n bs) (tests_patterns None n bs)
unfolding tests_patterns
tests_front left zero bs = same_front []
tests_front left (suc n) bs =
    front_behind (test_patterns bs) _ _ (either_front (test_at (Some left) bs) (test_at None bs) _ _ (test_or left bs) (λ (t : Test × List ℕ).
    read_front (joint_at t.1) _ _ (λ (j : Joint × List ℕ). joint_front j.0 _ _ (tests_front left n j.1))))

pub patterns_front : (left : ℕ) (bs : List ℕ) → (behind : List (List ℕ)) × (patterns_in None bs ≡ patterns_in (Some left) bs ++ behind)
unfolding patterns_in
patterns_front left bs = tests_front left (length bs + 1) (unspaced bs)
