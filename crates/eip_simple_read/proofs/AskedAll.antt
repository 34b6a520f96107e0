-- The patterns of a text that spells a predicate are those of its tests.
use Rattle.std.proofs.Common.{◌≡◌, ℕ, zero, suc, ◌+◌, List, [], ◌∷◌, ◌++◌, length, Option, Some, None, Result, Ok, Err, refl, sym, ap, ◌∙◌, subst, append_assoc}
use Rattle.std.proofs.lemmas.List.{append-nil}
use Rattle.eip_text.specs.Cuts.{unspaced}
use Rattle.eip_simple_read.specs.declared.tree.Side.{Side}
use Rattle.eip_simple_read.specs.declared.tree.Test.{Test}
use Rattle.eip_simple_read.specs.declared.tree.Test.TheVariants as test
use Rattle.eip_simple_read.specs.declared.joints.Joint.{Joint}
use Rattle.eip_simple_read.specs.declared.joints.Joint.TheVariants as joint
use Rattle.eip_simple_read.specs.declared.operators.Operator.{Operator}
use Rattle.eip_simple_read.specs.declared.operators.Operator.TheVariants as operator
use Rattle.eip_simple_read.specs.Reading.{Fault, ◌>>=◌, side_at, operator_at, spaced, gap, pattern_at, operated, compared, test_at, joint_at, in_first, go_on, tests_at, all_tests}
use Rattle.eip_simple_read.specs.Builds.{behind_read, operated_patterns, compared_patterns, test_patterns, unless_end, tests_patterns, patterns_in, pattern_of, all_patterns, any_patterns}
use Rattle.eip_simple_read.proofs.TemplateSteps.{ok_is}
use Rattle.eip_simple_read.proofs.Fits.{bind_ok}

-- what was read goes on with both
both_read : {A B : Type 0} (r : Result A Fault) (f : A → Result B Fault) (g : A → List (List ℕ)) (y : B) (wanted : List (List ℕ)) → ((x : A) → f x ≡ Ok y → g x ≡ wanted) → (r >>= f) ≡ Ok y → behind_read r g ≡ wanted
both_read (Ok x) f g y wanted h e = h x e
both_read (Err fault) f g y wanted h e = absurd cc

operated_said : (left : Side) (after : List ℕ) (op : Operator) (x : Test × List ℕ) → operated None left after op ≡ Ok x → operated_patterns after op ≡ pattern_of x.0
operated_said left after (operator.Compares op) x e =
    let right = bind_ok (side_at after) (λ (r : Side × List ℕ). gap r.1 >>= λ end. Ok (test.Compare left op r.0, end)) x e in
    let end = bind_ok (gap right.0.1) (λ (end : List ℕ). Ok (test.Compare left op right.0.0, end)) x right.2 in
    subst (λ (y : Test × List ℕ). [] ≡ pattern_of y.0) (ok_is (test.Compare left op right.0.0, end.0) x end.2) refl
operated_said left after (operator.Matches negated) x e =
    both_read (pattern_at None after) (λ (p : List ℕ × List ℕ). gap p.1 >>= λ end. Ok (test.Matches left p.0 negated, end)) (λ (p : List ℕ × List ℕ). p.0 ∷ []) x (pattern_of x.0)
    (λ p h.
    let end = bind_ok (gap p.1) (λ (end : List ℕ). Ok (test.Matches left p.0 negated, end)) x h in
    subst (λ (y : Test × List ℕ). p.0 ∷ [] ≡ pattern_of y.0) (ok_is (test.Matches left p.0 negated, end.0) x end.2) refl) e

compared_said : (left : Side) (rest : List ℕ) (o : Option (Operator × List ℕ)) (x : Test × List ℕ) → compared None left rest o ≡ Ok x → compared_patterns o ≡ pattern_of x.0
compared_said left rest None x e = subst (λ (y : Test × List ℕ). [] ≡ pattern_of y.0) (ok_is (test.Single left, rest) x e) refl
compared_said left rest (Some op) x e =
    both_read (spaced op.1) (λ (after : List ℕ). operated None left after op.0) (λ (after : List ℕ). operated_patterns after op.0) x (pattern_of x.0) (λ after h. operated_said left after op.0 x h) e

test_said : (bs : List ℕ) (x : Test × List ℕ) → test_at None bs ≡ Ok x → test_patterns bs ≡ pattern_of x.0
unfolding test_at test_patterns
test_said bs x e =
    both_read (side_at bs) _ _ x (pattern_of x.0) (λ (left : Side × List ℕ) h.
    both_read (gap left.1) (λ (rest : List ℕ). compared None left.0 rest (operator_at rest)) (λ (rest : List ℕ). compared_patterns (operator_at rest)) x (pattern_of x.0)
    (λ rest g. compared_said left.0 rest (operator_at rest) x g) h) e

in_first_said : (t : Test) (any : List (List Test)) → pattern_of t ++ any_patterns any ≡ any_patterns (in_first t any)
in_first_said t [] = sym (append-nil (pattern_of t ++ []))
in_first_said t (ts ∷ any) = sym (append_assoc (pattern_of t) (all_patterns ts) (any_patterns any))

alone_said : (t : Test) (any : List (List Test)) → pattern_of t ++ any_patterns any ≡ any_patterns ((t ∷ []) ∷ any)
alone_said t any = ap (λ (x : List (List ℕ)). x ++ any_patterns any) (sym (append-nil (pattern_of t)))

joined_said : (t : Test) (j : Joint) (r : Result (List (List Test)) Fault) (ps : List (List ℕ)) (any : List (List Test)) → go_on t j r ≡ Ok any → ((more : List (List Test)) → r ≡ Ok more → ps ≡ any_patterns more)
    → pattern_of t ++ unless_end j ps ≡ any_patterns any
joined_said t joint.End r ps any e h =
    subst (λ (x : List (List Test)). pattern_of t ++ [] ≡ any_patterns x) (ok_is ((t ∷ []) ∷ []) any e) (alone_said t [])
joined_said t joint.And (Ok more) ps any e h =
    subst (λ (x : List (List Test)). pattern_of t ++ ps ≡ any_patterns x) (ok_is (in_first t more) any e)
    (ap (λ (x : List (List ℕ)). pattern_of t ++ x) (h more refl) ∙ in_first_said t more)
joined_said t joint.And (Err fault) ps any e h = absurd cc
joined_said t joint.Or (Ok more) ps any e h =
    subst (λ (x : List (List Test)). pattern_of t ++ ps ≡ any_patterns x) (ok_is ((t ∷ []) ∷ more) any e)
    (ap (λ (x : List (List ℕ)). pattern_of t ++ x) (h more refl) ∙ alone_said t more)
joined_said t joint.Or (Err fault) ps any e h = absurd cc

tests_said : (n : ℕ) (bs : List ℕ) (any : List (List Test)) → tests_at None n bs ≡ Ok any → tests_patterns None n bs ≡ any_patterns any
unfolding tests_at tests_patterns
tests_said zero bs any e = absurd cc
tests_said (suc n) bs any e =
    let behind : Test × List ℕ → List (List ℕ) = λ t. behind_read (joint_at t.1) (λ (j : Joint × List ℕ). unless_end j.0 (tests_patterns None n j.1)) in
    let t = bind_ok (test_at None bs) (λ (t : Test × List ℕ). joint_at t.1 >>= λ j. go_on t.0 j.0 (tests_at None n j.1)) any e in
    let j = bind_ok (joint_at t.0.1) (λ (j : Joint × List ℕ). go_on t.0.0 j.0 (tests_at None n j.1)) any t.2 in
    ap (λ (x : List (List ℕ)). x ++ behind_read (test_at None bs) behind) (test_said bs t.0 t.1)
    ∙ ap (λ (r : Result (Test × List ℕ) Fault). pattern_of t.0.0 ++ behind_read r behind) t.1
    ∙ ap (λ (r : Result (Joint × List ℕ) Fault). pattern_of t.0.0 ++ behind_read r (λ (j : Joint × List ℕ). unless_end j.0 (tests_patterns None n j.1))) j.1
    ∙ joined_said t.0.0 j.0.0 (tests_at None n j.0.1) (tests_patterns None n j.0.1) any j.2 (λ more h. tests_said n j.0.1 more h)

pub patterns_said : (bs : List ℕ) (any : List (List Test)) → all_tests None bs ≡ Ok any → patterns_in None bs ≡ any_patterns any
unfolding all_tests patterns_in
patterns_said bs any e = tests_said (length bs + 1) (unspaced bs) any e
