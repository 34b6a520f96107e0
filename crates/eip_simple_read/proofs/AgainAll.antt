-- A predicate that is printed is read again.
use Rattle.std.proofs.Common.{◌≡◌, ℕ, zero, suc, ◌+◌, ◌<◌, ◌≤◌, true, List, [], ◌∷◌, ◌++◌, length, None, Ok, refl, sym, ap, ◌∙◌, append_assoc, arith}
use Rattle.std.proofs.lemmas.Bool.{and_parts}
use Rattle.std.proofs.lemmas.List.{append-nil, length-append}
use Rattle.eip_simple_read.specs.declared.tree.Side.{Side}
use Rattle.eip_simple_read.specs.declared.tree.Side.TheVariants as side
use Rattle.eip_simple_read.specs.declared.tree.Test.{Test}
use Rattle.eip_simple_read.specs.declared.tree.Test.TheVariants as test
use Rattle.eip_simple_read.specs.declared.joints.Joint.{Joint}
use Rattle.eip_simple_read.specs.declared.joints.Joint.TheVariants as joint
use Rattle.eip_text.specs.Cuts.{unspaced}
use Rattle.eip_simple_read.specs.Reading.{◌>>=◌, symbol, named_operator, operator_at, spaced, gap, joint_at, in_first, go_on, tests_at, all_tests}
use Rattle.eip_simple_read.specs.Spelling.{side_text, op_text, regex_text, quoted_text, test_text, all_text, any_text, is_test, are_all, are_any}
use Rattle.eip_simple_read.proofs.Conjunctions.{Tests, one_test}
use Rattle.eip_simple_read.proofs.Again.{unspaced_side, gap_again, test_again}

unspaced_test : (t : Test) (rest : List ℕ) → unspaced (test_text t ++ rest) ≡ test_text t ++ rest
unspaced_test (test.Single s) rest = unspaced_side s rest
unspaced_test (test.Compare left op right) rest =
    let e : test_text (test.Compare left op right) ++ rest ≡ side_text left ++ ((32 ∷ (op_text op ++ (32 ∷ side_text right))) ++ rest) = append_assoc (side_text left) (32 ∷ (op_text op ++ (32 ∷ side_text right))) rest in
    ap unspaced e ∙ unspaced_side left ((32 ∷ (op_text op ++ (32 ∷ side_text right))) ++ rest) ∙ sym e
unspaced_test (test.Matches left pattern negated) rest =
    let e : test_text (test.Matches left pattern negated) ++ rest ≡ side_text left ++ ((32 ∷ (regex_text negated ++ (32 ∷ quoted_text pattern))) ++ rest) = append_assoc (side_text left) (32 ∷ (regex_text negated ++ (32 ∷ quoted_text pattern))) rest in
    ap unspaced e ∙ unspaced_side left ((32 ∷ (regex_text negated ++ (32 ∷ quoted_text pattern))) ++ rest) ∙ sym e

unspaced_all : (t : Test) (ts : List Test) (rest : List ℕ) → unspaced (all_text (t ∷ ts) ++ rest) ≡ all_text (t ∷ ts) ++ rest
unspaced_all t [] rest = unspaced_test t rest
unspaced_all t (u ∷ ts) rest =
    let more = 32 ∷ 38 ∷ 38 ∷ 32 ∷ all_text (u ∷ ts) in
    let e : all_text (t ∷ u ∷ ts) ++ rest ≡ test_text t ++ (more ++ rest) = append_assoc (test_text t) more rest in
    ap unspaced e ∙ unspaced_test t (more ++ rest) ∙ sym e

some_side : (s : Side) → 0 < length (side_text s)
some_side (side.Value t) = omega arith
some_side (side.Call f) = omega arith
some_side side.Null = omega arith

some_test : (t : Test) → 0 < length (test_text t)
some_test (test.Single s) = some_side s
some_test (test.Compare left op right) = omega (arith, some_side left, length-append (side_text left) (32 ∷ (op_text op ++ (32 ∷ side_text right))))
some_test (test.Matches left pattern negated) = omega (arith, some_side left, length-append (side_text left) (32 ∷ (regex_text negated ++ (32 ∷ quoted_text pattern))))

-- what follows a test reads as the end or as a further conjunction
record Tail (rest : List ℕ) (tail : List (List Test)) : Type 0 where
  next : List ℕ
  kind : Joint
  after : List ℕ
  gap_is : gap rest ≡ Ok next
  no_operator : operator_at next ≡ None
  joint_is : joint_at next ≡ Ok (kind, after)
  shorter : length after ≤ length rest
  done : (t : Test) (n : ℕ) → length after < n → go_on t kind (tests_at None n after) ≡ Ok ((t ∷ []) ∷ tail)

and_joint : (bs : List ℕ) → unspaced bs ≡ bs → joint_at (38 ∷ 38 ∷ 32 ∷ bs) ≡ Ok (joint.And, bs)
unfolding joint_at spaced
and_joint bs e = ap (λ (t : List ℕ). Ok (joint.And, t)) e

or_joint : (bs : List ℕ) → unspaced bs ≡ bs → joint_at (124 ∷ 124 ∷ 32 ∷ bs) ≡ Ok (joint.Or, bs)
unfolding joint_at spaced
or_joint bs e = ap (λ (t : List ℕ). Ok (joint.Or, t)) e

no_and : (bs : List ℕ) → operator_at (38 ∷ 38 ∷ bs) ≡ None
unfolding operator_at symbol named_operator
no_and bs = refl

no_or : (bs : List ℕ) → operator_at (124 ∷ 124 ∷ bs) ≡ None
unfolding operator_at symbol named_operator
no_or bs = refl

all_again : (n : ℕ) (ts : List Test) (rest : List ℕ) (tail : List (List Test)) → Tail rest tail → are_all ts ≡ true → length (all_text ts ++ rest) < n → tests_at None n (all_text ts ++ rest) ≡ Ok (ts ∷ tail)
all_again zero ts rest tail k h lt = absurd (omega arith)
all_again (suc n) [] rest tail k h lt = absurd cc
all_again (suc n) (t ∷ []) rest tail k h lt =
    one_test None n (test_text t ++ rest) t k.next k.kind k.after (test_again t rest k.next h k.gap_is k.no_operator) k.joint_is
    ∙ k.done t n (omega (arith, k.shorter, some_test t, length-append (test_text t) rest))
all_again (suc n) (t ∷ u ∷ ts) rest tail k h lt =
    let p = and_parts (is_test t) (are_all (u ∷ ts)) h in
    let more = all_text (u ∷ ts) ++ rest in
    let whole : all_text (t ∷ u ∷ ts) ++ rest ≡ test_text t ++ (32 ∷ 38 ∷ 38 ∷ 32 ∷ more) = append_assoc (test_text t) (32 ∷ 38 ∷ 38 ∷ 32 ∷ all_text (u ∷ ts)) rest in
    ap (tests_at None (suc n)) whole
    ∙ one_test None n (test_text t ++ (32 ∷ 38 ∷ 38 ∷ 32 ∷ more)) t (38 ∷ 38 ∷ 32 ∷ more) joint.And more
    (test_again t (32 ∷ 38 ∷ 38 ∷ 32 ∷ more) (38 ∷ 38 ∷ 32 ∷ more) p.0 (gap_again (38 ∷ 38 ∷ 32 ∷ more) refl) (no_and (32 ∷ more)))
    (and_joint more (unspaced_all u ts rest))
    ∙ ap (λ (r : Tests). r >>= λ any. Ok (in_first t any)) (all_again n (u ∷ ts) rest tail k p.1 (omega (arith, ap length whole, length-append (test_text t) (32 ∷ 38 ∷ 38 ∷ 32 ∷ more))))

at_end : Tail [] []
unfolding gap operator_at symbol named_operator joint_at
at_end = record { next = []; kind = joint.End; after = []; gap_is = refl; no_operator = refl; joint_is = refl; shorter = omega arith; done = λ t n lt. refl }

starts_again : (ts : List Test) (any : List (List Test)) → are_any (ts ∷ any) ≡ true → unspaced (any_text (ts ∷ any)) ≡ any_text (ts ∷ any)
starts_again [] [] h = absurd cc
starts_again (t ∷ ts) [] h = ap unspaced (sym (append-nil (all_text (t ∷ ts)))) ∙ unspaced_all t ts [] ∙ append-nil (all_text (t ∷ ts))
starts_again [] (us ∷ any) h = absurd cc
starts_again (t ∷ ts) (us ∷ any) h = unspaced_all t ts (32 ∷ 124 ∷ 124 ∷ 32 ∷ any_text (us ∷ any))

any_again : (any : List (List Test)) → are_any any ≡ true → (n : ℕ) → length (any_text any) < n → tests_at None n (any_text any) ≡ Ok any
any_again [] h n lt = absurd cc
any_again (ts ∷ []) h n lt = ap (tests_at None n) (sym (append-nil (all_text ts))) ∙ all_again n ts [] [] at_end h (omega (arith, ap length (append-nil (all_text ts))))
any_again (ts ∷ us ∷ any) h n lt =
    let p = and_parts (are_all ts) (are_any (us ∷ any)) h in
    let more = any_text (us ∷ any) in
    let tail : Tail (32 ∷ 124 ∷ 124 ∷ 32 ∷ more) (us ∷ any) = record {
      next = 124 ∷ 124 ∷ 32 ∷ more;
      kind = joint.Or;
      after = more;
      gap_is = gap_again (124 ∷ 124 ∷ 32 ∷ more) refl;
      no_operator = no_or (32 ∷ more);
      joint_is = or_joint more (starts_again us any p.1);
      shorter = omega arith;
      done = λ t m lt'. ap (λ (r : Tests). r >>= λ all. Ok ((t ∷ []) ∷ all)) (any_again (us ∷ any) p.1 m lt');
    } in
    all_again n ts (32 ∷ 124 ∷ 124 ∷ 32 ∷ more) (us ∷ any) tail p.0 lt

pub predicate_again : (any : List (List Test)) → are_any any ≡ true → all_tests None (any_text any) ≡ Ok any
unfolding all_tests
predicate_again [] h = absurd cc
predicate_again (ts ∷ any) h =
    ap (tests_at None (length (any_text (ts ∷ any)) + 1)) (starts_again ts any h) ∙ any_again (ts ∷ any) h (length (any_text (ts ∷ any)) + 1) (omega arith)
