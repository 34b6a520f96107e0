-- Printed texts piece by piece, as loops write them.
use Rattle.std.proofs.Common.{◌≡◌, ℕ, ◌≤◌, List, [], ◌∷◌, ◌++◌, length, drop, refl, sym, ap, ◌∙◌, append_assoc}
use Rattle.std.proofs.lemmas.List.{append-nil, drop_all}
use Rattle.eip_simple_read.specs.declared.tree.Test.{Test}
use Rattle.eip_simple_read.specs.Spelling.{test_text, all_text, any_text}

-- the tests behind the first one, each behind its `&&`
abbrev pub more_all : List Test → List ℕ
more_all [] = []
more_all (t ∷ ts) = (32 ∷ 38 ∷ 38 ∷ 32 ∷ test_text t) ++ more_all ts

pub all_from : (t : Test) (ts : List Test) → all_text (t ∷ ts) ≡ test_text t ++ more_all ts
all_from t [] = sym (append-nil (test_text t))
all_from t (u ∷ ts) = ap (λ (x : List ℕ). test_text t ++ (32 ∷ 38 ∷ 38 ∷ 32 ∷ x)) (all_from u ts)

-- the conjunctions behind the first one, each behind its `||`
abbrev pub more_any : List (List Test) → List ℕ
more_any [] = []
more_any (ts ∷ any) = (32 ∷ 124 ∷ 124 ∷ 32 ∷ all_text ts) ++ more_any any

pub any_from : (ts : List Test) (any : List (List Test)) → any_text (ts ∷ any) ≡ all_text ts ++ more_any any
any_from ts [] = sym (append-nil (all_text ts))
any_from ts (us ∷ any) = ap (λ (x : List ℕ). all_text ts ++ (32 ∷ 124 ∷ 124 ∷ 32 ∷ x)) (any_from us any)

-- what a loop wrote once it is behind the last item
behind_last : {A : Type 0} (more : List A → List ℕ) (others : List A) (k : ℕ) (out pushed start first : List ℕ) → more [] ≡ [] → length others ≤ k → pushed ≡ start ++ first
    → out ++ more (drop k others) ≡ pushed ++ more others → out ≡ start ++ (first ++ more others)
behind_last {A = A} more others k out pushed start first none le p h =
    sym (append-nil out) ∙ ap (λ (x : List ℕ). out ++ x) (sym none) ∙ ap (λ (x : List A). out ++ more x) (sym (drop_all k others le)) ∙ h
    ∙ ap (λ (x : List ℕ). x ++ more others) p ∙ append_assoc start first (more others)

pub wrote_all : (tests others : List Test) (t : Test) (k : ℕ) (out pushed start : List ℕ) → tests ≡ t ∷ others → length others ≤ k → pushed ≡ start ++ test_text t
    → out ++ more_all (drop k others) ≡ pushed ++ more_all others → out ≡ start ++ all_text tests
wrote_all tests others t k out pushed start e le p h =
    behind_last more_all others k out pushed start (test_text t) refl le p h ∙ ap (λ (x : List ℕ). start ++ x) (sym (ap all_text e ∙ all_from t others))

pub wrote_any : (any others : List (List Test)) (ts : List Test) (k : ℕ) (out pushed start : List ℕ) → any ≡ ts ∷ others → length others ≤ k → pushed ≡ start ++ all_text ts
    → out ++ more_any (drop k others) ≡ pushed ++ more_any others → out ≡ start ++ any_text any
wrote_any any others ts k out pushed start e le p h =
    behind_last more_any others k out pushed start (all_text ts) refl le p h ∙ ap (λ (x : List ℕ). start ++ x) (sym (ap any_text e ∙ any_from ts others))
