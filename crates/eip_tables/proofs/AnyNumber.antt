-- Whether some number of a list is this one.
use Rattle.std.proofs.Common.{◌≡◌, Bool, true, false, ◌||◌, List, [], ◌∷◌, ◌++◌, refl}
use Rattle.std.specs.List.{list_any}

pub any_both : {X : Type 0} (test : X → Bool) (xs ys : List X) → list_any test (xs ++ ys) ≡ (list_any test xs || list_any test ys)
any_both test [] ys = refl
any_both test (x ∷ xs) ys =
    let ih = any_both test xs ys in
    elim (test x) as (λ v. (v || list_any test (xs ++ ys)) ≡ ((v || list_any test xs) || list_any test ys)) [ true ↦ refl | false ↦ ih ]

pub any_one : {X : Type 0} (test : X → Bool) (x : X) → list_any test (x ∷ []) ≡ test x
any_one test x = elim (test x) as (λ v. (v || false) ≡ v) [ true ↦ refl | false ↦ refl ]
