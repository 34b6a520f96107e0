-- Headers and properties, pair by pair.
use Rattle.std.proofs.Common.{◌≡◌, ℕ, zero, suc, ◌+◌, List, [], ◌∷◌, ◌++◌, drop, Some, None, refl, sym, ap, ◌∙◌, append_assoc, append-nil, add-one}
use Rattle.std.specs.Prelude.{slice_get}

-- the rest begins with the element at its place
rest_from : {X : Type 0} (xs : List X) (k : ℕ) (x : X) → slice_get xs k ≡ Some x → drop k xs ≡ x ∷ drop (suc k) xs
rest_from [] k x e = absurd (cc)
rest_from (y ∷ ys) zero x e = let same : y ≡ x = cc in ap (λ z. z ∷ ys) same
rest_from (y ∷ ys) (suc k) x e = rest_from ys k x e

-- one more element is taken
pub taken_more : {X : Type 0} (done more xs : List X) (k n : ℕ) (x y : X) → done ++ drop k xs ≡ xs → Some y ≡ slice_get xs k → more ≡ done ++ x ∷ [] → x ≡ y → n ≡ k + 1
    → more ++ drop n xs ≡ xs
taken_more done more xs k n x y so_far here e same m =
    let rest = rest_from xs k y (sym here) in
    ap (λ l. l ++ drop n xs) e ∙ append_assoc done (x ∷ []) (drop n xs)
    ∙ ap (λ z. done ++ z ∷ drop n xs) same
    ∙ ap (λ j. done ++ y ∷ drop j xs) (m ∙ add-one k)
    ∙ ap (λ l. done ++ l) (sym rest) ∙ so_far

past : {X : Type 0} (xs : List X) (k : ℕ) → slice_get xs k ≡ None → drop k xs ≡ []
past [] zero e = refl
past [] (suc k) e = refl
past (y ∷ ys) zero e = absurd (cc)
past (y ∷ ys) (suc k) e = past ys k e

-- all are taken
pub taken_all : {X : Type 0} (done xs : List X) (k : ℕ) → done ++ drop k xs ≡ xs → None ≡ slice_get xs k → done ≡ xs
taken_all done xs k so_far here = sym (append-nil done) ∙ ap (λ l. done ++ l) (sym (past xs k (sym here))) ∙ so_far
