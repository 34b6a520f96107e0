-- Which numbers below a bound pass a test.
use Rattle.std.proofs.Common.{◌≡◌, ◌≢◌, ℕ, zero, suc, ◌<◌, ◌==◌, Bool, true, false, List, [], ◌∷◌, ◌++◌, Some, refl, ap, ◌∙◌, arith, cond, ◌⊎◌, inl, inr, eq-eqb}
use Rattle.std.proofs.lemmas.Bool.{cases_Bool, eqb-true}
use Rattle.eip_history.specs.Own.{numbers_below}
use Rattle.eip_history.specs.Rules.{first}

-- none, where none passes
pub none-below : (p : ℕ → Bool) (n : ℕ) → ((u : ℕ) → u < n → p u ≡ false) → numbers_below p n ≡ []
none-below p zero h = refl
none-below p (suc n) h = rw (h n (omega arith), none-below p n (λ u l. h u (omega (arith, l)))) refl

first-front : (xs ys : List ℕ) (t : ℕ) → first xs ≡ Some t → first (xs ++ ys) ≡ Some t
first-front [] ys t h = absurd (cc h)
first-front (x ∷ xs) ys t h = h

-- the first number that passes a test
pub first-below : (p : ℕ → Bool) (n t : ℕ) → t < n → p t ≡ true → ((u : ℕ) → u < t → p u ≡ false) → first (numbers_below p n) ≡ Some t
first-below p zero t l h none = absurd (omega (arith, l))
first-below p (suc n) t l h none = by_last (cases_Bool (n == t)) (λ m. first-below p n t m h none)
  where
    by_last : ((n == t) ≡ true) ⊎ ((n == t) ≡ false) → (t < n → first (numbers_below p n) ≡ Some t) → first (numbers_below p (suc n)) ≡ Some t
    by_last (inl e) below =
        let same : n ≡ t = eqb-true n t e in
        let at : p n ≡ true = ap p same ∙ h in
        rw (at, none-below p n (λ u m. none u (omega (arith, m, same)))) (ap Some same)
    by_last (inr f) below =
        let ne : n ≢ t = λ g. let k = eq-eqb n t g in cc in
        first-front (numbers_below p n) (cond (p n) (n ∷ []) []) t (below (omega (arith, l, ne)))
