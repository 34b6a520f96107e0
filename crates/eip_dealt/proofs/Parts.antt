-- What a worker's own part of an owned journal was done on.
use Rattle.std.proofs.Common.{◌≡◌, ℕ, ◌+◌, ◌%◌, ◌==◌, Bool, true, false, cond, List, [], ◌∷◌, refl, arith}
use Rattle.std.specs.Prelude.{All, filter}
use Rattle.std.proofs.lemmas.Bool.{eqb-true}
use Rattle.std.proofs.lemmas.List.Elements.{All-head, All-tail, All-nil, All-cons}
use Rattle.eip_history.specs.Owner.{owner}

-- where what is done on the door with index e, for each e, is done by its owner, what worker k + 1 did was done on doors of share k
pub mine : {A : Type 0} (worker : A → ℕ) (on : ℕ → A → Bool) (n k : ℕ) (xs : List A)
    → ((e : ℕ) → All (λ x. on e x ≡ true → worker x ≡ owner n e) xs)
    → All (λ x. (e : ℕ) → on e x ≡ true → e % n ≡ k) (filter (λ x. worker x == k + 1) xs)
mine worker on n k [] all = All-nil (λ x. (e : ℕ) → on e x ≡ true → e % n ≡ k)
mine {A = A} worker on n k (x ∷ xs) all =
    by_worker (worker x == k + 1) refl (mine worker on n k xs (λ e. All-tail (λ y. on e y ≡ true → worker y ≡ owner n e) x xs (all e)))
  where
    Mine : A → Type 0
    Mine y = (e : ℕ) → on e y ≡ true → e % n ≡ k

    by_worker : (b : Bool) → (worker x == k + 1) ≡ b → All Mine (filter (λ y. worker y == k + 1) xs)
        → All Mine (cond b (x ∷ filter (λ y. worker y == k + 1) xs) (filter (λ y. worker y == k + 1) xs))
    by_worker true t ih =
        All-cons Mine x (filter (λ y. worker y == k + 1) xs)
        (λ e h. let his : worker x ≡ e % n + 1 = All-head (λ y. on e y ≡ true → worker y ≡ owner n e) x xs (all e) h in
        let is : worker x ≡ k + 1 = eqb-true (worker x) (k + 1) t in
        omega (arith, his, is)) ih
    by_worker false t ih = ih
