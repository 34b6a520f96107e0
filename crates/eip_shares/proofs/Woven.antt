-- Lists that go with the shares of a list are the shares of one that goes with it.
use Rattle.std.proofs.Common.{◌≡◌, ℕ, ◌+◌, ◌<◌, ◌%◌, ◌==◌, Bool, true, false, cond, List, [], ◌∷◌, refl, sym, ap, subst, ◌∙◌, arith}
use Rattle.std.specs.List.{AllZip}
use Rattle.std.proofs.lemmas.Bool.{eq-eqb, eqb-true}
use Rattle.eip_shares.specs.Shares.{share, indexed, Goes, GoWith}

module _ {A B : Type 0} (R : ℕ → A → B → Type 0) where
  nothing : (ys : List B) → AllZip (Goes R) [] ys → ys ≡ []
  nothing [] h = refl
  nothing (y ∷ ys) h = absurd h

  -- one of the items, and what goes with it
  one : (p : ℕ × A) (ps : List (ℕ × A)) (ys : List B) → AllZip (Goes R) (p ∷ ps) ys → (y : B) × (rest : List B) × (ys ≡ y ∷ rest) × R p.0 p.1 y × AllZip (Goes R) ps rest
  one p ps [] h = absurd h
  one p ps (y ∷ ys) h = (y, ys, refl, h.0, h.1)

  pub weave : (n e : ℕ) (xs : List A) (lists : ℕ → List B) → 0 < n → ((k : ℕ) → k < n → GoWith R (share n k e (indexed e xs)) (lists k))
      → (ys : List B) × ((k : ℕ) → k < n → lists k ≡ share n k e ys) × GoWith R (indexed e xs) ys
  weave n e [] lists some go = ([], λ k h. nothing (lists k) (go k h), tt)
  weave n e (x ∷ xs) lists some go =
      let turn : e % n < n = omega arith in
      let mine = one (e, x) (share n (e % n) (e + 1) (indexed (e + 1) xs)) (lists (e % n))
      (subst (λ b. GoWith R (cond b ((e, x) ∷ share n (e % n) (e + 1) (indexed (e + 1) xs)) (share n (e % n) (e + 1) (indexed (e + 1) xs))) (lists (e % n)))
      (eq-eqb (e % n) (e % n) refl) (go (e % n) turn)) in
      let left : ℕ → List B = λ k. cond (e % n == k) mine.1 (lists k) in
      let rest = weave n (e + 1) xs left some (λ k h. after mine.1 mine.4 k h) in
      (mine.0 ∷ rest.0, λ k h. whole mine.0 mine.1 mine.2 rest.0 k h (rest.1 k h), (mine.3, rest.2))
    where
      after : (back : List B) → GoWith R (share n (e % n) (e + 1) (indexed (e + 1) xs)) back → (k : ℕ) → k < n
          → GoWith R (share n k (e + 1) (indexed (e + 1) xs)) (cond (e % n == k) back (lists k))
      after back goes k h = by_test (e % n == k) refl (go k h)
        where
          by_test : (b : Bool) → (e % n == k) ≡ b → GoWith R (cond b ((e, x) ∷ share n k (e + 1) (indexed (e + 1) xs)) (share n k (e + 1) (indexed (e + 1) xs))) (lists k)
              → GoWith R (share n k (e + 1) (indexed (e + 1) xs)) (cond b back (lists k))
          by_test true t g = subst (λ j. GoWith R (share n j (e + 1) (indexed (e + 1) xs)) back) (eqb-true (e % n) k t) goes
          by_test false t g = g

      whole : (y : B) (back : List B) → lists (e % n) ≡ y ∷ back → (ys : List B) (k : ℕ) → k < n → cond (e % n == k) back (lists k) ≡ share n k (e + 1) ys
          → lists k ≡ cond (e % n == k) (y ∷ share n k (e + 1) ys) (share n k (e + 1) ys)
      whole y back cut ys k h is = by_test (e % n == k) refl is
        where
          by_test : (b : Bool) → (e % n == k) ≡ b → cond b back (lists k) ≡ share n k (e + 1) ys
              → lists k ≡ cond b (y ∷ share n k (e + 1) ys) (share n k (e + 1) ys)
          by_test true t g = ap lists (sym (eqb-true (e % n) k t)) ∙ (cut ∙ ap (λ zs. y ∷ zs) g)
          by_test false t g = g
