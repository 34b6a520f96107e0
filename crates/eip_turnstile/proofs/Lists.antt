-- Sums over the views, the entries of one number, and what is told of a list that grows.
use Rattle.std.proofs.Common.{◌≡◌, ◌≢◌, ℕ, zero, suc, ◌+◌, ◌<◌, ◌≤◌, List, [], ◌∷◌, ◌++◌, length, set, Bool, true, false, cond, eqb, eq-eqb, ne_eqb, sym, refl, ap, ◌∙◌, subst, ⊎_elim, arith, append_assoc, append-nil, length-append}
use mathlib.Core.Option.{some, some-injective, some-ne-none}
use lib.ListN.{get_elem?}
use Rattle.atomic_table.proofs.Lists.{at_set}
use Rattle.eip_turnstile.specs.Rule.{entries_by, StartsWith, AllBy, AllBelow, Told, times, total}

module _ {A : Type 0} where
  -- what holds of all other places, and of the new one
  pub all_set : (P : ℕ → A → Type 0) (l : List A) (i : ℕ) (w : A) → P i w → ((j : ℕ) (u : A) → j ≢ i → get_elem? l j ≡ some u → P j u) → (j : ℕ) (u : A) → get_elem? (set l i w) j ≡ some u → P j u
  all_set P l i w mine others j u e = ⊎_elim (λ (t : (j ≡ i) × (w ≡ u)). subst (λ (x : ℕ × A). P x.0 x.1) (λ k. (sym t.0 k, t.1 k)) mine)
      (λ (t : (j ≢ i) × (get_elem? l j ≡ some u)). others j u t.0 t.1) (at_set l i j w u e)

  module _ (g : A → ℕ) where
    pub total-append : (l m : List A) → total g (l ++ m) ≡ total g l + total g m
    total-append [] m = omega arith
    total-append (x ∷ xs) m = omega (arith, total-append xs m)

    pub total-set : (l : List A) (j : ℕ) (v w : A) → get_elem? l j ≡ some v → total g (set l j w) + g v ≡ total g l + g w
    total-set [] j v w e = absurd (some-ne-none v (sym e))
    total-set (x ∷ xs) zero v w e = omega (arith, ap g (some-injective x v e))
    total-set (x ∷ xs) (suc j) v w e = omega (arith, total-set xs j v w e)

    pub term_le : (l : List A) (j : ℕ) (v : A) → get_elem? l j ≡ some v → g v ≤ total g l
    term_le [] j v e = absurd (some-ne-none v (sym e))
    term_le (x ∷ xs) zero v e = omega (arith, ap g (some-injective x v e))
    term_le (x ∷ xs) (suc j) v e = omega (arith, term_le xs j v e)

    pub terms_le : (l : List A) (j k : ℕ) (v u : A) → k ≢ j → get_elem? l j ≡ some v → get_elem? l k ≡ some u → g v + g u ≤ total g l
    terms_le [] j k v u n e d = absurd (some-ne-none v (sym e))
    terms_le (x ∷ xs) zero zero v u n e d = absurd (n refl)
    terms_le (x ∷ xs) zero (suc k) v u n e d = omega (arith, ap g (some-injective x v e), term_le xs k u d)
    terms_le (x ∷ xs) (suc j) zero v u n e d = omega (arith, ap g (some-injective x u d), term_le xs j v e)
    terms_le (x ∷ xs) (suc j) (suc k) v u n e d = omega (arith, terms_le xs j k v u (λ h. n (ap suc h)) e d)

    pub total-none : (l : List A) → ((k : ℕ) (u : A) → get_elem? l k ≡ some u → g u ≡ 0) → total g l ≡ 0
    total-none [] none = refl
    total-none (x ∷ xs) none = omega (arith, none 0 x refl, total-none xs (λ k u e. none (suc k) u e))

    pub total-one : (l : List A) (j : ℕ) (v : A) → get_elem? l j ≡ some v → ((k : ℕ) (u : A) → k ≢ j → get_elem? l k ≡ some u → g u ≡ 0) → total g l ≡ g v
    total-one [] j v e none = absurd (some-ne-none v (sym e))
    total-one (x ∷ xs) zero v e none = omega (arith, ap g (some-injective x v e), total-none xs (λ k u d. none (suc k) u (λ h. omega arith) d))
    total-one (x ∷ xs) (suc j) v e none = omega (arith, none 0 x (λ h. omega arith) refl, total-one xs j v e (λ k u n d. none (suc k) u (λ h. n (omega arith)) d))

  pub times-append : (n : ℕ) (xs ys : List (ℕ × A)) → times n (xs ++ ys) ≡ times n xs + times n ys
  times-append n [] ys = omega arith
  times-append n (x ∷ xs) ys = omega (arith, times-append n xs ys)

  pub times-same : (n : ℕ) (a : A) (xs : List (ℕ × A)) → times n ((n, a) ∷ xs) ≡ 1 + times n xs
  times-same n a xs = ap (λ b. cond b 1 0 + times n xs) (eq-eqb n n refl)

  pub times-other : (n m : ℕ) (a : A) (xs : List (ℕ × A)) → m ≢ n → times n ((m, a) ∷ xs) ≡ times n xs
  times-other n m a xs ne = ap (λ b. cond b 1 0 + times n xs) (ne_eqb m n ne) ∙ omega arith

  pub times-tail : (n : ℕ) (x : ℕ × A) (xs : List (ℕ × A)) → times n (x ∷ xs) ≡ 0 → times n xs ≡ 0
  times-tail n x xs e = omega (arith, e)

  pub times-apart : (n : ℕ) (x : ℕ × A) (xs : List (ℕ × A)) → times n (x ∷ xs) ≡ 0 → n ≢ x.0
  times-apart n x xs none e = let one : cond {A = ℕ} (eqb x.0 n) 1 0 ≡ 1 = ap (λ b. cond {A = ℕ} b 1 0) (eq-eqb x.0 n (sym e)) in let all : cond {A = ℕ} (eqb x.0 n) 1 0 + times n xs ≡ 0 = none in omega arith

module _ {E : Type 0} where
  by_one : (x : E) (a c l : List E) → l ≡ a ++ c → (b : Bool) → cond b (x ∷ l) l ≡ cond b (x ∷ a) a ++ c
  by_one x a c l e true = ap (λ z. x ∷ z) e
  by_one x a c l e false = e

  pub by-append : (n : ℕ) (xs ys : List (ℕ × E)) → entries_by n (xs ++ ys) ≡ entries_by n xs ++ entries_by n ys
  by-append n [] ys = refl
  by-append n (x ∷ xs) ys = by_one x.1 (entries_by n xs) (entries_by n ys) (entries_by n (xs ++ ys)) (by-append n xs ys) (eqb x.0 n)

  -- entries of another number add nothing
  pub by-other : (n m : ℕ) (xs : List (ℕ × E)) → m ≢ n → AllBy m xs → entries_by n xs ≡ []
  by-other n m [] ne all = refl
  by-other n m (x ∷ xs) ne all = ap (λ b. cond b (x.1 ∷ entries_by n xs) (entries_by n xs)) (ne_eqb x.0 n (λ e. ne (sym all.0 ∙ e))) ∙ by-other n m xs ne all.1

  pub by-below : (n m : ℕ) (xs : List (ℕ × E)) → m ≤ n → AllBelow m xs → entries_by n xs ≡ []
  by-below n m [] le all = refl
  by-below n m (x ∷ xs) le all = let lt = all.0 in ap (λ b. cond b (x.1 ∷ entries_by n xs) (entries_by n xs)) (ne_eqb x.0 n (λ e. omega arith)) ∙ by-below n m xs le all.1

  pub below-append : (n : ℕ) (xs ys : List (ℕ × E)) → AllBelow n xs → AllBelow n ys → AllBelow n (xs ++ ys)
  below-append n [] ys a b = b
  below-append n (x ∷ xs) ys a b = (a.0, below-append n xs ys a.1 b)

  pub below-by : (n m : ℕ) (xs : List (ℕ × E)) → m < n → AllBy m xs → AllBelow n xs
  below-by n m [] lt all = tt
  below-by n m (x ∷ xs) lt all = let e = all.0 in (omega arith, below-by n m xs lt all.1)

  pub below-more : (n m : ℕ) (xs : List (ℕ × E)) → n ≤ m → AllBelow n xs → AllBelow m xs
  below-more n m [] le all = tt
  below-more n m (x ∷ xs) le all = let lt = all.0 in (omega arith, below-more n m xs le all.1)

  pub told-append : (log : List (ℕ × E)) (xs ys : List (ℕ × List E)) → Told log xs → Told log ys → Told log (xs ++ ys)
  told-append log [] ys a b = b
  told-append log (x ∷ xs) ys a b = (a.0, told-append log xs ys a.1 b)

  -- new entries of a number that isn't among these change nothing
  pub told-longer : (m : ℕ) (log more : List (ℕ × E)) (xs : List (ℕ × List E)) → AllBy m more → times m xs ≡ 0 → Told log xs → Told (log ++ more) xs
  told-longer m log more [] all none told = tt
  told-longer m log more (x ∷ xs) all none told = (by-append x.0 log more ∙ (ap (λ l. entries_by x.0 log ++ l) (by-other x.0 m more (times-apart m x xs none) all) ∙ append-nil (entries_by x.0 log)) ∙ told.0, told-longer m log more xs all (times-tail m x xs none) told.1)

  pub starts-append : (log more seen : List (ℕ × E)) → StartsWith log seen → StartsWith (log ++ more) seen
  starts-append log more seen s = (s.0 ++ more, ap (λ l. l ++ more) s.1 ∙ append_assoc seen s.0 more)

  pub starts-length : (log seen : List (ℕ × E)) → StartsWith log seen → length seen ≤ length log
  starts-length log seen s = omega (arith, ap length s.1, length-append seen s.0)
