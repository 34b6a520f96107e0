-- What each of several gets of a list that is dealt out in turn, and what goes with it.
use Rattle.std.specs.Prelude.{ℕ, ◌+◌, ◌%◌, ◌==◌, cond, List, [], ◌∷◌}
use Rattle.std.specs.List.{AllZip}

-- of a list whose first item has index e, the items whose index modulo n is k
abbrev pub share : {A : Type 0} → (n k e : ℕ) → List A → List A
share n k e [] = []
share n k e (x ∷ xs) = cond (e % n == k) (x ∷ share n k (e + 1) xs) (share n k (e + 1) xs)

-- the items of a list whose first has index e, each with its index
abbrev pub indexed : {A : Type 0} → ℕ → List A → List (ℕ × A)
indexed e [] = []
indexed e (x ∷ xs) = (e, x) ∷ indexed (e + 1) xs

-- what R says of an item with an index, and of another
abbrev pub Goes : {A B : Type 0} → (ℕ → A → B → Type 0) → ℕ × A → B → Type 0
Goes R p y = R p.0 p.1 y

-- items one by one, each as R says of the one beside it and its index
abbrev pub GoWith : {A B : Type 0} → (ℕ → A → B → Type 0) → List (ℕ × A) → List B → Type 0
GoWith R ps ys = AllZip (Goes R) ps ys
