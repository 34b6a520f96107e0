-- List relations that tables and births share.
use Rattle.std.specs.Prelude.{ℕ, Bool, true, false, ◌≡◌, ◌+◌, ◌==◌, not, nat_lt, List, [], ◌∷◌, filter, if◌then◌else◌}
use Rattle.eip_exchange.specs.declared.birth.Birth.{Birth}

-- two lists of one length whose elements are related in order
abbrev pub Related : {A B : Type 0} → (A → B → Type 0) → List A → List B → Type 0
Related R [] [] = Unit {0}
Related R [] (y ∷ ys) = ⊥
Related R (x ∷ xs) [] = ⊥
Related R (x ∷ xs) (y ∷ ys) = R x y × Related R xs ys

-- the births have the numbers from n on
abbrev pub AreNumberedFrom : ℕ → List Birth → Type 0
AreNumberedFrom n [] = Unit {0}
AreNumberedFrom n (b ∷ bs) = (b.number ≡ n) × AreNumberedFrom (n + 1) bs

-- 1 for true
abbrev pub bit : Bool → ℕ
bit true = 1
bit false = 0

-- the numbers without one
abbrev pub without : ℕ → List ℕ → List ℕ
without x xs = filter (λ y. not (y == x)) xs

-- a number put in its place among rising numbers
abbrev pub put_in : ℕ → List ℕ → List ℕ
put_in x [] = x ∷ []
put_in x (y ∷ ys) = if nat_lt x y then x ∷ (y ∷ ys) else y ∷ put_in x ys
