-- A text cut at each place of another, from the left.
use Rattle.std.specs.Prelude.{◌≡◌, Some, None, List, [], ◌∷◌, ◌++◌, ℕ, length}
use Rattle.memchr.specs.Find.{FindsNeedle}

-- the text is front, then by at its first place, then rest
pub record CutAt (text by front rest : List ℕ) : Type 0 where
  pub whole : text ≡ front ++ (by ++ rest)
  pub first : FindsNeedle text by 0 (Some (length front))

-- the pieces of a text, one more than it has cuts
abbrev pub Pieces : List ℕ → List ℕ → List (List ℕ) → Type 0
Pieces text by [] = ⊥
Pieces text by (p ∷ []) = (p ≡ text) × FindsNeedle text by 0 None
Pieces text by (p ∷ q ∷ ps) = (rest : List ℕ) × (CutAt text by p rest × Pieces rest by (q ∷ ps))
