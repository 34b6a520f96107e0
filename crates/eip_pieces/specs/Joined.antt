-- Pieces put together again.
use Rattle.std.specs.Prelude.{ℕ, List, [], ◌∷◌, ◌++◌}

-- the pieces with the token between them
abbrev pub joined : List ℕ → List (List ℕ) → List ℕ
joined token [] = []
joined token (p ∷ []) = p
joined token (p ∷ q ∷ ps) = p ++ (token ++ joined token (q ∷ ps))
