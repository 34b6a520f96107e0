-- What a key writes into a hash.
use Rattle.std.specs.Prelude.{ℕ, List, [], ◌∷◌}

-- one write for each byte
abbrev pub writes : List ℕ → List (List ℕ)
writes [] = []
writes (b ∷ bs) = (b ∷ []) ∷ writes bs
