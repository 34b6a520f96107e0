-- Pairs by their places in a list, from 0.
use Rattle.std.specs.Prelude.{ℕ, zero, suc, Bool, List, [], ◌∷◌, ◌++◌, Option, Some, None, slice_get}
use Rattle.std.specs.List.{position, remove}
use Rattle.std.specs.Option.{option_map}
use Rattle.eip_exchange.specs.Pairs.{Pairs}

-- the first place of a name, or none
abbrev pub place_of : (List ℕ → List ℕ → Bool) → List ℕ → Pairs → Option ℕ
place_of same name ps = position (λ p. same name p.0) ps

-- the value at a place, or none
abbrev pub value_at : Option ℕ → Pairs → Option (List ℕ)
value_at None ps = None
value_at (Some k) ps = option_map (λ p. p.1) (slice_get ps k)

-- the pairs, of which that at this place has another value
abbrev pub with_value : ℕ → List ℕ → Pairs → Pairs
with_value k value [] = []
with_value zero value (p ∷ ps) = (p.0, value) ∷ ps
with_value (suc k) value (p ∷ ps) = p ∷ with_value k value ps

-- a value set at the place of its name, or last where it has none
abbrev pub put_at : Option ℕ → List ℕ → List ℕ → Pairs → Pairs
put_at None name value ps = ps ++ (name, value) ∷ []
put_at (Some k) name value ps = with_value k value ps

-- the pairs without that at a place
abbrev pub without_at : Option ℕ → Pairs → Pairs
without_at None ps = ps
without_at (Some k) ps = remove ps k
