-- Values in a row, each under a key.
use Rattle.std.specs.Prelude.{ℕ, zero, suc, ◌≡◌, bytes_eq, cond, true, false, List, [], ◌∷◌, Option, Some, None, map}

-- keys with their values
abbrev pub Keyed : Type 0 → Type 0
Keyed V = List (List ℕ × V)

-- the keys, in their order
abbrev pub keys_of : {V : Type 0} → Keyed V → List (List ℕ)
keys_of es = map (λ e. e.0) es

-- the value of the first entry with a key, or none
abbrev pub found : {V : Type 0} → List ℕ → Keyed V → Option V
found key [] = None
found key (e ∷ es) = cond (bytes_eq e.0 key) (Some e.1) (found key es)

-- the first entry with a key stands at this index, from 0
abbrev pub StandsAt : {V : Type 0} → List ℕ → ℕ → Keyed V → Type 0
StandsAt key k [] = ⊥
StandsAt key zero (e ∷ es) = bytes_eq e.0 key ≡ true
StandsAt key (suc k) (e ∷ es) = (bytes_eq e.0 key ≡ false) × StandsAt key k es
