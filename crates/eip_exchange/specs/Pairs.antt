-- Lists of named values in order of first setting: headers and properties.
use Rattle.std.specs.Prelude.{ℕ, Bool, List, [], ◌∷◌, Option, Some, None, map, bytes_eq, cond}

-- a list of names with their values
abbrev pub Pairs : Type 0
Pairs = List (List ℕ × List ℕ)

-- the names, in order
abbrev pub names : Pairs → List (List ℕ)
names ps = map (λ p. p.0) ps

-- the value of a name, or none
abbrev pub value_of : (List ℕ → List ℕ → Bool) → List ℕ → Pairs → Option (List ℕ)
value_of same name [] = None
value_of same name (p ∷ ps) = cond (same name p.0) (Some p.1) (value_of same name ps)

-- a value set under a name: one that is there keeps its place and spelling, a new one goes last
abbrev pub put : (List ℕ → List ℕ → Bool) → List ℕ → List ℕ → Pairs → Pairs
put same name value [] = (name, value) ∷ []
put same name value (p ∷ ps) = cond (same name p.0) ((p.0, value) ∷ ps) (p ∷ put same name value ps)

-- the pairs of other names, in their order
abbrev pub without : (List ℕ → List ℕ → Bool) → List ℕ → Pairs → Pairs
without same name [] = []
without same name (p ∷ ps) = cond (same name p.0) (without same name ps) (p ∷ without same name ps)

-- the value of a property, by its exact bytes
abbrev pub get_property : List ℕ → Pairs → Option (List ℕ)
get_property name ps = value_of bytes_eq name ps

-- the properties with one set, by its exact bytes
abbrev pub put_property : List ℕ → List ℕ → Pairs → Pairs
put_property name value ps = put bytes_eq name value ps

-- the properties without one, by its exact bytes
abbrev pub without_property : List ℕ → Pairs → Pairs
without_property name ps = without bytes_eq name ps
