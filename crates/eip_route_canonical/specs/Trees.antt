-- Trees as the JSON data that they are.
use Rattle.std.specs.Prelude.{ℕ, List, [], ◌∷◌}
use Rattle.eip_text.specs.Json.{Json, json}
use Rattle.eip_text.specs.declared.tree.Tree.{Tree}
use Rattle.eip_route_canonical.specs.declared.groups.Groups.{Groups}
use Rattle.eip_route_canonical.specs.declared.object.Object.{Object}

abbrev pub pairs_of : List (List ℕ × Tree) → List (List ℕ × Json)
pairs_of [] = []
pairs_of (m ∷ ms) = (m.0, json m.1) ∷ pairs_of ms

abbrev pub values_of : List Tree → List Json
values_of [] = []
values_of (t ∷ ts) = json t ∷ values_of ts

-- the members so far
abbrev pub made : Object → List (List ℕ × Json)
made o = pairs_of o.members.items

abbrev pub groups_of : List (List Tree) → List (List Json)
groups_of [] = []
groups_of (ts ∷ gs) = values_of ts ∷ groups_of gs

-- the printed steps of the groups that are left
abbrev pub left : Groups → List (List Json)
left g = groups_of g.groups.items
