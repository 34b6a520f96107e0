-- Lists by how many items they have.
use Rattle.std.proofs.Common.{◌≡◌, ◌≤◌, false, List, [], ◌∷◌, length, refl, arith}
use Rattle.eip_text.specs.Json.{items_json}
use Rattle.eip_text.specs.declared.tree.Tree.{Tree}
use Rattle.eip_route_faults.specs.Sites.{has_none}

pub has_some : (ts : List Tree) → 1 ≤ length ts → false ≡ has_none (items_json ts)
has_some [] h = absurd (omega arith)
has_some (t ∷ ts) h = refl
