-- Lists of steps that are not empty.
use Rattle.std.proofs.Common.{◌≡◌, ◌≤◌, true, List, [], ◌∷◌, length, refl, arith}
use Rattle.eip_text.specs.Json.{items_json}
use Rattle.eip_text.specs.declared.tree.Tree.{Tree}
use Rattle.eip_route_values.specs.Nesting.{nest_steps}
use Rattle.eip_route_values.specs.Sets.{is_filled}

pub has_steps : (ts : List Tree) → 1 ≤ length ts → true ≡ is_filled (nest_steps (items_json ts))
has_steps [] h = absurd (omega arith)
has_steps (t ∷ ts) h = refl
