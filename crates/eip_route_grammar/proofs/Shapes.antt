-- Objects by how many keys they have.
use Rattle.std.proofs.Common.{ℕ, ◌≡◌, ◌≤◌, List, [], ◌∷◌, length, Some, refl, arith}
use Rattle.eip_text.specs.Json.{members_json}
use Rattle.eip_text.specs.declared.tree.Tree.{Tree}
use Rattle.eip_route_grammar.specs.Objects.{one_key, keys_of}
use Rattle.eip_route_grammar.specs.declared.table.Row.{Row}
use Rattle.eip_route_grammar.specs.declared.fault.Cause.{Cause}
use Rattle.eip_route_grammar.specs.declared.fault.Cause.TheVariants as cause

pub not_one : (rs : List Row) (unknown : List ℕ → Cause) (ms : List (List ℕ × Tree)) → 2 ≤ length ms → Some cause.NotOneKey ≡ one_key rs unknown (keys_of (members_json ms))
not_one rs unknown [] h = refl
not_one rs unknown (m ∷ []) h = absurd (omega arith)
not_one rs unknown (m ∷ o ∷ ms) h = refl
