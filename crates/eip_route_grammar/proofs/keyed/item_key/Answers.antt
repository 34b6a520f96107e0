use Rattle.std.proofs.Common.{ℕ, List}
use Rattle.eip_route_grammar.specs.Table.{rows}
use Rattle.eip_route_grammar.specs.declared.fault.Cause.TheVariants as cause
use Rattle.eip_route_grammar.proofs.Shapes.{not_one}
use Rattle.eip_route_grammar.proofs.keyed.item_key.Goals as goal

pub returns-in-len2-up : goal.returns-in-len2-up
returns-in-len2-up c = not_one (rows c.args.kind) (λ (k : List ℕ). cause.UnknownKey k) c.args.members.now c.in-len2-up.len_at_least
