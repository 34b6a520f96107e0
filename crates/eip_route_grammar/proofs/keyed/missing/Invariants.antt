use Rattle.std.proofs.Common.{◌≡◌, drop}
use Rattle.eip_route_grammar.specs.Objects.{missing}
use Rattle.eip_route_grammar.specs.Table.{rows}
use Rattle.eip_route_grammar.proofs.keyed.missing.Given as goal

abbrev pub invariant-loop-row : goal.invariant-loop-row
invariant-loop-row l = missing l.seen (rows l.fn.kind) ≡ missing l.seen (drop l.row-index l.row-items)
