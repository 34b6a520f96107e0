use Rattle.std.proofs.Common.{◌≡◌, drop}
use Rattle.eip_route_grammar.specs.Table.{row_for, rows}
use Rattle.eip_route_grammar.proofs.table.Kind.row.Given as goal

abbrev pub invariant-loop-row : goal.invariant-loop-row
invariant-loop-row l = row_for l.text (rows l.fn.self) ≡ row_for l.text (drop l.row-index l.row-items)
