use Rattle.std.proofs.Common.{◌≡◌, map, take}
use Rattle.eip_tables.specs.Rows.{first_row}
use Rattle.eip_audit.proofs.sources.first_states.Given as goal

abbrev pub invariant-loop-route : goal.invariant-loop-route
invariant-loop-route l = l.states.items ≡ map first_row (take l.route-index l.route-items)
