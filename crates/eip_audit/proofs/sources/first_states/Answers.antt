use Rattle.std.proofs.Common.{◌≡◌, map, arith}
use Rattle.std.proofs.lemmas.Grind.{common_steps}
use Rattle.eip_tables.specs.Rows.{first_row}
use Rattle.eip_tables.proofs.FirstSources.{first-stand}
use Rattle.eip_audit.proofs.sources.first_states.Goals as goal

pub returns : goal.returns
returns c =
    let all : c.loop-route.states.items ≡ map first_row c.args.set.now.routes = grind (arith, common_steps, c.loop-route.invariant, c.items-route-items.ensures) in
    rw all (first-stand c.args.set.now)
