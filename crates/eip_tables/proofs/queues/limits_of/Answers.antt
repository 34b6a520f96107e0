use Rattle.std.proofs.Common.{◌≡◌, arith}
use Rattle.std.proofs.lemmas.Grind.{common_steps}
use Rattle.eip_tables.specs.Queues.{limits}
use Rattle.eip_tables.proofs.queues.limits_of.Goals as goal

pub returns : goal.returns
returns c =
    let all : c.loop-route.found.items ≡ limits c.args.set.now = grind (arith, common_steps, c.loop-route.invariant, c.items-route-items.ensures) in
    all
