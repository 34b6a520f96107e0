use Rattle.std.specs.Prelude.{eqb}
use Rattle.std.proofs.lemmas.Iterator.Adapters.{position_from-zero}
use Rattle.eip_route.specs.declared.route.Route.{Route}
use Rattle.eip_tables.proofs.around.first_route.Goals as goal

pub loop-at-init : goal.loop-at-init
loop-at-init c = position_from-zero (λ (r : Route). eqb r.block c.args.block) c.args.routes.now
