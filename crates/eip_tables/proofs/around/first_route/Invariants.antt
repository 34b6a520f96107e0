use Rattle.std.proofs.Common.{◌≡◌, eqb, drop}
use Rattle.std.specs.List.{position, position_from}
use Rattle.eip_route.specs.declared.route.Route.{Route}
use Rattle.eip_tables.proofs.around.first_route.Given as goal

abbrev pub invariant-loop-at : goal.invariant-loop-at
invariant-loop-at l = position (λ (r : Route). eqb r.block l.block) l.routes ≡ position_from (λ (r : Route). eqb r.block l.block) l.at (drop l.at l.routes)
