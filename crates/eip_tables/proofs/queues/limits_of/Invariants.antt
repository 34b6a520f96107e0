use Rattle.std.proofs.Common.{◌≡◌, map, take}
use Rattle.eip_route.specs.declared.route.Route.{Route}
use Rattle.eip_plan.specs.Plan.{queue_rule}
use Rattle.eip_tables.specs.Queues.{limit_of}
use Rattle.eip_tables.proofs.queues.limits_of.Given as goal

abbrev pub invariant-loop-route : goal.invariant-loop-route
invariant-loop-route l = l.found.items ≡ map (λ (r : Route). limit_of (queue_rule r.from)) (take l.route-index l.route-items)
