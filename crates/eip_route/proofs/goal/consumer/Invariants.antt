use Rattle.std.proofs.Common.{◌≡◌, drop}
use Rattle.eip_route.specs.Goals.{consumer}
use Rattle.eip_route.proofs.goal.consumer.Given as goal

abbrev pub invariant-loop-route : goal.invariant-loop-route
invariant-loop-route l = consumer l.uri 0 l.routes ≡ consumer l.uri l.index (drop l.route-index l.routes)
