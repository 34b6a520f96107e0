use Rattle.std.proofs.Common.{◌≡◌, drop}
use Rattle.eip_route.specs.Faults.{is_consumed}
use Rattle.eip_route.proofs.fault.is_consumed.Given as goal

abbrev pub invariant-loop-route : goal.invariant-loop-route
invariant-loop-route l = is_consumed l.from l.routes ≡ is_consumed l.from (drop l.route-index l.routes)
