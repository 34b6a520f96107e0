use Rattle.std.proofs.Common.{◌≡◌, drop}
use Rattle.eip_route.specs.Faults.{is_id}
use Rattle.eip_route.proofs.fault.is_id.Given as goal

abbrev pub invariant-loop-route : goal.invariant-loop-route
invariant-loop-route l = is_id l.id l.routes ≡ is_id l.id (drop l.route-index l.routes)
