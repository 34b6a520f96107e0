use Rattle.std.proofs.Common.{◌≡◌, drop, take, []}
use Rattle.eip_route.specs.Faults.{double_id}
use Rattle.eip_route.proofs.fault.double_id.Given as goal

abbrev pub invariant-loop-k : goal.invariant-loop-k
invariant-loop-k l = double_id [] 0 l.routes ≡ double_id (take l.k l.routes) l.k (drop l.k l.routes)
