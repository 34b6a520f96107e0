use Rattle.std.proofs.Common.{◌≡◌, drop, take, []}
use Rattle.eip_route.specs.Faults.{second_consumer}
use Rattle.eip_route.proofs.fault.second_consumer.Given as goal

abbrev pub invariant-loop-k : goal.invariant-loop-k
invariant-loop-k l = second_consumer [] 0 l.routes ≡ second_consumer (take l.k l.routes) l.k (drop l.k l.routes)
