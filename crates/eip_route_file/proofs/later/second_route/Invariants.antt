use Rattle.std.proofs.Common.{◌≡◌, take, drop, []}
use Rattle.eip_route_file.specs.Later.{second_route}
use Rattle.eip_route_file.proofs.later.second_route.Given as goal

abbrev pub invariant-loop-k : goal.invariant-loop-k
invariant-loop-k l = second_route [] l.heads ≡ second_route (take l.k l.heads) (drop l.k l.heads)
