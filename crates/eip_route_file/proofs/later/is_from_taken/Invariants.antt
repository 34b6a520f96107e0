use Rattle.std.proofs.Common.{◌≡◌, drop}
use Rattle.eip_route_file.specs.Later.{is_from_taken}
use Rattle.eip_route_file.proofs.later.is_from_taken.Given as goal

abbrev pub invariant-loop-other : goal.invariant-loop-other
invariant-loop-other l = is_from_taken l.head l.before ≡ is_from_taken l.head (drop l.other-index l.before)
