use Rattle.std.proofs.Common.{◌≡◌, drop}
use Rattle.eip_route.specs.Faults.{bad_from}
use Rattle.eip_route.proofs.nesting.bad_in_blocks.Given as goal

abbrev pub invariant-loop-k : goal.invariant-loop-k
invariant-loop-k l = bad_from l.blocks 0 l.blocks ≡ bad_from l.blocks l.k (drop l.k l.blocks)
