use Rattle.std.proofs.Common.{◌≡◌, length}
use Rattle.eip_pattern_tests.proofs.tables.queues.offered.Given as goal

abbrev pub invariant-loop-number : goal.invariant-loop-number
invariant-loop-number l = length l.queues ≡ length l.fn.queues
