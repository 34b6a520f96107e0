use Rattle.std.proofs.Common.{◌≡◌, length}
use Rattle.eip_pattern_tests.proofs.tables.queues.started.Given as goal

abbrev pub invariant-loop-time : goal.invariant-loop-time
invariant-loop-time l = length l.queues ≡ length l.fn.queues
