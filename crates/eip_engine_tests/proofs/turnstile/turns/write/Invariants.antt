use Rattle.eip_engine_tests.specs.Turns.{Stays}
use Rattle.eip_engine_tests.proofs.turnstile.turns.write.Given as goal

abbrev pub invariant-loop-entry : goal.invariant-loop-entry
invariant-loop-entry g l = Stays l.fn.seat l.seat
