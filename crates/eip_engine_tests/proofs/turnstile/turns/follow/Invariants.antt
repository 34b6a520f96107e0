use Rattle.eip_engine_tests.specs.Turns.{Stays}
use Rattle.eip_engine_tests.proofs.turnstile.turns.follow.Given as goal

abbrev pub invariant-loop : goal.invariant-loop
invariant-loop g l =
    (goal.iterator-loop g).can_next l.iterator' × (goal.iterator-loop g).is_finite l.iterator' × Stays l.fn.seat l.seat
