use Rattle.eip_engine_tests.proofs.Rows.{circling-runs}
use Rattle.eip_engine_tests.proofs.drains.left_in_fifty_turns.Goals as goal

pub drained-stop-requires-clause-can_run : goal.drained-stop-requires-clause-can_run
drained-stop-requires-clause-can_run c = rw (c.in_ok-hub.ensures.set, c.in_ok-circling.ensures) circling-runs
