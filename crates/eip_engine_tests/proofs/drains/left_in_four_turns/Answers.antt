use Rattle.eip_engine_tests.proofs.Rows.{logging-runs}
use Rattle.eip_engine_tests.proofs.drains.left_in_four_turns.Goals as goal

pub drained-stop-requires-clause-can_run : goal.drained-stop-requires-clause-can_run
drained-stop-requires-clause-can_run c = rw (c.in_ok-hub.ensures.set, c.in_ok-logging.ensures) logging-runs
