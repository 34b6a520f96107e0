use Rattle.eip_core.proofs.Turns.{none-out}
use Rattle.eip_engine_tests.proofs.drains.stop_of.Goals as goal

pub drain_alone-requires-clause-home : goal.drain_alone-requires-clause-home
drain_alone-requires-clause-home c = none-out c.args.hub.now c.requires.past
