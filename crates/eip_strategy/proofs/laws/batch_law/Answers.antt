use Rattle.eip_strategy.proofs.Packed.{batch_begins, batch_grows}
use Rattle.eip_strategy.proofs.laws.batch_law.Goals as goal

pub returns-clause-begins : goal.returns-clause-begins
returns-clause-begins c = batch_begins

pub returns-clause-grows : goal.returns-clause-grows
returns-clause-grows c = batch_grows
