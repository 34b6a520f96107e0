use Rattle.eip_resequence.proofs.Again.{unpacked_again, only_packed}
use Rattle.eip_resequence.proofs.laws.packing_law.Goals as goal

pub returns-clause-again : goal.returns-clause-again
returns-clause-again c = unpacked_again

pub returns-clause-only : goal.returns-clause-only
returns-clause-only c = only_packed
