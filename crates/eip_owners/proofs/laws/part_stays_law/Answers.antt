use Rattle.eip_owners.proofs.Answers.{part-stays}
use Rattle.eip_owners.proofs.laws.part_stays_law.Goals as goal

pub returns : goal.returns
returns c = part-stays
