use Rattle.eip_owners.proofs.Answers.{part-grows}
use Rattle.eip_owners.proofs.laws.part_grows_law.Goals as goal

pub returns : goal.returns
returns c = part-grows
