use Rattle.eip_owners.proofs.Answers.{answers-parts}
use Rattle.eip_owners.proofs.laws.answers_law.Goals as goal

pub returns : goal.returns
returns c = answers-parts
