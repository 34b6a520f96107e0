use Rattle.eip_owners.proofs.Hands.{pull-stays}
use Rattle.eip_owners.proofs.laws.pull_law.Goals as goal

pub returns : goal.returns
returns c = pull-stays
