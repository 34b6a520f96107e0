use Rattle.eip_owners.proofs.Owned.{lanes-grew}
use Rattle.eip_owners.proofs.laws.lanes_law.Goals as goal

pub returns : goal.returns
returns c = lanes-grew
