use Rattle.eip_owners.proofs.Owned.{owned-whole}
use Rattle.eip_owners.proofs.laws.parts_law.Goals as goal

pub returns : goal.returns
returns c = owned-whole
