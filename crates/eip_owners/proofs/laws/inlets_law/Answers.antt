use Rattle.eip_owners.proofs.Owned.{inlets-grew}
use Rattle.eip_owners.proofs.laws.inlets_law.Goals as goal

pub returns : goal.returns
returns c = inlets-grew
