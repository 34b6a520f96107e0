use Rattle.eip_owners.proofs.Owned.{owned-sources}
use Rattle.eip_owners.proofs.laws.sources_law.Goals as goal

pub returns : goal.returns
returns c = owned-sources
