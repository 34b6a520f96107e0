use Rattle.eip_owners.proofs.Owned.{owned-calls}
use Rattle.eip_owners.proofs.laws.owned_calls_law.Goals as goal

pub returns : goal.returns
returns c = owned-calls
