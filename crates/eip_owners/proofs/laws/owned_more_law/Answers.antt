use Rattle.eip_owners.proofs.Owned.{owned-append}
use Rattle.eip_owners.proofs.laws.owned_more_law.Goals as goal

pub returns : goal.returns
returns c = owned-append
