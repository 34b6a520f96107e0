use Rattle.eip_owners.proofs.Owned.{puller}
use Rattle.eip_owners.proofs.laws.pullers_law.Goals as goal

pub returns : goal.returns
returns c = puller
