use Rattle.eip_owners.proofs.Home.{home-owners}
use Rattle.eip_owners.proofs.laws.home_law.Goals as goal

pub returns : goal.returns
returns c = home-owners
