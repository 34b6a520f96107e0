use Rattle.eip_owners.proofs.Owned.{owned-commits}
use Rattle.eip_owners.proofs.laws.owned_commits_law.Goals as goal

pub returns : goal.returns
returns c = owned-commits
