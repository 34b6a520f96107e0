use Rattle.eip_owners.proofs.Parts.{commits-told}
use Rattle.eip_owners.proofs.laws.commits_law.Goals as goal

pub returns : goal.returns
returns c = commits-told
