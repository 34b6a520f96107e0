use Rattle.eip_owners.proofs.Parts.{calls-part}
use Rattle.eip_owners.proofs.laws.calls_law.Goals as goal

pub returns : goal.returns
returns c = calls-part
