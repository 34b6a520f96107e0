use Rattle.eip_history.proofs.Final.{ended-keeps}
use Rattle.eip_history_laws.proofs.laws.ending_law.Goals as goal

pub returns : goal.returns
returns c = ended-keeps
