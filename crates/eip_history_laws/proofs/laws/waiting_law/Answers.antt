use Rattle.eip_history.proofs.Main.{somebody-acts}
use Rattle.eip_history_laws.proofs.laws.waiting_law.Goals as goal

pub returns : goal.returns
returns c = somebody-acts
