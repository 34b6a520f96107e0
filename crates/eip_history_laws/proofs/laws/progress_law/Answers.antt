use Rattle.eip_history.proofs.Main.{turns-or-falls}
use Rattle.eip_history_laws.proofs.laws.progress_law.Goals as goal

pub returns : goal.returns
returns c = turns-or-falls
