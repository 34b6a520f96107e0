use Rattle.eip_history_laws.proofs.Gathered.{groups-fold}
use Rattle.eip_history_laws.proofs.laws.folding_law.Goals as goal

pub returns : goal.returns
returns c = groups-fold
