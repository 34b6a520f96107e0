use Rattle.eip_history_laws.proofs.Gathered.{groups-within}
use Rattle.eip_history_laws.proofs.laws.size_law.Goals as goal

pub returns : goal.returns
returns c = groups-within
