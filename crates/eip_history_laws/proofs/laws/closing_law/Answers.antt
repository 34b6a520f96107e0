use Rattle.eip_history_laws.proofs.Gathered.{closed-groups-run}
use Rattle.eip_history_laws.proofs.laws.closing_law.Goals as goal

pub returns : goal.returns
returns c = closed-groups-run
