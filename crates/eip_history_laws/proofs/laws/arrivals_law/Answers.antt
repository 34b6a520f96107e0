use Rattle.eip_history_laws.proofs.Arrivals.{each-once}
use Rattle.eip_history_laws.proofs.laws.arrivals_law.Goals as goal

pub returns : goal.returns
returns c = each-once
