use Rattle.eip_history.proofs.Totals.{totals-add-up}
use Rattle.eip_history_laws.proofs.laws.totals_law.Goals as goal

pub returns : goal.returns
returns c = totals-add-up
