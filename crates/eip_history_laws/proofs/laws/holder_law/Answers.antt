use Rattle.eip_history.proofs.Keys.{one-eager-holder}
use Rattle.eip_history_laws.proofs.laws.holder_law.Goals as goal

pub returns : goal.returns
returns c = one-eager-holder
