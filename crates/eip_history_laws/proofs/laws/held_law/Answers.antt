use Rattle.eip_history.proofs.Keys.{holds-on}
use Rattle.eip_history_laws.proofs.laws.held_law.Goals as goal

pub returns : goal.returns
returns c = holds-on
