use Rattle.eip_history.proofs.Keys.{key-answered}
use Rattle.eip_history_laws.proofs.laws.key_law.Goals as goal

pub returns : goal.returns
returns c = key-answered
