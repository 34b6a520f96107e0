use Rattle.eip_history.proofs.Owned.{owner-within}
use Rattle.eip_history_laws.proofs.laws.owner_law.Goals as goal

pub returns : goal.returns
returns c = owner-within
