use Rattle.eip_owners.proofs.Hands.{hand-stays}
use Rattle.eip_owners.proofs.laws.hand_law.Goals as goal

pub returns : goal.returns
returns c = hand-stays
