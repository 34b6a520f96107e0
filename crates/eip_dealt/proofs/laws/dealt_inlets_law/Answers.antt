use Rattle.eip_dealt.proofs.Inlets.{dealt-inlets}
use Rattle.eip_dealt.proofs.laws.dealt_inlets_law.Goals as goal

pub returns : goal.returns
returns g c = dealt-inlets
