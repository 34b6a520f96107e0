use Rattle.eip_dealt.proofs.Owning.{own-inlet}
use Rattle.eip_dealt.proofs.laws.own_inlet_law.Goals as goal

pub returns : goal.returns
returns g c = own-inlet
