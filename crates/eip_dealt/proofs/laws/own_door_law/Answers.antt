use Rattle.eip_dealt.proofs.Places.{own-door}
use Rattle.eip_dealt.proofs.laws.own_door_law.Goals as goal

pub returns : goal.returns
returns g c = own-door
