use Rattle.eip_dealt.proofs.Owning.{own-lane}
use Rattle.eip_dealt.proofs.laws.own_lane_law.Goals as goal

pub returns : goal.returns
returns g c = own-lane
