use Rattle.eip_dealt.proofs.Lanes.{dealt-lanes}
use Rattle.eip_dealt.proofs.laws.dealt_lanes_law.Goals as goal

pub returns : goal.returns
returns g c = dealt-lanes
