use Rattle.eip_route_print.proofs.Numbered.{back_set}
use Rattle.eip_route_print.proofs.laws.numbering_law.Goals as goal

pub returns : goal.returns
returns c = back_set
