use Rattle.eip_route_faults.proofs.Lists.{has_some}
use Rattle.eip_route_faults.proofs.walk.has_none.Goals as goal

pub returns-in-len1-up : goal.returns-in-len1-up
returns-in-len1-up c = has_some c.args.items.now c.in-len1-up.len_at_least
