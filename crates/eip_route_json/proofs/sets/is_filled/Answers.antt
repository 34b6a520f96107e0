use Rattle.eip_route_json.proofs.Filled.{has_steps}
use Rattle.eip_route_json.proofs.sets.is_filled.Goals as goal

pub returns-in-len1-up-clause-filled : goal.returns-in-len1-up-clause-filled
returns-in-len1-up-clause-filled c = has_steps c.args.items.now c.in-len1-up.len_at_least
