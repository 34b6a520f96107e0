use Rattle.eip_route_file.proofs.Filed.{no_sole_key}
use Rattle.eip_route_file.proofs.later.one_key.Goals as goal

pub returns-in-len2-up : goal.returns-in-len2-up
returns-in-len2-up c = no_sole_key c.args.members.now c.in-len2-up.len_at_least
