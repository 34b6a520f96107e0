use Rattle.eip_route_file.proofs.Filed.{no_head}
use Rattle.eip_route_file.proofs.head.head_in.Goals as goal

pub returns-in-len2-up : goal.returns-in-len2-up
returns-in-len2-up c = no_head c.args.index c.args.position c.args.members.now c.in-len2-up.len_at_least
