use Rattle.eip_strategy.proofs.Undone.{group_some}
use Rattle.eip_strategy.proofs.adding.undo_of.Goals as goal

pub front_len-requires : goal.front_len-requires
front_len-requires c = group_some c.args.strategy.now c.args.body.now c.in-Grouped.is c.requires
