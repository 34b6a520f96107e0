use Rattle.eip_table_runs.proofs.Helps.{pair_open, pair_fewer}
use Rattle.eip_table_runs.proofs.joins.end_of_pair.Goals as goal

pub part_ended-requires : goal.part_ended-requires
part_ended-requires c = pair_open c.args.joins.now c.args.count c.args.index c.requires.within c.requires.left

pub returns : goal.returns
returns c = pair_fewer c.args.joins.now c.part_ended.new.self c.args.count c.args.index c.in_ok-ended.ended c.requires.left c.part_ended.ensures
