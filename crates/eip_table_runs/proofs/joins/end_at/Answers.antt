use Rattle.eip_table_runs.proofs.Helps.{last_open, one_fewer}
use Rattle.eip_table_runs.proofs.joins.end_at.Goals as goal

pub part_ended-requires : goal.part_ended-requires
part_ended-requires c = last_open c.args.joins.now c.args.first c.args.count c.args.index c.requires.within c.requires.left

pub returns : goal.returns
returns c = one_fewer c.args.joins.now c.part_ended.new.self c.args.first c.args.count c.args.index c.in_ok-ended.ended c.requires.left c.part_ended.ensures
