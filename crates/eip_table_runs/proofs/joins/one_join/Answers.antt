use Rattle.std.proofs.Common.{[]}
use Rattle.eip_table_runs.proofs.Helps.{begun}
use Rattle.eip_table_runs.proofs.joins.one_join.Goals as goal

pub returns : goal.returns
returns c = begun c.begin.new.self c.args.first c.args.count (c.in_ok-begin.ensures.ok [] c.new-joins.ensures)
