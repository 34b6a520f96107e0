use Rattle.eip_table_runs.proofs.Helps.{none_came}
use Rattle.eip_table_runs.proofs.groups.no_groups.Goals as goal

pub returns : goal.returns
returns c = none_came c.args._setting.now c.new.result c.new.ensures
