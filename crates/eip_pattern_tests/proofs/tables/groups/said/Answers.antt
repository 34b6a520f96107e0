use Rattle.eip_table_runs.proofs.Helps.{none_more}
use Rattle.eip_pattern_tests.proofs.tables.groups.said.Goals as goal

pub returns-in_ok-due_said-in-Due : goal.returns-in_ok-due_said-in-Due
returns-in_ok-due_said-in-Due c = none_more c.args.setting.now c.args.most c.args.groups.now c.requires.of

pub returns-in_ok-shown-in-Behind : goal.returns-in_ok-shown-in-Behind
returns-in_ok-shown-in-Behind c = none_more c.args.setting.now c.args.most c.args.groups.now c.requires.of

pub returns-in_ok-count_said-in-Count : goal.returns-in_ok-count_said-in-Count
returns-in_ok-count_said-in-Count c = none_more c.args.setting.now c.args.most c.args.groups.now c.requires.of
