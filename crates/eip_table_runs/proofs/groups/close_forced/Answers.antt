use Rattle.std.proofs.lemmas.Result.{IfOk-weaker}
use Rattle.std.proofs.Common.{◌+◌}
use Rattle.eip_table_runs.specs.Arriving.{AreOf}
use Rattle.eip_table_runs.proofs.Helps.{one_forced}
use Rattle.eip_table_runs.proofs.groups.close_forced.Goals as goal

pub returns : goal.returns
returns c = IfOk-weaker c.close_forced.result _ (λ _. AreOf c.args._setting.now (c.args._most + 1) c.close_forced.new.self)
    (λ _ closed. one_forced c.args._setting.now c.args._most c.args.groups.now c.close_forced.new.self c.requires closed)
    c.close_forced.ensures.ok
