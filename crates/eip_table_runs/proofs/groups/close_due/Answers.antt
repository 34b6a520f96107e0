use Rattle.std.proofs.lemmas.Result.{IfOk-weaker}
use Rattle.std.proofs.Common.{◌+◌}
use Rattle.eip_table_runs.specs.Arriving.{AreOf}
use Rattle.eip_table_runs.proofs.Helps.{one_ticked}
use Rattle.eip_table_runs.proofs.groups.close_due.Goals as goal

pub returns : goal.returns
returns c = IfOk-weaker c.close_due.result _ (λ _. AreOf c.args._setting.now (c.args._most + 1) c.close_due.new.self)
    (λ _ closed. one_ticked c.args._setting.now c.args._most c.args.tick c.args.groups.now c.close_due.new.self c.requires closed)
    c.close_due.ensures.ok
