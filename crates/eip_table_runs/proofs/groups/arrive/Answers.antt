use Rattle.std.proofs.Common.{◌+◌}
use Rattle.std.proofs.lemmas.Result.{IfOk-weaker}
use Rattle.eip_table_runs.specs.Arriving.{AreOf}
use Rattle.eip_table_runs.proofs.Helps.{may_come, one_came}
use Rattle.eip_table_runs.proofs.groups.arrive.Goals as goal

pub arrive-requires : goal.arrive-requires
arrive-requires c = may_come c.args.setting.now c.args.most c.args.groups.now c.requires.few c.requires.of

pub returns : goal.returns
returns c = IfOk-weaker c.arrive.result _ (λ _. AreOf c.args.setting.now (c.args.most + 1) c.arrive.new.self)
    (λ _ came. one_came c.args.setting.now c.args.most c.args.groups.now c.arrive.new.self _ _ c.requires.of came)
    c.arrive.ensures.ok
