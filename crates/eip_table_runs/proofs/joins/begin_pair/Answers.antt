use Rattle.std.proofs.Common.{◌+◌}
use Rattle.std.proofs.lemmas.Result.{IfOk-weaker}
use Rattle.eip_table_runs.specs.Backwards.{AreBegun}
use Rattle.eip_table_runs.proofs.Helps.{pair_free, pair_new, pair_begun}
use Rattle.eip_table_runs.proofs.joins.begin_pair.Goals as goal

pub begin-requires-clause-free : goal.begin-requires-clause-free
begin-requires-clause-free c = pair_free c.args.before c.args.joins.now c.requires.begun

pub begin-requires-clause-apart : goal.begin-requires-clause-apart
begin-requires-clause-apart c = pair_new c.args.before c.args.joins.now c.requires.begun

pub returns : goal.returns
returns c = IfOk-weaker c.begin.result _ (λ _. AreBegun (c.args.before + 1) c.begin.new.self)
    (λ _ began. pair_begun c.args.before c.args.joins.now c.begin.new.self c.requires.begun began)
    c.begin.ensures.ok
