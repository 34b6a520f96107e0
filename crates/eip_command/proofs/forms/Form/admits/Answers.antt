use Rattle.std.proofs.Common.{sym, ◌∙◌, arith}
use Rattle.eip_command.proofs.Pairs.{wanting}
use Rattle.eip_command.proofs.forms.Form.admits.Goals as goal

pub returns-in_default : goal.returns-in_default
returns-in_default c =
    sym (c.loop-rule.invariant ∙ wanting c.args.self.now.operands.now _ c.loop-rule.rule-index c.loop-rule.rest.now (omega (arith, c.loop-rule-test.true)) c.in_default.len_below)
