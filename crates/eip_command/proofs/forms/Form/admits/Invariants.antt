use Rattle.std.proofs.Common.{◌≡◌, drop, map}
use Rattle.eip_command.specs.Forms.{follow, option_seen}
use Rattle.eip_command.proofs.forms.Form.admits.Given as goal

abbrev pub invariant-loop-rule : goal.invariant-loop-rule
invariant-loop-rule l =
    follow l.self.operands.now (map option_seen l.self.options.now) l.words
    ≡ follow (drop l.rule-index l.rule-items) (map option_seen l.self.options.now) l.rest
