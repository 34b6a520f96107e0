use Rattle.std.proofs.Common.{◌≡◌, map, drop}
use Rattle.eip_command.specs.Forms.{rule_of, option_seen}
use Rattle.eip_command.proofs.options.rule_of.Given as goal

abbrev pub invariant-loop-option : goal.invariant-loop-option
invariant-loop-option l = rule_of (map option_seen l.options) l.word ≡ rule_of (map option_seen (drop l.option-index l.options)) l.word
