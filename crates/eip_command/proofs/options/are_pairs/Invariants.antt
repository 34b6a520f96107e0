use Rattle.std.proofs.Common.{◌≡◌, length, map}
use Rattle.eip_command.specs.Forms.{are_pairs, option_seen}
use Rattle.eip_command.proofs.options.are_pairs.Given as goal

abbrev pub invariant-loop-rest : goal.invariant-loop-rest
invariant-loop-rest l = are_pairs (map option_seen l.options) l.words ≡ are_pairs (map option_seen l.options) l.rest

abbrev pub decreases-loop-rest : goal.decreases-loop-rest
decreases-loop-rest l = length l.rest
