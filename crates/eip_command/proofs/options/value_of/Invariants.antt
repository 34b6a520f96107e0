use Rattle.std.proofs.Common.{◌≡◌, length}
use Rattle.eip_command.specs.Forms.{value_of}
use Rattle.eip_command.proofs.options.value_of.Given as goal

abbrev pub invariant-loop-rest : goal.invariant-loop-rest
invariant-loop-rest l = value_of l.option l.words ≡ value_of l.option l.rest

abbrev pub decreases-loop-rest : goal.decreases-loop-rest
decreases-loop-rest l = length l.rest
