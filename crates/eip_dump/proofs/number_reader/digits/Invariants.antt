use Rattle.std.proofs.Common.{◌≡◌, length}
use Rattle.eip_dump.specs.Reading.{digits_behind}
use Rattle.eip_dump.proofs.number_reader.digits.Given as goal

abbrev pub invariant-loop-digit : goal.invariant-loop-digit
invariant-loop-digit l = digits_behind l.value l.rest ≡ digits_behind 0 l.bytes

abbrev pub decreases-loop-digit : goal.decreases-loop-digit
decreases-loop-digit l = length l.rest
