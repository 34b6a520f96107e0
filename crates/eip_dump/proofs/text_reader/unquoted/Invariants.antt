use Rattle.std.proofs.Common.{length}
use Rattle.eip_dump.specs.Reading.{unquoted}
use Rattle.eip_dump.proofs.Steps.{Going}
use Rattle.eip_dump.proofs.text_reader.unquoted.Given as goal

abbrev pub invariant-loop-byte : goal.invariant-loop-byte
invariant-loop-byte l = Going l.out.items l.rest (unquoted (length l.bytes) l.bytes)

abbrev pub decreases-loop-byte : goal.decreases-loop-byte
decreases-loop-byte l = length l.rest
