use Rattle.std.proofs.Common.{◌≡◌, []}
use Rattle.eip_dump.specs.Reading.{parts_from}
use Rattle.eip_dump.proofs.message_reader.parts_from.Given as goal

abbrev pub invariant-loop-left : goal.invariant-loop-left
invariant-loop-left l = parts_from l.left l.parts.items l.rest ≡ parts_from l.count [] l.bytes

abbrev pub decreases-loop-left : goal.decreases-loop-left
decreases-loop-left l = l.left
