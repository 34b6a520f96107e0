use Rattle.std.proofs.Common.{◌≡◌, []}
use Rattle.eip_dump.specs.Reading.{properties_from}
use Rattle.eip_dump.proofs.message_reader.properties_from.Given as goal

abbrev pub invariant-loop-left : goal.invariant-loop-left
invariant-loop-left l = properties_from l.left l.properties l.rest ≡ properties_from l.count [] l.bytes

abbrev pub decreases-loop-left : goal.decreases-loop-left
decreases-loop-left l = l.left
