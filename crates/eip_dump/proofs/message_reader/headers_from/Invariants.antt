use Rattle.std.proofs.Common.{◌≡◌, []}
use Rattle.eip_dump.specs.Reading.{headers_from}
use Rattle.eip_dump.proofs.message_reader.headers_from.Given as goal

abbrev pub invariant-loop-left : goal.invariant-loop-left
invariant-loop-left l = headers_from l.left l.headers l.rest ≡ headers_from l.count [] l.bytes

abbrev pub decreases-loop-left : goal.decreases-loop-left
decreases-loop-left l = l.left
