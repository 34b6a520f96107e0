use Rattle.std.proofs.Common.{arith}
use Rattle.eip_exchange.specs.Headers.{same_name}
use Rattle.eip_exchange.proofs.Places.{IsDistinct-none}
use Rattle.eip_exchange.proofs.headers.Headers.new.Goals as goal

pub invariant_of-result : goal.invariant_of-result
invariant_of-result c = rw c.new.ensures (IsDistinct-none same_name, omega arith)
