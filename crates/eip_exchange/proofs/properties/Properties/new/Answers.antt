use Rattle.std.specs.Prelude.{bytes_eq}
use Rattle.eip_exchange.proofs.Places.{IsDistinct-none}
use Rattle.eip_exchange.proofs.properties.Properties.new.Goals as goal

pub invariant_of-result : goal.invariant_of-result
invariant_of-result c = rw c.new.ensures (IsDistinct-none bytes_eq)
