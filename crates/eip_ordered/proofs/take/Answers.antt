use Rattle.std.proofs.Common.{None}
use Rattle.eip_ordered.proofs.Lookups.{puts}
use Rattle.eip_ordered.proofs.take.Goals as goal

pub returns-clause-rest : goal.returns-clause-rest
returns-clause-rest g c = puts c.args.map.now c.remove.new.self c.args.number None c.remove.ensures.updates.0
