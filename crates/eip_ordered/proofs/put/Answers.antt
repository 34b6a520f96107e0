use Rattle.std.proofs.Common.{Some}
use Rattle.eip_ordered.proofs.Lookups.{puts}
use Rattle.eip_ordered.proofs.put.Goals as goal

pub returns-clause-ok : goal.returns-clause-ok
returns-clause-ok g c = puts c.args.map.now c.insert.new.self c.args.number (Some c.args.value) c.in_ok-insert.ensures.updates.0
