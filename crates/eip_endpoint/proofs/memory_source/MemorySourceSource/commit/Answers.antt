use Rattle.std.proofs.Common.{ap, Some}
use Rattle.eip_uri.specs.Printed.{printed}
use Rattle.eip_endpoint.proofs.Answering.{commits-told}
use Rattle.eip_endpoint.proofs.memory_source.MemorySourceSource.commit.Goals as goal

pub returns-clause-commits : goal.returns-clause-commits
returns-clause-commits c = λ u. ap Some
    (commits-told c.args.self.now (printed c.args.from.now) c.in-Ok.uri c.args.item.now c.in-Ok-copy.item c.args.end.now c.in-Ok-copy-2.end
    c.note.result c.note.new.self c.in-Ok.ensures c.in-Ok-copy.ensures c.in-Ok-copy-2.ensures c.note.ensures.told u)
