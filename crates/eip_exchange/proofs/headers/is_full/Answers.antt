use Rattle.std.proofs.Common.{sym, ◌∙◌}
use Rattle.std.proofs.lemmas.Bool.{lt-leb}
use Rattle.eip_exchange.proofs.Counts.{few-counted}
use Rattle.eip_exchange.proofs.headers.is_full.Goals as goal

pub returns-else-len-ge-LIMIT : goal.returns-else-len-ge-LIMIT
returns-else-len-ge-LIMIT c = lt-leb 64 c.len.result c.if-len-ge-LIMIT.false ∙ sym (few-counted c.args.pairs.now c.len.result c.len.ensures c.if-len-ge-LIMIT.false)
