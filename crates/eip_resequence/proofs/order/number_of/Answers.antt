use Rattle.eip_text.proofs.WholeNumbers.{whole_is}
use Rattle.eip_resequence.proofs.order.number_of.Goals as goal

pub returns : goal.returns
returns c = whole_is c.args.bytes.now c.read_i64.result c.read_i64.ensures
