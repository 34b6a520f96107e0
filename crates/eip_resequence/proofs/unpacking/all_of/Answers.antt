use Rattle.std.proofs.Common.{arith}
use Rattle.eip_resequence.proofs.Parsing.{all_done}
use Rattle.eip_resequence.proofs.unpacking.all_of.Goals as goal

pub returns : goal.returns
returns c = all_done c.args.items.now c.loop-item.item-index c.loop-item.list.items _ (omega arith) c.loop-item.invariant.some
