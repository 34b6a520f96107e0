use Rattle.std.proofs.Common.{◌≡◌, ◌+◌, ◌++◌, length}
use Rattle.std.specs.Vec.Iter.{into_iter_items, into_iter_len}
use Rattle.eip_splitter.specs.Batches as spec
use Rattle.eip_splitter.proofs.batch.placed.Given as goal

abbrev pub invariant-loop-message : goal.invariant-loop-message
invariant-loop-message l = record {
  so_far : l.parts.items ++ spec.placed_from l.size (length l.parts.items) (into_iter_items l.message-iterator) ≡ spec.placed_from l.size 0 l.fn.messages.items;
  left : length (into_iter_items l.message-iterator) ≡ into_iter_len l.message-iterator;
  room : length l.parts.items + length (into_iter_items l.message-iterator) ≡ l.size;
}
