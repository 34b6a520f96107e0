use Rattle.std.proofs.Common.{◌≡◌, length}
use Rattle.std.specs.Vec.Iter.{into_iter_items, into_iter_len}
use Rattle.eip_splitter.specs.Batches as spec
use Rattle.eip_splitter.proofs.Behind.{behind}
use Rattle.eip_splitter.proofs.batch.messages_of.Given as goal

abbrev pub invariant-loop-packed : goal.invariant-loop-packed
invariant-loop-packed l = record {
  so_far : behind l.messages.items (spec.messages_of (into_iter_items l.packed-iterator)) ≡ spec.messages_of l.fn.list.items;
  left : length (into_iter_items l.packed-iterator) ≡ into_iter_len l.packed-iterator;
}
