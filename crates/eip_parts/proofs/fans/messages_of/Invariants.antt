use Rattle.std.proofs.Common.{◌≡◌, ◌++◌, length}
use Rattle.std.specs.Vec.Iter.{into_iter_items, into_iter_len}
use Rattle.eip_meaning.specs.Parts.{messages_of}
use Rattle.eip_parts.proofs.fans.messages_of.Given as goal

abbrev pub invariant-loop-part : goal.invariant-loop-part
invariant-loop-part l = record {
  so_far : l.messages.items ++ messages_of (into_iter_items l.part-iterator) ≡ messages_of l.fn.parts.items;
  left : length (into_iter_items l.part-iterator) ≡ into_iter_len l.part-iterator;
}
