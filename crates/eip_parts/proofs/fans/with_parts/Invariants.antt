use Rattle.std.proofs.Common.{◌≡◌, ◌++◌, length}
use Rattle.std.specs.Vec.Iter.{into_iter_items, into_iter_len}
use Rattle.eip_parts.proofs.fans.with_parts.Given as goal

abbrev pub invariant-loop-part : goal.invariant-loop-part
invariant-loop-part l = record {
  so_far : l.all.items ++ into_iter_items l.part-iterator ≡ l.fn.ended.items ++ l.fn.parts.items;
  left : length (into_iter_items l.part-iterator) ≡ into_iter_len l.part-iterator;
}
