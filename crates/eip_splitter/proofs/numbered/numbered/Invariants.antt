use Rattle.std.proofs.Common.{◌≡◌, ◌+◌, ◌++◌, length}
use Rattle.std.specs.Vec.Iter.{into_iter_items, into_iter_len}
use Rattle.eip_splitter.specs.Parts as spec
use Rattle.eip_splitter.proofs.numbered.numbered.Given as goal

abbrev pub invariant-loop-body : goal.invariant-loop-body
invariant-loop-body l = record {
  so_far : l.parts.items ++ spec.parts_from l.message l.size (length l.parts.items) (into_iter_items l.body-iterator) ≡ spec.parts_from l.message l.size 0 l.fn.bodies.items;
  left : length (into_iter_items l.body-iterator) ≡ into_iter_len l.body-iterator;
  room : length l.parts.items + length (into_iter_items l.body-iterator) ≡ l.size;
}
