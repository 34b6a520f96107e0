use Rattle.std.proofs.Common.{◌≡◌, ◌++◌, length, map}
use Rattle.std.specs.Vec.Iter.{into_iter_items, into_iter_len}
use Rattle.eip_splitter.specs.Batches as spec
use Rattle.eip_splitter.proofs.keys.with_keys.Given as goal

abbrev pub invariant-loop-packed : goal.invariant-loop-packed
invariant-loop-packed l = record {
  so_far : l.arrivals.items ++ map (spec.with_key l.key) (into_iter_items l.packed-iterator) ≡ map (spec.with_key l.key) l.fn.list.items;
  left : length (into_iter_items l.packed-iterator) ≡ into_iter_len l.packed-iterator;
}
