use Rattle.std.proofs.Common.{◌≡◌, ◌++◌, [], length}
use Rattle.std.specs.Prelude.{bytes_eq}
use Rattle.std.specs.Vec.Iter.{into_iter_items, into_iter_len}
use Rattle.eip_splitter.specs.Batches.{are_new}
use Rattle.eip_splitter.proofs.held.properties_of.Given as goal

abbrev pub invariant-loop-name : goal.invariant-loop-name
invariant-loop-name l = record {
  all : l.properties ++ into_iter_items l.name-iterator ≡ l.fn.pairs.items;
  new : are_new bytes_eq l.properties (into_iter_items l.name-iterator) ≡ are_new bytes_eq [] l.fn.pairs.items;
  left : length (into_iter_items l.name-iterator) ≡ into_iter_len l.name-iterator;
}
