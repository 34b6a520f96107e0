use Rattle.std.proofs.Common.{◌≡◌, ◌≤◌, ◌++◌, [], length}
use Rattle.eip_exchange.specs.Headers.{same_name, counted}
use Rattle.std.specs.Vec.Iter.{into_iter_items, into_iter_len}
use Rattle.eip_splitter.specs.Batches.{are_new}
use Rattle.eip_splitter.proofs.held.headers_of.Given as goal

abbrev pub invariant-loop-name : goal.invariant-loop-name
invariant-loop-name l = record {
  all : l.headers ++ into_iter_items l.name-iterator ≡ l.fn.pairs.items;
  new : are_new same_name l.headers (into_iter_items l.name-iterator) ≡ are_new same_name [] l.fn.pairs.items;
  few : counted l.headers ≤ 64;
  left : length (into_iter_items l.name-iterator) ≡ into_iter_len l.name-iterator;
}
