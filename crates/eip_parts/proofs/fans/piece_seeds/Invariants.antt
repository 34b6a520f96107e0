use Rattle.std.proofs.Common.{◌≡◌, ◌++◌, length, map}
use Rattle.std.specs.Vec.Iter.{into_iter_items, into_iter_len}
use Rattle.eip_meaning.specs.Parts.{block_seed}
use Rattle.eip_parts.proofs.fans.piece_seeds.Given as goal

abbrev pub invariant-loop-piece : goal.invariant-loop-piece
invariant-loop-piece l = record {
  so_far : l.seeds.items ++ map (λ piece. block_seed l.care l.block piece) (into_iter_items l.piece-iterator) ≡ map (λ piece. block_seed l.care l.block piece) l.fn.pieces.items;
  left : length (into_iter_items l.piece-iterator) ≡ into_iter_len l.piece-iterator;
}
