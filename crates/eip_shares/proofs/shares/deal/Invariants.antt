use Rattle.std.proofs.Common.{◌≡◌, ℕ, ◌+◌, ◌<◌, List, ◌++◌, length, slice_index_or, vec_len, vec_capacity}
use Rattle.std.specs.Prelude.{reverse}
use Rattle.eip_shares.specs.Shares.{share}
use Rattle.eip_shares.proofs.shares.deal.Given as goal

abbrev pub invariant-loop-index : goal.invariant-loop-index
invariant-loop-index g l = record {
  cut : (xs : List _) × (l.fn.items.items ≡ xs ++ reverse l.items.items) × (length xs ≡ l.index)
      × ((k : ℕ) (d : _) → k < length l.fn.lists → (slice_index_or l.lists k d).items ≡ share (length l.fn.lists) k 0 xs);
  left : vec_len l.items + l.index ≡ vec_len l.fn.items;
  room : (k : ℕ) (d : _) → k < length l.fn.lists → vec_capacity (slice_index_or l.lists k d) ≡ vec_capacity (slice_index_or l.fn.lists k d);
  kept : vec_capacity l.items ≡ vec_capacity l.fn.items;
}
