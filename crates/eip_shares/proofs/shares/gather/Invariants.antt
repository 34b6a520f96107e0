use Rattle.std.proofs.Common.{◌≡◌, ℕ, ◌+◌, ◌<◌, List, ◌++◌, length, slice_index_or, vec_len, vec_capacity}
use Rattle.std.specs.Prelude.{reverse}
use Rattle.eip_shares.specs.Shares.{share}
use Rattle.eip_shares.proofs.shares.gather.Given as goal

abbrev pub invariant-loop-left : goal.invariant-loop-left
invariant-loop-left g l = record {
  whole : (xs : List _) → length xs ≡ l.count
      → ((k : ℕ) (d : _) → k < length l.fn.lists → (slice_index_or l.fn.lists k d).items ≡ share (length l.fn.lists) k 0 xs)
      → (front : List _) × (xs ≡ front ++ reverse l.items.items) × (length front + l.left ≡ l.count)
      × ((k : ℕ) (d : _) → k < length l.fn.lists → (slice_index_or l.lists k d).items ≡ share (length l.fn.lists) k 0 front);
  filled : vec_len l.items ≡ l.left;
  kept : vec_capacity l.items ≡ vec_capacity l.fn.items;
}
