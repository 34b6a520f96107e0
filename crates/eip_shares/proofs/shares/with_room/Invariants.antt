use Rattle.std.proofs.Common.{◌≡◌, ℕ, ◌<◌, ◌≤◌, slice_index_or, vec_len, vec_capacity}
use Rattle.eip_shares.proofs.shares.with_room.Given as goal

abbrev pub invariant-loop : goal.invariant-loop
invariant-loop g l = record {
  made : vec_len l.lists ≡ l.counter;
  spare : l.workers ≤ vec_capacity l.lists;
  empty : (k : ℕ) (d : _) → k < l.counter → vec_len (slice_index_or l.lists.items k d) ≡ 0;
  room : (k : ℕ) (d : _) → k < l.counter → l.count ≤ vec_capacity (slice_index_or l.lists.items k d);
}
