use Rattle.std.proofs.Common.{◌≡◌, ◌+◌, ◌≤◌, ◌++◌, length, vec_capacity, deque_len}
use Rattle.eip_join.proofs.Ends.{told}
use Rattle.eip_join.proofs.open_join.gathered.Given as goal

abbrev pub invariant-loop-end : goal.invariant-loop-end
invariant-loop-end l = record {
  so_far : l.room.items ++ told l.rest.items ≡ told l.fn.ends.items;
  spare : length l.room.items + length l.rest.items ≤ vec_capacity l.room;
}

abbrev pub decreases-loop-end : goal.decreases-loop-end
decreases-loop-end l = deque_len l.rest
