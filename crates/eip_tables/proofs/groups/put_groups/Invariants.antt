use Rattle.std.proofs.Common.{◌≡◌, ◌+◌, ◌≤◌, ◌++◌, length, vec_capacity, deque_len}
use Rattle.eip_tables.specs.Groups.{group_rows}
use Rattle.eip_tables.proofs.groups.put_groups.Given as goal

abbrev pub invariant-loop-group : goal.invariant-loop-group
invariant-loop-group l = record {
  so_far : l.rows.items ++ group_rows l.set (length l.rows.items + 1) l.rest.items ≡ l.fn.rows.items ++ group_rows l.fn.set (length l.fn.rows.items + 1) l.fn.closed.items;
  room : length l.rows.items + length l.rest.items ≤ vec_capacity l.rows;
  grows : vec_capacity l.fn.rows ≤ vec_capacity l.rows;
  rooms : length l.rest.items ≤ length l.rooms.items;
  fewer : length l.fn.rooms.items + length l.rest.items ≤ length l.rooms.items + length l.fn.closed.items;
}

abbrev pub decreases-loop-group : goal.decreases-loop-group
decreases-loop-group l = deque_len l.rest
