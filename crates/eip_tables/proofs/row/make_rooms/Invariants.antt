use Rattle.std.proofs.Common.{◌≤◌, length}
use Rattle.eip_tables.proofs.row.make_rooms.Given as goal

abbrev pub invariant-loop-index : goal.invariant-loop-index
invariant-loop-index l = record {
  more : length l.fn.rooms.items ≤ length l.rooms.items;
  many : l._index ≤ length l.rooms.items;
}
