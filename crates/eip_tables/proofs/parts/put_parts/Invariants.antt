use Rattle.std.proofs.Common.{◌≡◌, ◌+◌, ◌≤◌, ◌++◌, length, vec_capacity, deque_len}
use Rattle.eip_tables.specs.Parts.{seed_rows, starving_faults}
use Rattle.eip_tables.proofs.parts.put_parts.Given as goal

abbrev pub invariant-loop-seed : goal.invariant-loop-seed
invariant-loop-seed l = record {
  so_far : l.rows.items ++ seed_rows l.parent (length l.rows.items + 1) (l.parent.at.index + l.done) l.rest.items
      ≡ l.fn.rows.items ++ seed_rows l.fn.parent (length l.fn.rows.items + 1) l.fn.parent.at.index l.fn.seeds.items;
  parent : l.parent ≡ l.fn.parent;
  many : l.done + length l.rest.items ≡ length l.fn.seeds.items;
  faults : l.faults.items ≡ starving_faults (length l.rest.items);
  room : length l.rows.items + length l.rest.items ≤ vec_capacity l.rows;
  grows : vec_capacity l.fn.rows ≤ vec_capacity l.rows;
  rooms : length l.rest.items ≤ length l.rooms.items;
  fewer : length l.fn.rooms.items + length l.rest.items ≤ length l.rooms.items + length l.fn.seeds.items;
}

abbrev pub decreases-loop-seed : goal.decreases-loop-seed
decreases-loop-seed l = deque_len l.rest
