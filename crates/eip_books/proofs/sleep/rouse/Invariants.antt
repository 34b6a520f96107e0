use Rattle.std.proofs.Common.{◌≡◌, ◌≤◌}
use Rattle.eip_tables.specs.Numbers.{row_numbers, row_count, capacity}
use Rattle.eip_tables.specs.Rows.{row_ready, row_live}
use Rattle.eip_tables.specs.Sleepers.{SleepersTold, roused_rows}
use Rattle.eip_books.proofs.Rousing.{row_asleep}
use Rattle.eip_books.proofs.sleep.rouse.Given as goal

abbrev pub invariant-loop-number : goal.invariant-loop-number
invariant-loop-number l = record {
  so_far : roused_rows l.fn.now l.rows.items ≡ roused_rows l.fn.now l.fn.rows.items;
  now : l.now ≡ l.fn.now;
  told : SleepersTold l.rows.items l.sleepers;
  numbers : l.ready.numbers ≡ row_numbers row_ready 1 l.rows.items;
  room : row_count row_live l.rows.items ≤ capacity l.ready;
  spare : l.fn.rows.spare ≤ l.rows.spare;
  holds : capacity l.fn.ready ≤ capacity l.ready;
}

abbrev pub decreases-loop-number : goal.decreases-loop-number
decreases-loop-number l = row_count row_asleep l.rows.items
