use Rattle.std.proofs.Common.{arith}
use Rattle.eip_tables.specs.Groups.{settings}
use Rattle.eip_table_laws.proofs.Empty.{first-tables}
use Rattle.eip_books.proofs.books.Books.new.Goals as goal

pub invariant_of-result : goal.invariant_of-result
invariant_of-result c = record {
  stands = rw (c.new-2.ensures.past, c.new-2.ensures.workers, c.new-2.ensures.turns, c.new-3.ensures, c.new-4.ensures, c.new-5.ensures) (first-tables c.args.set c.args.workers c.args.turns c.in_ok-sources.sources c.in_ok-queues.queues c.new-6.result c.new-7.result c.new-8.result c.new-9.result c.requires.workers c.requires.some c.requires.limit c.in_ok-sources.ensures c.in_ok-queues.ensures c.new-6.ensures c.new-7.ensures (c.new-8.ensures (settings c.args.set)) c.new-9.ensures);
  few = c.requires.few;
  room_small = omega arith;
  room_journal = omega arith;
  room_rows = omega arith;
  room_ready = omega arith;
}
