use Rattle.std.proofs.Common.{arith}
use Rattle.eip_books.specs.Facts.{tables_of}
use Rattle.eip_table_laws.proofs.SourceCalls.{stands-pull, source-within}
use Rattle.eip_books.proofs.books.Books.pull.Goals as goal

pub set-requires : goal.set-requires
set-requires c =
    let may = rw (← c.self.view_is) at c.requires.may in
    source-within (tables_of c.self.inside) c.args.worker c.args.source c.self.invariant.stands (rw (← c.self.view_is) at c.requires.worker) may.0.0

pub invariant_of-self : goal.invariant_of-self
invariant_of-self c =
    let may = rw (← c.self.view_is) at c.requires.may in
    let room = rw (← c.self.view_is) at c.requires.room in
    record {
      stands = rw (c.append_reserved.ensures.past, c.append_reserved.ensures.workers, c.append_reserved.ensures.turns, c.set.ensures)
          (stands-pull (tables_of c.self.inside) c.args.worker c.args.source c.self.invariant.stands (rw (← c.self.view_is) at c.requires.worker) may);
      few = c.self.invariant.few;
      room_small = omega (arith, room);
      room_journal = omega (arith, room);
      room_rows = omega (arith, room);
      room_ready = omega (arith, room);
    }

pub returns-clause-legal : goal.returns-clause-legal
returns-clause-legal c = (invariant_of-self c).stands.legal
