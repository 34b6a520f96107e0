use Rattle.std.proofs.Common.{arith}
use Rattle.eip_table_laws.proofs.Bounds.{within-limit}
use Rattle.eip_books.specs.Facts.{tables_of}
use Rattle.eip_table_laws.proofs.SourceCalls.{stands-refuse, source-within, out-pulled}
use Rattle.eip_books.proofs.books.Books.refuse.Goals as goal

pub set-requires : goal.set-requires
set-requires c =
    let may = rw (← c.self.view_is) at c.requires.may in
    source-within (tables_of c.self.inside) c.args.worker c.args.source c.self.invariant.stands (rw (← c.self.view_is) at c.requires.worker) may.0.0

pub append_reserved-requires : goal.append_reserved-requires
append_reserved-requires c =
    let may = rw (← c.self.view_is) at c.requires.may in
    omega (arith, out-pulled (tables_of c.self.inside) c.args.worker c.args.source c.self.invariant.stands (rw (← c.self.view_is) at c.requires.worker) may.0.0 may.1)

pub invariant_of-self : goal.invariant_of-self
invariant_of-self c =
    let may = rw (← c.self.view_is) at c.requires.may in
    let out = out-pulled (tables_of c.self.inside) c.args.worker c.args.source c.self.invariant.stands (rw (← c.self.view_is) at c.requires.worker) may.0.0 may.1 in
    record {
      stands = rw (c.append_reserved.ensures.past, c.append_reserved.ensures.workers, c.append_reserved.ensures.turns, c.set.ensures)
          (stands-refuse (tables_of c.self.inside) c.args.worker c.args.source c.self.invariant.stands (rw (← c.self.view_is) at c.requires.worker) c.args.item c.args.cause may);
      few = c.self.invariant.few;
      room_small = c.self.invariant.room_small;
      room_journal = omega (arith, out);
      room_rows = omega (arith, out);
      room_ready = omega (arith, out);
    }

pub returns-clause-legal : goal.returns-clause-legal
returns-clause-legal c = (invariant_of-self c).stands.legal

pub overflow_sub-self : goal.overflow_sub-self
overflow_sub-self c =
    let may = rw (← c.self.view_is) at c.requires.may in
    omega (arith, out-pulled (tables_of c.self.inside) c.args.worker c.args.source c.self.invariant.stands (rw (← c.self.view_is) at c.requires.worker) may.0.0 may.1)

pub overflow_add-self : goal.overflow_add-self
overflow_add-self c = omega (arith, within-limit (tables_of c.self.inside) c.self.invariant.stands, c.self.invariant.stands.legal.few_turns)
