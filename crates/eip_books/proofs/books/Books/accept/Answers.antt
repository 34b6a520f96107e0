use Rattle.std.proofs.Common.{arith, ◌≡◌, ◌+◌, ap, ◌∙◌, length, length-append}
use Rattle.std.proofs.lemmas.List.{length-reverse}
use Rattle.eip_table_laws.proofs.Bounds.{within-limit, live-within}
use Rattle.eip_books.specs.Facts.{tables_of}
use Rattle.eip_table_laws.proofs.SourceCalls.{source-within, out-pulled}
use Rattle.eip_tables.specs.Moves.{new_row}
use Rattle.eip_table_laws.proofs.SourceEvents.{stands-accept}
use Rattle.eip_tables.specs.State.{row_outside}
use Rattle.eip_table_laws.proofs.RowNumbers.{push-none}
use Rattle.eip_books.proofs.books.Books.accept.Goals as goal

pub set-requires : goal.set-requires
set-requires c =
    let may = rw (← c.self.view_is) at c.requires.may in
    source-within (tables_of c.self.inside) c.args.worker c.args.source c.self.invariant.stands (rw (← c.self.view_is) at c.requires.worker) may.0.0

pub accept_reserved-requires : goal.accept_reserved-requires
accept_reserved-requires c =
    let may = rw (← c.self.view_is) at c.requires.may in
    omega (arith, out-pulled (tables_of c.self.inside) c.args.worker c.args.source c.self.invariant.stands (rw (← c.self.view_is) at c.requires.worker) may.0.0 may.1)

pub invariant_of-self : goal.invariant_of-self
invariant_of-self c =
    let may = rw (← c.self.view_is) at c.requires.may in
    let out = out-pulled (tables_of c.self.inside) c.args.worker c.args.source c.self.invariant.stands (rw (← c.self.view_is) at c.requires.worker) may.0.0 may.1 in
    let born : c.of_item.result ≡ new_row (length c.self.inside.journal.past) = c.of_item.ensures ∙ ap new_row (ap length c.entries-born.ensures ∙ length-reverse c.self.inside.journal.past) in
    let number : c.len-number.result ≡ length c.self.inside.rows.items + 1 = c.len-number.ensures ∙ (ap length c.put_last.ensures.items ∙ length-append c.self.inside.rows.items _) in
    record {
      stands = rw (c.accept_reserved.ensures.past, c.accept_reserved.ensures.workers, c.accept_reserved.ensures.turns, c.put_last.ensures.items, c.put_last-2.ensures.numbers, c.set.ensures, number, born)
          (stands-accept c.self.inside.set c.self.inside.journal.workers c.self.inside.journal.turns c.self.inside.journal.past (tables_of c.self.inside) c.args.worker c.args.source c.args.item c.args.message c.self.invariant.stands (rw (← c.self.view_is) at c.requires.worker) may);
      few = c.self.invariant.few;
      room_small = c.self.invariant.room_small;
      room_journal = omega (arith, out);
      room_rows = omega (arith, out);
      room_ready = omega (arith, out);
    }

pub overflow_sub-self : goal.overflow_sub-self
overflow_sub-self c =
    let may = rw (← c.self.view_is) at c.requires.may in
    omega (arith, out-pulled (tables_of c.self.inside) c.args.worker c.args.source c.self.invariant.stands (rw (← c.self.view_is) at c.requires.worker) may.0.0 may.1)

pub overflow_add-self : goal.overflow_add-self
overflow_add-self c = omega (arith, within-limit (tables_of c.self.inside) c.self.invariant.stands, c.self.invariant.stands.legal.few_turns)

pub put_last-requires : goal.put_last-requires
put_last-requires c =
    let may = rw (← c.self.view_is) at c.requires.may in
    omega (arith, out-pulled (tables_of c.self.inside) c.args.worker c.args.source c.self.invariant.stands (rw (← c.self.view_is) at c.requires.worker) may.0.0 may.1)

pub put_last-requires-2 : goal.put_last-requires-2
put_last-requires-2 c =
    let may = rw (← c.self.view_is) at c.requires.may in
    omega (arith, out-pulled (tables_of c.self.inside) c.args.worker c.args.source c.self.invariant.stands (rw (← c.self.view_is) at c.requires.worker) may.0.0 may.1)

pub overflow_add-self-2 : goal.overflow_add-self-2
overflow_add-self-2 c =
    let number : c.len-number.result ≡ length c.self.inside.rows.items + 1 = c.len-number.ensures ∙ (ap length c.put_last.ensures.items ∙ length-append c.self.inside.rows.items _) in
    omega (arith, number, live-within (tables_of c.self.inside) c.self.invariant.stands)

pub returns-clause-legal : goal.returns-clause-legal
returns-clause-legal c = (invariant_of-self c).stands.legal

pub returns-clause-outside : goal.returns-clause-outside
returns-clause-outside c = rw (← c.self.view_is, c.put_last.ensures.items) (push-none row_outside c.self.inside.rows.items c.of_item.result (ap row_outside c.of_item.ensures))
