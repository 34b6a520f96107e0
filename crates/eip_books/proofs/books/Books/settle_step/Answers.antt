use Rattle.std.proofs.Common.{arith, ◌≡◌, ◌-◌, length, ap, ◌∙◌}
use Rattle.std.proofs.lemmas.List.{length-reverse}
use Rattle.eip_ledger.specs.declared.place.Place.TheVariants.{InHand}
use Rattle.eip_books.specs.Facts.{tables_of}
use Rattle.eip_tables.specs.State.{row_outside}
use Rattle.eip_tables.specs.Moves.{answered}
use Rattle.eip_tables.specs.Rows.{row_ready}
use Rattle.eip_tables.proofs.NumbersRise.{numbers-rise}
use Rattle.eip_table_laws.proofs.Bounds.{within-limit}
use Rattle.eip_table_laws.proofs.OwnCalls.{row-within, placed-some}
use Rattle.eip_table_laws.proofs.RowNumbers.{numbers-stay}
use Rattle.eip_table_laws.proofs.HandCalls.{stands-settle, taken-above, held-not-outside}
use Rattle.eip_books.proofs.books.Books.settle_step.Goals as goal

pub invariant_of-self : goal.invariant_of-self
invariant_of-self c =
    let placed = rw (← c.self.view_is) at c.requires.hand in
    let asked = rw (← c.self.view_is) at c.requires.asked in
    let r = placed-some (tables_of c.self.inside) c.args.number (InHand c.args.worker) c.self.invariant.stands placed in
    let n = taken-above (tables_of c.self.inside) c.args.worker c.args.number c.self.invariant.stands (rw (← c.self.view_is) at c.requires.worker) r.0 r.1 placed in
    let entry : length c.entries-entry.result.now ≡ length c.self.inside.journal.past = ap length c.entries-entry.ensures ∙ length-reverse c.self.inside.journal.past in
    record {
      stands = rw (c.append_answer.ensures.past, c.append_answer.ensures.workers, c.append_answer.ensures.turns, c.answer.ensures.items r.0 r.1, c.put_in.ensures.numbers, entry)
          (stands-settle (tables_of c.self.inside) c.args.worker c.args.number c.self.invariant.stands (rw (← c.self.view_is) at c.requires.worker) r.0 r.1 placed asked.0 c.args.answer asked.1 asked.2 asked.3);
      few = c.self.invariant.few;
      room_small = c.self.invariant.room_small;
      room_journal = omega (arith, n);
      room_rows = omega (arith, c.answer.ensures.spare);
      room_ready = omega (arith, n, c.put_in.ensures.spare);
    }

pub answer-requires-clause-above : goal.answer-requires-clause-above
answer-requires-clause-above c = (row-within (tables_of c.self.inside) c.args.number (InHand c.args.worker) c.self.invariant.stands (rw (← c.self.view_is) at c.requires.hand)).0

pub answer-requires-clause-within : goal.answer-requires-clause-within
answer-requires-clause-within c = (row-within (tables_of c.self.inside) c.args.number (InHand c.args.worker) c.self.invariant.stands (rw (← c.self.view_is) at c.requires.hand)).1

pub put_in-requires-clause-rising : goal.put_in-requires-clause-rising
put_in-requires-clause-rising c = rw c.self.invariant.stands.ready (numbers-rise row_ready c.self.inside.rows.items)

pub put_in-requires-clause-room : goal.put_in-requires-clause-room
put_in-requires-clause-room c =
    let placed = rw (← c.self.view_is) at c.requires.hand in
    let r = placed-some (tables_of c.self.inside) c.args.number (InHand c.args.worker) c.self.invariant.stands placed in
    omega (arith, c.self.invariant.room_ready, taken-above (tables_of c.self.inside) c.args.worker c.args.number c.self.invariant.stands (rw (← c.self.view_is) at c.requires.worker) r.0 r.1 placed)

pub append_answer-requires : goal.append_answer-requires
append_answer-requires c =
    let placed = rw (← c.self.view_is) at c.requires.hand in
    let r = placed-some (tables_of c.self.inside) c.args.number (InHand c.args.worker) c.self.invariant.stands placed in
    omega (arith, taken-above (tables_of c.self.inside) c.args.worker c.args.number c.self.invariant.stands (rw (← c.self.view_is) at c.requires.worker) r.0 r.1 placed)

pub overflow_add-self : goal.overflow_add-self
overflow_add-self c = omega (arith, within-limit (tables_of c.self.inside) c.self.invariant.stands, c.self.invariant.stands.legal.few_turns)

pub overflow_sub-self : goal.overflow_sub-self
overflow_sub-self c =
    let placed = rw (← c.self.view_is) at c.requires.hand in
    let r = placed-some (tables_of c.self.inside) c.args.number (InHand c.args.worker) c.self.invariant.stands placed in
    taken-above (tables_of c.self.inside) c.args.worker c.args.number c.self.invariant.stands (rw (← c.self.view_is) at c.requires.worker) r.0 r.1 placed

pub returns-clause-outside : goal.returns-clause-outside
returns-clause-outside c =
    let placed = rw (← c.self.view_is) at c.requires.hand in
    let r = placed-some (tables_of c.self.inside) c.args.number (InHand c.args.worker) c.self.invariant.stands placed in
    rw (← c.self.view_is, c.answer.ensures.items r.0 r.1)
    (numbers-stay row_outside 1 c.self.inside.rows.items (c.args.number - 1) r.0 (answered (length c.entries-entry.result.now) r.0) r.1
    (held-not-outside (tables_of c.self.inside) c.args.worker c.args.number c.self.invariant.stands (rw (← c.self.view_is) at c.requires.worker) r.0 r.1 placed))

pub returns-clause-legal : goal.returns-clause-legal
returns-clause-legal c = (invariant_of-self c).stands.legal
