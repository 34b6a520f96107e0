use Rattle.std.proofs.Common.{arith, ◌-◌, sym, subst, ◌∙◌}
use Rattle.eip_exchange.specs.declared.end.Ending.{Ending}
use Rattle.eip_tables.specs.Keys.{Settles}
use Rattle.eip_ledger.specs.declared.place.Place.TheVariants.{InHand}
use Rattle.eip_books.specs.Facts.{tables_of}
use Rattle.eip_tables.specs.State.{row_outside}
use Rattle.eip_tables.specs.Moves.{ended_by}
use Rattle.eip_table_laws.proofs.Bounds.{within-limit}
use Rattle.eip_table_laws.proofs.OwnCalls.{row-within, placed-some}
use Rattle.eip_table_laws.proofs.RowNumbers.{numbers-stay}
use Rattle.eip_table_laws.proofs.HandCalls.{stands-settle-end, end-leaves, end-not-outside, taken-above, held-live, held-not-outside, held-cursor}
use Rattle.eip_books.proofs.books.Books.settle_end.Goals as goal

pub invariant_of-self : goal.invariant_of-self
invariant_of-self c =
    let placed = rw (← c.self.view_is) at c.requires.hand in
    let asked = rw (← c.self.view_is) at c.requires.asked in
    let n = taken-above (tables_of c.self.inside) c.args.worker c.args.number c.self.invariant.stands (rw (← c.self.view_is) at c.requires.worker) c.get.result.now c.get.ensures placed in
    record {
      stands = rw (c.append_answer.ensures.past, c.append_answer.ensures.workers, c.append_answer.ensures.turns, c.end_by.ensures.items c.get.result.now c.get.ensures)
          (stands-settle-end (tables_of c.self.inside) c.args.worker c.args.number c.self.invariant.stands (rw (← c.self.view_is) at c.requires.worker) c.get.result.now c.get.ensures placed asked.0 c.args.end c.args.answer asked.1 asked.2 asked.3 c.leave.new.queues c.settle.new.self (rw c.born.ensures at c.leave.ensures.leaves) (subst (λ (v : Ending). Settles c.args.number v c.self.inside.keys c.settle.new.self) c.ending_by.ensures c.settle.ensures));
      few = c.self.invariant.few;
      room_small = c.self.invariant.room_small;
      room_journal = omega (arith, n);
      room_rows = omega (arith, c.end_by.ensures.spare);
      room_ready = omega (arith, n);
    }

pub get-requires-clause-above : goal.get-requires-clause-above
get-requires-clause-above c = (row-within (tables_of c.self.inside) c.args.number (InHand c.args.worker) c.self.invariant.stands (rw (← c.self.view_is) at c.requires.hand)).0

pub get-requires-clause-within : goal.get-requires-clause-within
get-requires-clause-within c = (row-within (tables_of c.self.inside) c.args.number (InHand c.args.worker) c.self.invariant.stands (rw (← c.self.view_is) at c.requires.hand)).1

pub leave-requires : goal.leave-requires
leave-requires c =
    let asked = rw (← c.self.view_is) at c.requires.asked in
    rw c.born.ensures (end-leaves (tables_of c.self.inside) c.args.worker c.args.number c.self.invariant.stands (rw (← c.self.view_is) at c.requires.worker) c.get.result.now c.get.ensures (rw (← c.self.view_is) at c.requires.hand) asked.0 c.args.end c.args.answer asked.1 asked.2 asked.3)

pub end_by-requires-clause-above : goal.end_by-requires-clause-above
end_by-requires-clause-above c = (row-within (tables_of c.self.inside) c.args.number (InHand c.args.worker) c.self.invariant.stands (rw (← c.self.view_is) at c.requires.hand)).0

pub end_by-requires-clause-within : goal.end_by-requires-clause-within
end_by-requires-clause-within c = (row-within (tables_of c.self.inside) c.args.number (InHand c.args.worker) c.self.invariant.stands (rw (← c.self.view_is) at c.requires.hand)).1

pub end_by-requires-clause-lives : goal.end_by-requires-clause-lives
end_by-requires-clause-lives c = λ r at.
    held-cursor (tables_of c.self.inside) c.args.worker c.args.number c.self.invariant.stands (rw (← c.self.view_is) at c.requires.worker) r at (rw (← c.self.view_is) at c.requires.hand)

pub append_answer-requires : goal.append_answer-requires
append_answer-requires c =
    let placed = rw (← c.self.view_is) at c.requires.hand in
    let r = placed-some (tables_of c.self.inside) c.args.number (InHand c.args.worker) c.self.invariant.stands placed in
    omega (arith, taken-above (tables_of c.self.inside) c.args.worker c.args.number c.self.invariant.stands (rw (← c.self.view_is) at c.requires.worker) r.0 r.1 placed)

pub overflow_add-self : goal.overflow_add-self
overflow_add-self c = omega (arith, within-limit (tables_of c.self.inside) c.self.invariant.stands, c.self.invariant.stands.legal.few_turns)

pub overflow_sub-self : goal.overflow_sub-self
overflow_sub-self c =
    let placed = rw (← c.self.view_is) at c.requires.hand in
    let r = placed-some (tables_of c.self.inside) c.args.number (InHand c.args.worker) c.self.invariant.stands placed in
    taken-above (tables_of c.self.inside) c.args.worker c.args.number c.self.invariant.stands (rw (← c.self.view_is) at c.requires.worker) r.0 r.1 placed

pub overflow_sub-self-2 : goal.overflow_sub-self-2
overflow_sub-self-2 c =
    let placed = rw (← c.self.view_is) at c.requires.hand in
    let r = placed-some (tables_of c.self.inside) c.args.number (InHand c.args.worker) c.self.invariant.stands placed in
    held-live (tables_of c.self.inside) c.args.worker c.args.number c.self.invariant.stands (rw (← c.self.view_is) at c.requires.worker) r.0 r.1 placed

pub returns-clause-outside : goal.returns-clause-outside
returns-clause-outside c =
    let placed = rw (← c.self.view_is) at c.requires.hand in
    let asked = rw (← c.self.view_is) at c.requires.asked in
    let r = placed-some (tables_of c.self.inside) c.args.number (InHand c.args.worker) c.self.invariant.stands placed in
    rw (← c.self.view_is, c.end_by.ensures.items r.0 r.1)
    (numbers-stay row_outside 1 c.self.inside.rows.items (c.args.number - 1) r.0 (ended_by c.args.end c.args.answer r.0) r.1
    (held-not-outside (tables_of c.self.inside) c.args.worker c.args.number c.self.invariant.stands (rw (← c.self.view_is) at c.requires.worker) r.0 r.1 placed
    ∙ sym (end-not-outside (tables_of c.self.inside) c.args.worker c.args.number c.self.invariant.stands (rw (← c.self.view_is) at c.requires.worker) r.0 r.1 placed asked.0 c.args.end c.args.answer asked.1 asked.2 asked.3)))

pub returns-clause-legal : goal.returns-clause-legal
returns-clause-legal c = (invariant_of-self c).stands.legal
