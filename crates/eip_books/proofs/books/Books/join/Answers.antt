use Rattle.std.proofs.Common.{arith, ◌≡◌, ◌-◌, length, refl, ap, ◌∙◌}
use Rattle.std.proofs.lemmas.List.{length-reverse}
use Rattle.eip_ledger.specs.declared.place.Place.TheVariants.{Ready}
use Rattle.eip_frames.specs.declared.request.Request.TheVariants as request
use Rattle.eip_tables.specs.State.{row_outside}
use Rattle.eip_tables.specs.Moves.{answered}
use Rattle.eip_table_laws.proofs.Bounds.{within-limit}
use Rattle.eip_table_laws.proofs.OwnCalls.{row-within, ready-some, ends-complete, stands-joined}
use Rattle.eip_table_laws.proofs.LookCalls.{known-state}
use Rattle.eip_table_laws.proofs.ListedNumbers.{leave-at}
use Rattle.eip_books.specs.Facts.{tables_of}
use Rattle.eip_books.proofs.books.Books.join.Goals as goal

pub take-ends-requires : goal.take-ends-requires
take-ends-requires c =
    let r = ready-some (tables_of c.self.inside) c.args.number c.self.invariant.stands (rw (← c.self.view_is) at c.requires.ready) in
    let asks = rw (← c.self.view_is) at c.requires.ends.asks in
    let k = known-state c.self.inside.rows.items (c.args.number - 1) r.0 (request.Join c.requires.ends.first c.requires.ends.count) r.1 asks in
    ends-complete (tables_of c.self.inside) c.args.worker c.args.number c.self.invariant.stands (rw (← c.self.view_is) at c.requires.worker) k.0 r.0 (rw (← c.self.view_is) at c.requires.ready) r.1 c.requires.ends.first c.requires.ends.count k.1

pub answer-requires-clause-above : goal.answer-requires-clause-above
answer-requires-clause-above c = (row-within (tables_of c.self.inside) c.args.number Ready c.self.invariant.stands (rw (← c.self.view_is) at c.requires.ready)).0

pub answer-requires-clause-within : goal.answer-requires-clause-within
answer-requires-clause-within c = (row-within (tables_of c.self.inside) c.args.number Ready c.self.invariant.stands (rw (← c.self.view_is) at c.requires.ready)).1

pub overflow_add-needed-2 : goal.overflow_add-needed-2
overflow_add-needed-2 c = omega (arith, within-limit (tables_of c.self.inside) c.self.invariant.stands, c.self.invariant.stands.legal.few_turns)

pub overflow_add-needed-3 : goal.overflow_add-needed-3
overflow_add-needed-3 c = omega (arith, within-limit (tables_of c.self.inside) c.self.invariant.stands, c.self.invariant.stands.legal.few_turns)

pub overflow_add-self : goal.overflow_add-self
overflow_add-self c = omega (arith, within-limit (tables_of c.self.inside) c.self.invariant.stands, c.self.invariant.stands.legal.few_turns)

pub invariant_of-self-2 : goal.invariant_of-self-2
invariant_of-self-2 c =
    let r = ready-some (tables_of c.self.inside) c.args.number c.self.invariant.stands (rw (← c.self.view_is) at c.requires.ready) in
    let asks = rw (← c.self.view_is) at c.requires.ends.asks in
    let k = known-state c.self.inside.rows.items (c.args.number - 1) r.0 (request.Join c.requires.ends.first c.requires.ends.count) r.1 asks in
    let entry : length c.entries-entry.result.now ≡ length c.self.inside.journal.past = ap length c.entries-entry.ensures ∙ (length-reverse _ ∙ ap length c.make_room.ensures.past) in
    let room = c.in_ok-make_room.ensures.journal in
    record {
      stands = rw (c.append_answer.ensures.past, c.append_answer.ensures.workers, c.append_answer.ensures.turns, c.make_room.ensures.past, c.make_room.ensures.workers, c.make_room.ensures.turns, c.make_room.ensures.items, c.answer.ensures.items r.0 r.1, entry, c.of-parts.ensures)
          (stands-joined (tables_of c.self.inside) c.args.worker c.args.number c.self.invariant.stands (rw (← c.self.view_is) at c.requires.worker) k.0 r.0 (rw (← c.self.view_is) at c.requires.ready) r.1 c.requires.ends.first c.requires.ends.count k.1
          c.take-ends.result.items c.take-ends.new.self (rw (← c.self.view_is) at c.requires.below) c.take-ends.ensures.ends c.take-ends.ensures.stands);
      few = c.self.invariant.few;
      room_small = c.self.invariant.room_small;
      room_journal = omega (arith, room, c.append_answer.ensures.spare);
      room_rows = omega (arith, c.answer.ensures.spare, c.self.invariant.room_rows);
      room_ready = c.self.invariant.room_ready;
    }

pub returns-clause-legal : goal.returns-clause-legal
returns-clause-legal c = (invariant_of-self-2 c).stands.legal

pub returns-clause-outside : goal.returns-clause-outside
returns-clause-outside c =
    let r = ready-some (tables_of c.self.inside) c.args.number c.self.invariant.stands (rw (← c.self.view_is) at c.requires.ready) in
    rw (← c.self.view_is, c.answer.ensures.items r.0 r.1)
    (leave-at row_outside c.self.inside.rows.items c.args.number (answered (length c.entries-entry.result.now) r.0) (row-within (tables_of c.self.inside) c.args.number Ready c.self.invariant.stands (rw (← c.self.view_is) at c.requires.ready)).0 refl)
