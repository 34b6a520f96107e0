use Rattle.std.proofs.Common.{arith, ◌-◌, ◌∙◌}
use Rattle.eip_ledger.specs.declared.place.Place.TheVariants.{InHand}
use Rattle.eip_tables.specs.State.{row_outside}
use Rattle.eip_tables.specs.Moves.{closed}
use Rattle.eip_tables.specs.declared.row.Stage.TheVariants as stage
use Rattle.eip_table_laws.proofs.OwnCalls.{row-within}
use Rattle.eip_table_laws.proofs.RowNumbers.{numbers-stay}
use Rattle.eip_table_laws.proofs.HandCalls.{stands-give-up, give-up-leaves, give-up-tells, give-up-wakes, taken-above, held-live, held-not-outside}
use Rattle.eip_tables.specs.Rows.{row_ready}
use Rattle.eip_tables.proofs.NumbersRise.{numbers-rise}
use Rattle.eip_books.specs.Facts.{tables_of}
use Rattle.eip_table_laws.proofs.Ending.{behind-outside}
use Rattle.eip_books.proofs.Waking.{if-woken}
use Rattle.eip_books.proofs.books.Books.give_up.Goals as goal

pub get-row-requires-clause-above : goal.get-row-requires-clause-above
get-row-requires-clause-above c = (row-within (tables_of c.self.inside) c.args.ticket.number (InHand c.args.ticket.worker) c.self.invariant.stands (rw (← c.self.view_is) at c.requires.place)).0

pub get-row-requires-clause-within : goal.get-row-requires-clause-within
get-row-requires-clause-within c = (row-within (tables_of c.self.inside) c.args.ticket.number (InHand c.args.ticket.worker) c.self.invariant.stands (rw (← c.self.view_is) at c.requires.place)).1

pub leave-requires : goal.leave-requires
leave-requires c =
    rw c.born-born.ensures (give-up-leaves (tables_of c.self.inside) c.args.ticket.worker c.args.ticket.number c.self.invariant.stands (rw (← c.self.view_is) at c.requires.worker) c.get-row.result.now c.get-row.ensures (rw (← c.self.view_is) at c.requires.place))

pub starve-ended-requires-clause-above : goal.starve-ended-requires-clause-above
starve-ended-requires-clause-above c = (row-within (tables_of c.self.inside) c.args.ticket.number (InHand c.args.ticket.worker) c.self.invariant.stands (rw (← c.self.view_is) at c.requires.place)).0

pub starve-ended-requires-clause-within : goal.starve-ended-requires-clause-within
starve-ended-requires-clause-within c = (row-within (tables_of c.self.inside) c.args.ticket.number (InHand c.args.ticket.worker) c.self.invariant.stands (rw (← c.self.view_is) at c.requires.place)).1

pub tell-woken-requires : goal.tell-woken-requires
tell-woken-requires c =
    rw (c.starve-ended.ensures.ended c.get-row.result.now c.get-row.ensures, c.born-born.ensures)
    (give-up-tells (tables_of c.self.inside) c.args.ticket.worker c.args.ticket.number c.self.invariant.stands (rw (← c.self.view_is) at c.requires.worker) c.get-row.result.now c.get-row.ensures (rw (← c.self.view_is) at c.requires.place))

pub wake-requires-clause-within : goal.wake-requires-clause-within
wake-requires-clause-within c =
    let tells = rw (c.starve-ended.ensures.ended c.get-row.result.now c.get-row.ensures, c.born-born.ensures) at c.tell-woken.ensures.tells in
    rw (c.starve-ended.ensures.items c.get-row.result.now c.get-row.ensures)
    (if-woken c.tell-woken.result c.self.inside.rows.items (c.args.ticket.number - 1) (closed stage.Starved c.get-row.result.now)
    (give-up-wakes (tables_of c.self.inside) c.args.ticket.worker c.args.ticket.number c.self.invariant.stands (rw (← c.self.view_is) at c.requires.worker) c.get-row.result.now c.get-row.ensures (rw (← c.self.view_is) at c.requires.place)
    c.leave.new.queues c.tell-woken.new.joins c.tell-woken.result (rw c.born-born.ensures at c.leave.ensures.leaves) tells (rw c.born-born.ensures at c.tell-woken.ensures.woken)))

pub wake-requires-clause-room : goal.wake-requires-clause-room
wake-requires-clause-room c =
    let placed = rw (← c.self.view_is) at c.requires.place in
    let n = taken-above (tables_of c.self.inside) c.args.ticket.worker c.args.ticket.number c.self.invariant.stands (rw (← c.self.view_is) at c.requires.worker) c.get-row.result.now c.get-row.ensures placed in
    omega (arith, n, c.self.invariant.room_ready)

pub wake-requires-clause-rising : goal.wake-requires-clause-rising
wake-requires-clause-rising c = rw c.self.invariant.stands.ready (numbers-rise row_ready c.self.inside.rows.items)

pub append_reserved-requires : goal.append_reserved-requires
append_reserved-requires c =
    let placed = rw (← c.self.view_is) at c.requires.place in
    let n = taken-above (tables_of c.self.inside) c.args.ticket.worker c.args.ticket.number c.self.invariant.stands (rw (← c.self.view_is) at c.requires.worker) c.get-row.result.now c.get-row.ensures placed in
    omega (arith, n, c.self.invariant.room_journal)

pub overflow_sub-self : goal.overflow_sub-self
overflow_sub-self c =
    taken-above (tables_of c.self.inside) c.args.ticket.worker c.args.ticket.number c.self.invariant.stands (rw (← c.self.view_is) at c.requires.worker) c.get-row.result.now c.get-row.ensures (rw (← c.self.view_is) at c.requires.place)

pub overflow_sub-self-2 : goal.overflow_sub-self-2
overflow_sub-self-2 c =
    held-live (tables_of c.self.inside) c.args.ticket.worker c.args.ticket.number c.self.invariant.stands (rw (← c.self.view_is) at c.requires.worker) c.get-row.result.now c.get-row.ensures (rw (← c.self.view_is) at c.requires.place)

pub invariant_of-self : goal.invariant_of-self
invariant_of-self c =
    let placed = rw (← c.self.view_is) at c.requires.place in
    let n = taken-above (tables_of c.self.inside) c.args.ticket.worker c.args.ticket.number c.self.invariant.stands (rw (← c.self.view_is) at c.requires.worker) c.get-row.result.now c.get-row.ensures placed in
    let tells = rw (c.starve-ended.ensures.ended c.get-row.result.now c.get-row.ensures, c.born-born.ensures) at c.tell-woken.ensures.tells in
    record {
      stands = rw (c.append_reserved.ensures.past, c.append_reserved.ensures.workers, c.append_reserved.ensures.turns, c.wake.ensures.rows, c.starve-ended.ensures.items c.get-row.result.now c.get-row.ensures, c.wake.ensures.numbers)
          (stands-give-up (tables_of c.self.inside) c.args.ticket.worker c.args.ticket.number c.self.invariant.stands (rw (← c.self.view_is) at c.requires.worker) c.get-row.result.now c.get-row.ensures placed
          c.leave.new.queues c.tell-woken.new.joins c.tell-woken.result (rw c.born-born.ensures at c.leave.ensures.leaves) tells (rw c.born-born.ensures at c.tell-woken.ensures.woken) c.settle.new.self c.settle.ensures);
      few = c.self.invariant.few;
      room_small = c.self.invariant.room_small;
      room_journal = omega (arith, n, c.append_reserved.ensures.spare, c.self.invariant.room_journal);
      room_rows = omega (arith, c.starve-ended.ensures.spare, c.wake.ensures.spare, c.self.invariant.room_rows);
      room_ready = omega (arith, n, c.wake.ensures.room, c.self.invariant.room_ready);
    }

pub returns-clause-outside : goal.returns-clause-outside
returns-clause-outside c =
    let placed = rw (← c.self.view_is) at c.requires.place in
    rw (← c.self.view_is, c.wake.ensures.rows)
    (behind-outside c.tell-woken.result c.starve-ended.new.self.items
    ∙ rw (c.starve-ended.ensures.items c.get-row.result.now c.get-row.ensures)
    (numbers-stay row_outside 1 c.self.inside.rows.items (c.args.ticket.number - 1) c.get-row.result.now (closed stage.Starved c.get-row.result.now) c.get-row.ensures
    (held-not-outside (tables_of c.self.inside) c.args.ticket.worker c.args.ticket.number c.self.invariant.stands (rw (← c.self.view_is) at c.requires.worker) c.get-row.result.now c.get-row.ensures placed)))

pub returns-clause-legal : goal.returns-clause-legal
returns-clause-legal c = (invariant_of-self c).stands.legal
