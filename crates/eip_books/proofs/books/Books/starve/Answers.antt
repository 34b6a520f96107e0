use Rattle.std.proofs.Common.{arith, ◌-◌, refl, ◌∙◌}
use Rattle.eip_ledger.specs.declared.place.Place.TheVariants.{Ready}
use Rattle.eip_tables.specs.State.{row_outside}
use Rattle.eip_tables.specs.Moves.{closed}
use Rattle.eip_tables.specs.declared.row.Stage.TheVariants as stage
use Rattle.eip_table_laws.proofs.OwnCalls.{row-within, stands-starve, starve-leaves, starve-tells, starve-wakes, live-above}
use Rattle.eip_table_laws.proofs.ListedNumbers.{leave-at}
use Rattle.eip_tables.specs.Rows.{row_ready}
use Rattle.eip_tables.proofs.NumbersRise.{numbers-rise, without-rises}
use Rattle.eip_books.specs.Facts.{tables_of}
use Rattle.eip_table_laws.proofs.Ending.{behind-outside}
use Rattle.eip_books.proofs.Waking.{if-woken}
use Rattle.eip_books.proofs.books.Books.starve.Goals as goal

pub get-row-requires-clause-above : goal.get-row-requires-clause-above
get-row-requires-clause-above c = (row-within (tables_of c.self.inside) c.args.number Ready c.self.invariant.stands (rw (← c.self.view_is) at c.requires.ready)).0

pub get-row-requires-clause-within : goal.get-row-requires-clause-within
get-row-requires-clause-within c = (row-within (tables_of c.self.inside) c.args.number Ready c.self.invariant.stands (rw (← c.self.view_is) at c.requires.ready)).1

pub leave-requires : goal.leave-requires
leave-requires c =
    rw c.born-born.ensures (starve-leaves (tables_of c.self.inside) c.args.worker c.args.number c.get-row.result.now c.self.invariant.stands (rw (← c.self.view_is) at c.requires.worker) (rw (← c.self.view_is) at c.requires.ready) c.get-row.ensures)

pub starve-ended-requires-clause-above : goal.starve-ended-requires-clause-above
starve-ended-requires-clause-above c = (row-within (tables_of c.self.inside) c.args.number Ready c.self.invariant.stands (rw (← c.self.view_is) at c.requires.ready)).0

pub starve-ended-requires-clause-within : goal.starve-ended-requires-clause-within
starve-ended-requires-clause-within c = (row-within (tables_of c.self.inside) c.args.number Ready c.self.invariant.stands (rw (← c.self.view_is) at c.requires.ready)).1

pub tell-woken-requires : goal.tell-woken-requires
tell-woken-requires c =
    rw (c.starve-ended.ensures.ended c.get-row.result.now c.get-row.ensures, c.born-born.ensures)
    (starve-tells (tables_of c.self.inside) c.args.worker c.args.number c.get-row.result.now c.self.invariant.stands (rw (← c.self.view_is) at c.requires.worker) (rw (← c.self.view_is) at c.requires.ready) c.get-row.ensures c.close.new.joins c.close.ensures)

pub wake-requires-clause-within : goal.wake-requires-clause-within
wake-requires-clause-within c =
    let tells = rw (c.starve-ended.ensures.ended c.get-row.result.now c.get-row.ensures, c.born-born.ensures) at c.tell-woken.ensures.tells in
    rw (c.starve-ended.ensures.items c.get-row.result.now c.get-row.ensures)
    (if-woken c.tell-woken.result c.self.inside.rows.items (c.args.number - 1) (closed stage.Starved c.get-row.result.now)
    (starve-wakes (tables_of c.self.inside) c.args.worker c.args.number c.get-row.result.now c.self.invariant.stands (rw (← c.self.view_is) at c.requires.worker) (rw (← c.self.view_is) at c.requires.ready) c.get-row.ensures
    c.close.new.joins c.close.ensures c.leave.new.queues c.tell-woken.new.joins c.tell-woken.result (rw c.born-born.ensures at c.leave.ensures.leaves) tells (rw c.born-born.ensures at c.tell-woken.ensures.woken)))

pub wake-requires-clause-room : goal.wake-requires-clause-room
wake-requires-clause-room c =
    let room = rw (← c.self.view_is) at c.requires.room in
    omega (arith, room, c.self.invariant.room_ready, c.remove.ensures.spare)

pub overflow_sub-self : goal.overflow_sub-self
overflow_sub-self c =
    live-above (tables_of c.self.inside) c.args.number c.get-row.result.now c.self.invariant.stands (rw (← c.self.view_is) at c.requires.ready) c.get-row.ensures

pub remove-requires : goal.remove-requires
remove-requires c = rw c.self.invariant.stands.ready (numbers-rise row_ready c.self.inside.rows.items)

pub wake-requires-clause-rising : goal.wake-requires-clause-rising
wake-requires-clause-rising c = rw c.remove.ensures.numbers (without-rises c.args.number 0 c.self.inside.ready.numbers (rw c.self.invariant.stands.ready (numbers-rise row_ready c.self.inside.rows.items)))

pub invariant_of-self : goal.invariant_of-self
invariant_of-self c =
    let room = rw (← c.self.view_is) at c.requires.room in
    let tells = rw (c.starve-ended.ensures.ended c.get-row.result.now c.get-row.ensures, c.born-born.ensures) at c.tell-woken.ensures.tells in
    record {
      stands = rw (c.append_reserved.ensures.past, c.append_reserved.ensures.workers, c.append_reserved.ensures.turns, c.wake.ensures.rows, c.starve-ended.ensures.items c.get-row.result.now c.get-row.ensures, c.wake.ensures.numbers, c.remove.ensures.numbers)
          (stands-starve (tables_of c.self.inside) c.args.worker c.args.number c.get-row.result.now c.self.invariant.stands (rw (← c.self.view_is) at c.requires.worker) (rw (← c.self.view_is) at c.requires.ready) c.get-row.ensures
          c.close.new.joins c.close.ensures c.leave.new.queues c.tell-woken.new.joins c.tell-woken.result (rw c.born-born.ensures at c.leave.ensures.leaves) tells (rw c.born-born.ensures at c.tell-woken.ensures.woken) c.settle.new.self c.settle.ensures);
      few = c.self.invariant.few;
      room_small = omega (arith, room, c.self.invariant.room_small);
      room_journal = omega (arith, room, c.append_reserved.ensures.spare, c.self.invariant.room_journal);
      room_rows = omega (arith, room, c.starve-ended.ensures.spare, c.wake.ensures.spare, c.self.invariant.room_rows);
      room_ready = omega (arith, room, c.remove.ensures.spare, c.wake.ensures.room, c.self.invariant.room_ready);
    }

pub returns-clause-legal : goal.returns-clause-legal
returns-clause-legal c = (invariant_of-self c).stands.legal

pub returns-clause-outside : goal.returns-clause-outside
returns-clause-outside c =
    rw (← c.self.view_is, c.wake.ensures.rows)
    (behind-outside c.tell-woken.result c.starve-ended.new.self.items
    ∙ rw (c.starve-ended.ensures.items c.get-row.result.now c.get-row.ensures)
    (leave-at row_outside c.self.inside.rows.items c.args.number (closed stage.Starved c.get-row.result.now) (row-within (tables_of c.self.inside) c.args.number Ready c.self.invariant.stands (rw (← c.self.view_is) at c.requires.ready)).0 refl))
