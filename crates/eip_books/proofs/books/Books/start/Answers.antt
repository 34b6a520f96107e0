use Rattle.std.proofs.Common.{arith, ◌-◌, ◌∙◌, sym, refl}
use Rattle.eip_tables.specs.State.{row_outside}
use Rattle.eip_tables.specs.Moves.{started}
use Rattle.eip_tables.specs.Rows.{row_ready}
use Rattle.eip_tables.proofs.NumbersRise.{numbers-rise}
use Rattle.eip_books.specs.Facts.{tables_of}
use Rattle.eip_table_laws.proofs.RowNumbers.{numbers-stay}
use Rattle.eip_table_laws.proofs.QueueCalls.{queues-many}
use Rattle.eip_table_laws.proofs.QueueStarts.{started-first, started-none, queues-started, first-startable}
use Rattle.eip_table_laws.proofs.FirstQueue.{queue-found, queue-none, queue-small}
use Rattle.eip_table_laws.proofs.CopyCalls.{start-within, start-some, waits-not-outside, stands-start}
use Rattle.eip_books.proofs.books.Books.start.Goals as goal

pub returns-in_err-queue-clause-exact : goal.returns-in_err-queue-clause-exact
returns-in_err-queue-clause-exact c =
    rw (c.from_residual.ensures, ← c.self.view_is) (queue-none c.self.inside.set c.self.inside.journal.past c.self.inside.queues c.self.invariant.stands.queues (sym c.first_startable.ensures ∙ c.in_err-queue.was))

pub overflow_cast-queue : goal.overflow_cast-queue
overflow_cast-queue c =
    let f = queue-found c.self.inside.set c.self.inside.journal.past c.self.inside.queues c.self.invariant.stands.queues c.in_ok-queue.field-0 (sym c.first_startable.ensures ∙ c.in_ok-queue.was) in
    omega (arith, queue-small c.self.inside.set c.self.inside.journal.past c.in_ok-queue.field-0 f, c.self.invariant.few)

pub start-requires : goal.start-requires
start-requires c =
    let f = queue-found c.self.inside.set c.self.inside.journal.past c.self.inside.queues c.self.invariant.stands.queues c.in_ok-queue.field-0 (sym c.first_startable.ensures ∙ c.in_ok-queue.was) in
    omega (arith, f.within, queues-many c.self.inside.queues c.self.invariant.stands.queues)

pub unreachable-requires : goal.unreachable-requires
unreachable-requires c =
    let f = queue-found c.self.inside.set c.self.inside.journal.past c.self.inside.queues c.self.invariant.stands.queues c.in_ok-queue.field-0 (sym c.first_startable.ensures ∙ c.in_ok-queue.was) in
    let none = started-none c.self.inside.set c.self.inside.journal.past c.in_ok-queue.field-0 c.self.inside.queues c.start.result c.self.invariant.stands.queues f.within c.start.ensures.number c.in_default.is in
    let is = f.is in
    cc

pub start-requires-2-clause-above : goal.start-requires-2-clause-above
start-requires-2-clause-above c =
    let f = queue-found c.self.inside.set c.self.inside.journal.past c.self.inside.queues c.self.invariant.stands.queues c.in_ok-queue.field-0 (sym c.first_startable.ensures ∙ c.in_ok-queue.was) in
    let one = started-first c.self.inside.set c.self.inside.journal.past c.in_ok-queue.field-0 c.self.inside.queues c.start.result c.self.invariant.stands.queues f.within c.start.ensures.number c.in-Some.number c.in-Some.is in
    (start-within (tables_of c.self.inside) c.args.worker c.in_ok-queue.field-0 c.in-Some.number c.self.invariant.stands (rw (← c.self.view_is) at c.requires.worker) (one.0, one.1, rw (← c.self.view_is) at c.requires.below)).0

pub start-requires-2-clause-within : goal.start-requires-2-clause-within
start-requires-2-clause-within c =
    let f = queue-found c.self.inside.set c.self.inside.journal.past c.self.inside.queues c.self.invariant.stands.queues c.in_ok-queue.field-0 (sym c.first_startable.ensures ∙ c.in_ok-queue.was) in
    let one = started-first c.self.inside.set c.self.inside.journal.past c.in_ok-queue.field-0 c.self.inside.queues c.start.result c.self.invariant.stands.queues f.within c.start.ensures.number c.in-Some.number c.in-Some.is in
    (start-within (tables_of c.self.inside) c.args.worker c.in_ok-queue.field-0 c.in-Some.number c.self.invariant.stands (rw (← c.self.view_is) at c.requires.worker) (one.0, one.1, rw (← c.self.view_is) at c.requires.below)).1

pub put_in-requires-clause-rising : goal.put_in-requires-clause-rising
put_in-requires-clause-rising c = rw c.self.invariant.stands.ready (numbers-rise row_ready c.self.inside.rows.items)

pub invariant_of-self : goal.invariant_of-self
invariant_of-self c =
    let room = rw (← c.self.view_is) at c.requires.room in
    let f = queue-found c.self.inside.set c.self.inside.journal.past c.self.inside.queues c.self.invariant.stands.queues c.in_ok-queue.field-0 (sym c.first_startable.ensures ∙ c.in_ok-queue.was) in
    let one = started-first c.self.inside.set c.self.inside.journal.past c.in_ok-queue.field-0 c.self.inside.queues c.start.result c.self.invariant.stands.queues f.within c.start.ensures.number c.in-Some.number c.in-Some.is in
    let r = start-some (tables_of c.self.inside) c.args.worker c.in_ok-queue.field-0 c.in-Some.number c.self.invariant.stands (rw (← c.self.view_is) at c.requires.worker) (one.0, one.1, rw (← c.self.view_is) at c.requires.below) in
    record {
      stands = rw (c.append_reserved.ensures.past, c.append_reserved.ensures.workers, c.append_reserved.ensures.turns, c.start-2.ensures.items r.0 r.1, c.put_in.ensures.numbers)
          (stands-start (tables_of c.self.inside) c.args.worker c.in_ok-queue.field-0 c.in-Some.number c.self.invariant.stands (rw (← c.self.view_is) at c.requires.worker) (one.0, one.1, rw (← c.self.view_is) at c.requires.below) r.0 r.1 c.start.new.self
          (λ legal. queues-started c.self.inside.set c.self.inside.journal.workers c.self.inside.journal.turns c.args.worker c.in_ok-queue.field-0 c.in-Some.number c.self.inside.journal.past c.self.inside.queues c.start.new.self c.start.result c.in-Some.is legal c.start.ensures.stands c.self.invariant.stands.queues));
      few = c.self.invariant.few;
      room_small = omega (arith, room, c.self.invariant.room_small);
      room_journal = omega (arith, room, c.append_reserved.ensures.spare, c.self.invariant.room_journal);
      room_rows = omega (arith, room, c.start-2.ensures.spare, c.self.invariant.room_rows);
      room_ready = omega (arith, room, c.put_in.ensures.spare, c.self.invariant.room_ready);
    }

pub returns-clause-starts : goal.returns-clause-starts
returns-clause-starts c =
    let f = queue-found c.self.inside.set c.self.inside.journal.past c.self.inside.queues c.self.invariant.stands.queues c.in_ok-queue.field-0 (sym c.first_startable.ensures ∙ c.in_ok-queue.was) in
    let one = started-first c.self.inside.set c.self.inside.journal.past c.in_ok-queue.field-0 c.self.inside.queues c.start.result c.self.invariant.stands.queues f.within c.start.ensures.number c.in-Some.number c.in-Some.is in
    let below = rw (← c.self.view_is) at c.requires.below in
    rw (← c.self.view_is) (record {
      queue = c.in_ok-queue.field-0;
      is_first = first-startable c.self.inside.set c.self.inside.journal.past c.in_ok-queue.field-0 c.in-Some.number one.0 one.1 f.first;
      may = (one.0, one.1, below);
      adds = record { same = record { set = refl; workers = c.append_reserved.ensures.workers; turns = c.append_reserved.ensures.turns }; past = c.append_reserved.ensures.past };
    })

pub returns-clause-outside : goal.returns-clause-outside
returns-clause-outside c =
    let f = queue-found c.self.inside.set c.self.inside.journal.past c.self.inside.queues c.self.invariant.stands.queues c.in_ok-queue.field-0 (sym c.first_startable.ensures ∙ c.in_ok-queue.was) in
    let one = started-first c.self.inside.set c.self.inside.journal.past c.in_ok-queue.field-0 c.self.inside.queues c.start.result c.self.invariant.stands.queues f.within c.start.ensures.number c.in-Some.number c.in-Some.is in
    let r = start-some (tables_of c.self.inside) c.args.worker c.in_ok-queue.field-0 c.in-Some.number c.self.invariant.stands (rw (← c.self.view_is) at c.requires.worker) (one.0, one.1, rw (← c.self.view_is) at c.requires.below) in
    rw (← c.self.view_is, c.start-2.ensures.items r.0 r.1)
    (numbers-stay row_outside 1 c.self.inside.rows.items (c.in-Some.number - 1) r.0 (started r.0) r.1
    (waits-not-outside (tables_of c.self.inside) c.args.worker c.in_ok-queue.field-0 c.in-Some.number c.self.invariant.stands (rw (← c.self.view_is) at c.requires.worker) (one.0, one.1, rw (← c.self.view_is) at c.requires.below) r.0 r.1))

pub returns-clause-legal : goal.returns-clause-legal
returns-clause-legal c = (invariant_of-self c).stands.legal
