use Rattle.std.proofs.Common.{arith, ℕ, List, ◌<◌, ◌-◌, length}
use Rattle.eip_route.specs.declared.route.RouteSet.{RouteSet}
use Rattle.eip_plan.specs.Plan.{plan_of}
use Rattle.eip_history.specs.Own.{Past}
use Rattle.eip_seda.specs.Consuming.{QueueView}
use Rattle.eip_tables.specs.Queues.{QueuesStand}
use Rattle.eip_tables.specs.Stands.{Tables, Stands}
use Rattle.eip_tables.specs.State.{row_outside}
use Rattle.eip_tables.specs.Moves.{started}
use Rattle.eip_tables.specs.Rows.{row_ready}
use Rattle.eip_tables.proofs.NumbersRise.{numbers-rise}
use Rattle.eip_books.specs.Facts.{tables_of}
use Rattle.eip_table_laws.proofs.RowNumbers.{numbers-stay}
use Rattle.eip_table_laws.proofs.QueueCalls.{queues-many}
use Rattle.eip_table_laws.proofs.QueueStarts.{started-first, started-none, queues-started}
use Rattle.eip_table_laws.proofs.CopyCalls.{start-within, start-some, waits-not-outside, stands-start}
use Rattle.eip_books.proofs.books.Books.start_in.Goals as goal

-- a queue of the set is one of its plan
known-queue : (set : RouteSet) (q : ℕ) → q < length set.routes → q < (plan_of set).routes
unfolding plan_of
known-queue set q h = h

pub start-requires : goal.start-requires
start-requires c =
    let within = known-queue c.self.inside.set c.args.queue (rw (← c.self.view_is) at c.requires.queue) in
    omega (arith, within, queues-many c.self.inside.queues c.self.invariant.stands.queues)

pub start-requires-2-clause-above : goal.start-requires-2-clause-above
start-requires-2-clause-above c =
    let within = known-queue c.self.inside.set c.args.queue (rw (← c.self.view_is) at c.requires.queue) in
    let one = started-first c.self.inside.set c.self.inside.journal.past c.args.queue c.self.inside.queues c.start.result c.self.invariant.stands.queues within c.start.ensures.number c.in-Some.number c.in-Some.is in
    (start-within (tables_of c.self.inside) c.args.worker c.args.queue c.in-Some.number c.self.invariant.stands (rw (← c.self.view_is) at c.requires.worker) (one.0, one.1, rw (← c.self.view_is) at c.requires.below)).0

pub start-requires-2-clause-within : goal.start-requires-2-clause-within
start-requires-2-clause-within c =
    let within = known-queue c.self.inside.set c.args.queue (rw (← c.self.view_is) at c.requires.queue) in
    let one = started-first c.self.inside.set c.self.inside.journal.past c.args.queue c.self.inside.queues c.start.result c.self.invariant.stands.queues within c.start.ensures.number c.in-Some.number c.in-Some.is in
    (start-within (tables_of c.self.inside) c.args.worker c.args.queue c.in-Some.number c.self.invariant.stands (rw (← c.self.view_is) at c.requires.worker) (one.0, one.1, rw (← c.self.view_is) at c.requires.below)).1

pub put_in-requires-clause-rising : goal.put_in-requires-clause-rising
put_in-requires-clause-rising c = rw c.self.invariant.stands.ready (numbers-rise row_ready c.self.inside.rows.items)

pub invariant_of-self-2 : goal.invariant_of-self-2
invariant_of-self-2 c =
    let room = rw (← c.self.view_is) at c.requires.room in
    let within = known-queue c.self.inside.set c.args.queue (rw (← c.self.view_is) at c.requires.queue) in
    let one = started-first c.self.inside.set c.self.inside.journal.past c.args.queue c.self.inside.queues c.start.result c.self.invariant.stands.queues within c.start.ensures.number c.in-Some.number c.in-Some.is in
    let r = start-some (tables_of c.self.inside) c.args.worker c.args.queue c.in-Some.number c.self.invariant.stands (rw (← c.self.view_is) at c.requires.worker) (one.0, one.1, rw (← c.self.view_is) at c.requires.below) in
    record {
      stands = rw (c.append_reserved.ensures.past, c.append_reserved.ensures.workers, c.append_reserved.ensures.turns, c.start-2.ensures.items r.0 r.1, c.put_in.ensures.numbers)
          (stands-start (tables_of c.self.inside) c.args.worker c.args.queue c.in-Some.number c.self.invariant.stands (rw (← c.self.view_is) at c.requires.worker) (one.0, one.1, rw (← c.self.view_is) at c.requires.below) r.0 r.1 c.start.new.self
          (λ legal. queues-started c.self.inside.set c.self.inside.journal.workers c.self.inside.journal.turns c.args.worker c.args.queue c.in-Some.number c.self.inside.journal.past c.self.inside.queues c.start.new.self c.start.result c.in-Some.is legal c.start.ensures.stands c.self.invariant.stands.queues));
      few = c.self.invariant.few;
      room_small = omega (arith, room, c.self.invariant.room_small);
      room_journal = omega (arith, room, c.append_reserved.ensures.spare, c.self.invariant.room_journal);
      room_rows = omega (arith, room, c.start-2.ensures.spare, c.self.invariant.room_rows);
      room_ready = omega (arith, room, c.put_in.ensures.spare, c.self.invariant.room_ready);
    }

pub returns-clause-may : goal.returns-clause-may
returns-clause-may c =
    let within = known-queue c.self.inside.set c.args.queue (rw (← c.self.view_is) at c.requires.queue) in
    let one = started-first c.self.inside.set c.self.inside.journal.past c.args.queue c.self.inside.queues c.start.result c.self.invariant.stands.queues within c.start.ensures.number c.in-Some.number c.in-Some.is in
    let below = rw (← c.self.view_is) at c.requires.below in
    rw (← c.self.view_is) (one.0, one.1, below)

pub returns-clause-outside : goal.returns-clause-outside
returns-clause-outside c =
    let within = known-queue c.self.inside.set c.args.queue (rw (← c.self.view_is) at c.requires.queue) in
    let one = started-first c.self.inside.set c.self.inside.journal.past c.args.queue c.self.inside.queues c.start.result c.self.invariant.stands.queues within c.start.ensures.number c.in-Some.number c.in-Some.is in
    let r = start-some (tables_of c.self.inside) c.args.worker c.args.queue c.in-Some.number c.self.invariant.stands (rw (← c.self.view_is) at c.requires.worker) (one.0, one.1, rw (← c.self.view_is) at c.requires.below) in
    rw (← c.self.view_is, c.start-2.ensures.items r.0 r.1)
    (numbers-stay row_outside 1 c.self.inside.rows.items (c.in-Some.number - 1) r.0 (started r.0) r.1
    (waits-not-outside (tables_of c.self.inside) c.args.worker c.args.queue c.in-Some.number c.self.invariant.stands (rw (← c.self.view_is) at c.requires.worker) (one.0, one.1, rw (← c.self.view_is) at c.requires.below) r.0 r.1))

pub returns-clause-legal : goal.returns-clause-legal
returns-clause-legal c = (invariant_of-self-2 c).stands.legal

pub returns-in_default-clause-exact : goal.returns-in_default-clause-exact
returns-in_default-clause-exact c =
    let within = known-queue c.self.inside.set c.args.queue (rw (← c.self.view_is) at c.requires.queue) in
    rw (← c.self.view_is) (started-none c.self.inside.set c.self.inside.journal.past c.args.queue c.self.inside.queues c.start.result c.self.invariant.stands.queues within c.start.ensures.number c.in_default.is)

-- the tables stand with queues that stand
with-queues : {set : RouteSet} {workers limit : ℕ} {past : Past} (t : Tables) (qs : List QueueView) → Stands set workers limit past t → QueuesStand set past qs
    → Stands set workers limit past (record t { queues = qs })
with-queues t qs s q = record {
  legal = s.legal;
  simple = s.simple;
  rows = s.rows;
  ready = s.ready;
  sources = s.sources;
  turns = s.turns;
  fault = s.fault;
  notes = s.notes;
  taken = s.taken;
  pulled = s.pulled;
  live = s.live;
  queues = q;
  joins = s.joins;
  clock = s.clock;
  sleepers = s.sleepers;
  groups = s.groups;
  keys = s.keys;
}

-- where nobody starts, the queues stand as before
pub invariant_of-self : goal.invariant_of-self
invariant_of-self c =
    let s = c.self.invariant.stands in
    let same = rw c.in_default.is at (c.start.ensures.stands _ _ s.queues.stands) in
    record {
      stands = with-queues (tables_of c.self.inside) c.start.new.self s (record { calls = s.queues.calls; stands = same; waits = s.queues.waits; works = s.queues.works; room = s.queues.room });
      few = c.self.invariant.few;
      room_small = c.self.invariant.room_small;
      room_journal = c.self.invariant.room_journal;
      room_rows = c.self.invariant.room_rows;
      room_ready = c.self.invariant.room_ready;
    }
