use Rattle.std.proofs.Common.{arith, ◌≡◌, ◌-◌, length, refl, ap, ◌∙◌}
use Rattle.std.proofs.lemmas.Bool.{lt-ltb, le-ltb}
use Rattle.std.proofs.lemmas.List.{length-reverse}
use Rattle.eip_ledger.specs.declared.place.Place.TheVariants.{Ready}
use Rattle.eip_frames.specs.declared.request.Request.TheVariants as request
use Rattle.eip_tables.specs.State.{row_outside}
use Rattle.eip_tables.specs.Moves.{answered, sleeping}
use Rattle.eip_table_laws.proofs.Bounds.{within-limit}
use Rattle.eip_table_laws.proofs.OwnCalls.{row-within}
use Rattle.eip_table_laws.proofs.SleepCalls.{wait-ticks, wait-awake, stands-asleep, stands-awake}
use Rattle.eip_table_laws.proofs.LookCalls.{known-state}
use Rattle.eip_table_laws.proofs.ListedNumbers.{leave-at}
use Rattle.eip_tables.specs.Rows.{row_ready}
use Rattle.eip_tables.specs.Sleepers.{due_moment}
use Rattle.eip_tables.proofs.NumbersRise.{numbers-rise}
use Rattle.eip_books.specs.Facts.{tables_of}
use Rattle.eip_books.proofs.books.Books.wait.Goals as goal

pub overflow_add-needed-2 : goal.overflow_add-needed-2
overflow_add-needed-2 c = omega (arith, within-limit (tables_of c.self.inside) c.self.invariant.stands, c.self.invariant.stands.legal.few_turns)

pub overflow_add-needed-3 : goal.overflow_add-needed-3
overflow_add-needed-3 c = omega (arith, within-limit (tables_of c.self.inside) c.self.invariant.stands, c.self.invariant.stands.legal.few_turns)

pub get-requires-clause-above : goal.get-requires-clause-above
get-requires-clause-above c = (row-within (tables_of c.self.inside) c.args.number Ready c.self.invariant.stands (rw (← c.self.view_is) at c.requires.ready)).0

pub get-requires-clause-within : goal.get-requires-clause-within
get-requires-clause-within c = (row-within (tables_of c.self.inside) c.args.number Ready c.self.invariant.stands (rw (← c.self.view_is) at c.requires.ready)).1

pub sleep-requires : goal.sleep-requires
sleep-requires c =
    let worker = rw (← c.self.view_is) at c.requires.worker in
    let ready = rw (← c.self.view_is) at c.requires.ready in
    let asks = rw (← c.self.view_is) at c.requires.moment.asks in
    let ticks = c.requires.moment.ticks in
    let k = known-state c.self.inside.rows.items (c.args.number - 1) c.get.result.now (request.Wait ticks) c.get.ensures asks in
    wait-awake (tables_of c.self.inside) c.args.worker c.args.number c.self.invariant.stands worker k.0 c.get.result.now ready c.get.ensures ticks k.1

pub sleep-requires-then-self-due-clause-above : goal.sleep-requires-then-self-due-clause-above
sleep-requires-then-self-due-clause-above c = (row-within (tables_of c.self.inside) c.args.number Ready c.self.invariant.stands (rw (← c.self.view_is) at c.requires.ready)).0

pub sleep-requires-then-self-due-clause-within : goal.sleep-requires-then-self-due-clause-within
sleep-requires-then-self-due-clause-within c = (row-within (tables_of c.self.inside) c.args.number Ready c.self.invariant.stands (rw (← c.self.view_is) at c.requires.ready)).1

pub remove-requires : goal.remove-requires
remove-requires c = rw c.self.invariant.stands.ready (numbers-rise row_ready c.self.inside.rows.items)

pub invariant_of-self-then-self-due : goal.invariant_of-self-then-self-due
invariant_of-self-then-self-due c =
    let worker = rw (← c.self.view_is) at c.requires.worker in
    let ready = rw (← c.self.view_is) at c.requires.ready in
    let asks = rw (← c.self.view_is) at c.requires.moment.asks in
    let ticks = c.requires.moment.ticks in
    let k = known-state c.self.inside.rows.items (c.args.number - 1) c.get.result.now (request.Wait ticks) c.get.ensures asks in
    let below = rw (← c.self.view_is) at c.requires.below in
    let told = c.ticks_asked.ensures ∙ wait-ticks (tables_of c.self.inside) c.args.worker c.args.number c.self.invariant.stands worker k.0 c.get.result.now ready c.get.ensures ticks k.1 in
    let two = rw c.in-Some.is at told in
    let same : c.in-Some.ticks ≡ ticks = cc in
    let due : c.due_moment-due.result ≡ due_moment c.self.inside.clock ticks = c.due_moment-due.ensures ∙ ap (λ n. due_moment c.self.inside.clock n) same in
    let entry : length c.entries-entry.result.now ≡ length c.self.inside.journal.past = ap length c.entries-entry.ensures ∙ (length-reverse _ ∙ ap length c.make_room.ensures.past) in
    let room = c.in_ok-make_room.ensures.journal in
    record {
      stands = rw (c.append_answer.ensures.past, c.append_answer.ensures.workers, c.append_answer.ensures.turns, c.make_room.ensures.past, c.make_room.ensures.workers, c.make_room.ensures.turns, c.make_room.ensures.items, c.sleep-then-self-due.ensures.items c.get.result.now c.get.ensures, c.remove.ensures.numbers, entry)
          (stands-asleep (tables_of c.self.inside) c.args.worker c.args.number c.self.invariant.stands worker k.0 c.get.result.now ready c.get.ensures ticks k.1 below c.due_moment-due.result due c.sleep.new.self (lt-ltb c.self.inside.clock c.due_moment-due.result c.if-self-due.true) c.in_ok-sleep.ensures.ok);
      few = c.self.invariant.few;
      room_small = c.self.invariant.room_small;
      room_journal = omega (arith, room, c.append_answer.ensures.spare);
      room_rows = omega (arith, c.sleep-then-self-due.ensures.spare, c.self.invariant.room_rows);
      room_ready = omega (arith, c.remove.ensures.spare, c.self.invariant.room_ready);
    }

pub answer-requires-clause-above : goal.answer-requires-clause-above
answer-requires-clause-above c = (row-within (tables_of c.self.inside) c.args.number Ready c.self.invariant.stands (rw (← c.self.view_is) at c.requires.ready)).0

pub answer-requires-clause-within : goal.answer-requires-clause-within
answer-requires-clause-within c = (row-within (tables_of c.self.inside) c.args.number Ready c.self.invariant.stands (rw (← c.self.view_is) at c.requires.ready)).1

pub invariant_of-self-else-self-due : goal.invariant_of-self-else-self-due
invariant_of-self-else-self-due c =
    let worker = rw (← c.self.view_is) at c.requires.worker in
    let ready = rw (← c.self.view_is) at c.requires.ready in
    let asks = rw (← c.self.view_is) at c.requires.moment.asks in
    let ticks = c.requires.moment.ticks in
    let k = known-state c.self.inside.rows.items (c.args.number - 1) c.get.result.now (request.Wait ticks) c.get.ensures asks in
    let below = rw (← c.self.view_is) at c.requires.below in
    let told = c.ticks_asked.ensures ∙ wait-ticks (tables_of c.self.inside) c.args.worker c.args.number c.self.invariant.stands worker k.0 c.get.result.now ready c.get.ensures ticks k.1 in
    let two = rw c.in-Some.is at told in
    let same : c.in-Some.ticks ≡ ticks = cc in
    let due : c.due_moment-due.result ≡ due_moment c.self.inside.clock ticks = c.due_moment-due.ensures ∙ ap (λ n. due_moment c.self.inside.clock n) same in
    let entry : length c.entries-entry.result.now ≡ length c.self.inside.journal.past = ap length c.entries-entry.ensures ∙ (length-reverse _ ∙ ap length c.make_room.ensures.past) in
    let room = c.in_ok-make_room.ensures.journal in
    record {
      stands = rw (c.append_answer-else-self-due.ensures.past, c.append_answer-else-self-due.ensures.workers, c.append_answer-else-self-due.ensures.turns, c.make_room.ensures.past, c.make_room.ensures.workers, c.make_room.ensures.turns, c.make_room.ensures.items, c.answer.ensures.items c.get.result.now c.get.ensures, entry)
          (stands-awake (tables_of c.self.inside) c.args.worker c.args.number c.self.invariant.stands worker k.0 c.get.result.now ready c.get.ensures ticks k.1 below c.due_moment-due.result due (le-ltb c.self.inside.clock c.due_moment-due.result c.if-self-due.false));
      few = c.self.invariant.few;
      room_small = c.self.invariant.room_small;
      room_journal = omega (arith, room, c.append_answer-else-self-due.ensures.spare);
      room_rows = omega (arith, c.answer.ensures.spare, c.self.invariant.room_rows);
      room_ready = c.self.invariant.room_ready;
    }

pub returns-in_ok-sleep-clause-outside : goal.returns-in_ok-sleep-clause-outside
returns-in_ok-sleep-clause-outside c =
    rw (← c.self.view_is, c.sleep-then-self-due.ensures.items c.get.result.now c.get.ensures)
    (leave-at row_outside c.self.inside.rows.items c.args.number (sleeping (length c.entries-entry.result.now) c.due_moment-due.result c.get.result.now) (row-within (tables_of c.self.inside) c.args.number Ready c.self.invariant.stands (rw (← c.self.view_is) at c.requires.ready)).0 refl)

pub returns-in_ok-sleep-clause-legal : goal.returns-in_ok-sleep-clause-legal
returns-in_ok-sleep-clause-legal c = (invariant_of-self-then-self-due c).stands.legal

pub returns-else-self-due-clause-outside : goal.returns-else-self-due-clause-outside
returns-else-self-due-clause-outside c =
    rw (← c.self.view_is, c.answer.ensures.items c.get.result.now c.get.ensures)
    (leave-at row_outside c.self.inside.rows.items c.args.number (answered (length c.entries-entry.result.now) c.get.result.now) (row-within (tables_of c.self.inside) c.args.number Ready c.self.invariant.stands (rw (← c.self.view_is) at c.requires.ready)).0 refl)

pub returns-else-self-due-clause-legal : goal.returns-else-self-due-clause-legal
returns-else-self-due-clause-legal c = (invariant_of-self-else-self-due c).stands.legal
