use Rattle.std.proofs.Common.{arith, ◌≡◌, ◌-◌, false, Some, sym, ap, subst, ◌∙◌}
use Rattle.std.proofs.lemmas.Option.{same_Some}
use Rattle.eip_exchange.specs.declared.end.Ending.{Ending}
use Rattle.eip_exchange.specs.Ends.{ending_of}
use Rattle.eip_tables.specs.Keys.{Settles, ending_asked}
use Rattle.eip_ledger.specs.declared.place.Place.TheVariants.{Ready}
use Rattle.eip_frames.specs.declared.request.Request.TheVariants as request
use Rattle.eip_tables.specs.Moves.{finished, finished_asked, finished_by, end_asked}
use Rattle.eip_tables.specs.State.{row_outside}
use Rattle.eip_table_laws.proofs.Bounds.{within-limit}
use Rattle.eip_table_laws.proofs.OwnCalls.{row-within, ready-some, stands-finish, finish-leaves, finish-tells, finish-wakes, live-above}
use Rattle.eip_table_laws.proofs.LookCalls.{known-state, known-request}
use Rattle.eip_table_laws.proofs.ListedNumbers.{leave-at}
use Rattle.eip_table_laws.proofs.HandCalls.{finished-not-outside}
use Rattle.eip_tables.specs.Rows.{row_ready}
use Rattle.eip_tables.proofs.NumbersRise.{numbers-rise, without-rises}
use Rattle.eip_books.specs.Facts.{tables_of}
use Rattle.eip_table_laws.proofs.Ending.{behind-outside}
use Rattle.eip_books.proofs.Waking.{if-woken}
use Rattle.eip_books.proofs.books.Books.finish.Goals as goal

pub overflow_add-needed-2 : goal.overflow_add-needed-2
overflow_add-needed-2 c = omega (arith, within-limit (tables_of c.self.inside) c.self.invariant.stands, c.self.invariant.stands.legal.few_turns)

pub overflow_add-needed-3 : goal.overflow_add-needed-3
overflow_add-needed-3 c = omega (arith, within-limit (tables_of c.self.inside) c.self.invariant.stands, c.self.invariant.stands.legal.few_turns)

pub overflow_add-self-inside-2 : goal.overflow_add-self-inside-2
overflow_add-self-inside-2 c = omega (arith, c.self.invariant.room_small, within-limit (tables_of c.self.inside) c.self.invariant.stands, c.self.invariant.stands.legal.few_turns)

pub overflow_add-self-inside-3 : goal.overflow_add-self-inside-3
overflow_add-self-inside-3 c = omega (arith, c.self.invariant.room_small, within-limit (tables_of c.self.inside) c.self.invariant.stands, c.self.invariant.stands.legal.few_turns)

pub get-row-requires-clause-above : goal.get-row-requires-clause-above
get-row-requires-clause-above c = (row-within (tables_of c.self.inside) c.args.number Ready c.self.invariant.stands (rw (← c.self.view_is) at c.requires.ready)).0

pub get-row-requires-clause-within : goal.get-row-requires-clause-within
get-row-requires-clause-within c = (row-within (tables_of c.self.inside) c.args.number Ready c.self.invariant.stands (rw (← c.self.view_is) at c.requires.ready)).1

pub leave-requires : goal.leave-requires
leave-requires c =
    let asks = rw (← c.self.view_is) at c.requires.end.asks in
    let k = known-state c.self.inside.rows.items (c.args.number - 1) c.get-row.result.now (request.Finish c.requires.end.end c.requires.end.message false) c.get-row.ensures asks in
    rw c.born-born.ensures (finish-leaves (tables_of c.self.inside) c.args.worker c.args.number c.self.invariant.stands (rw (← c.self.view_is) at c.requires.worker) k.0 c.get-row.result.now (rw (← c.self.view_is) at c.requires.ready) c.get-row.ensures
    c.requires.end.end c.requires.end.message k.1 (rw (← c.self.view_is) at c.requires.below))

pub finish_asked-woken-requires-clause-above : goal.finish_asked-woken-requires-clause-above
finish_asked-woken-requires-clause-above c = (row-within (tables_of c.self.inside) c.args.number Ready c.self.invariant.stands (rw (← c.self.view_is) at c.requires.ready)).0

pub finish_asked-woken-requires-clause-within : goal.finish_asked-woken-requires-clause-within
finish_asked-woken-requires-clause-within c = (row-within (tables_of c.self.inside) c.args.number Ready c.self.invariant.stands (rw (← c.self.view_is) at c.requires.ready)).1

pub finish_asked-woken-requires-clause-may : goal.finish_asked-woken-requires-clause-may
finish_asked-woken-requires-clause-may c = λ r is.
    let asks = rw (← c.self.view_is) at c.requires.end.asks in
    let k = known-state c.self.inside.rows.items (c.args.number - 1) c.get-row.result.now (request.Finish c.requires.end.end c.requires.end.message false) c.get-row.ensures asks in
    let same : r ≡ c.get-row.result.now = same_Some r c.get-row.result.now (sym is ∙ c.get-row.ensures) in
    rw (same, c.in_ok-told.ensures)
    (finish-tells (tables_of c.self.inside) c.args.worker c.args.number c.self.invariant.stands (rw (← c.self.view_is) at c.requires.worker) k.0 c.get-row.result.now (rw (← c.self.view_is) at c.requires.ready) c.get-row.ensures
    c.requires.end.end c.requires.end.message k.1 (rw (← c.self.view_is) at c.requires.below))

pub wake-requires-clause-within : goal.wake-requires-clause-within
wake-requires-clause-within c =
    let asks = rw (← c.self.view_is) at c.requires.end.asks in
    let k = known-state c.self.inside.rows.items (c.args.number - 1) c.get-row.result.now (request.Finish c.requires.end.end c.requires.end.message false) c.get-row.ensures asks in
    let tells = rw c.in_ok-told.ensures at (c.finish_asked-woken.ensures.tells c.get-row.result.now c.get-row.ensures) in
    rw (c.finish_asked-woken.ensures.items c.get-row.result.now c.get-row.ensures)
    (if-woken c.finish_asked-woken.result c.self.inside.rows.items (c.args.number - 1) (finished_asked c.get-row.result.now)
    (finish-wakes (tables_of c.self.inside) c.args.worker c.args.number c.self.invariant.stands (rw (← c.self.view_is) at c.requires.worker) k.0 c.get-row.result.now (rw (← c.self.view_is) at c.requires.ready) c.get-row.ensures
    c.requires.end.end c.requires.end.message k.1 c.leave.new.queues c.finish_asked-woken.new.joins c.finish_asked-woken.result (rw (← c.self.view_is) at c.requires.below) (rw c.born-born.ensures at c.leave.ensures.leaves) tells (c.finish_asked-woken.ensures.woken c.get-row.result.now c.get-row.ensures)))

pub wake-requires-clause-room : goal.wake-requires-clause-room
wake-requires-clause-room c = omega (arith, c.in_ok-reserve.ensures.ok, c.remove.ensures.spare)

pub overflow_sub-self : goal.overflow_sub-self
overflow_sub-self c =
    let r = ready-some (tables_of c.self.inside) c.args.number c.self.invariant.stands (rw (← c.self.view_is) at c.requires.ready) in
    live-above (tables_of c.self.inside) c.args.number r.0 c.self.invariant.stands (rw (← c.self.view_is) at c.requires.ready) r.1

pub remove-requires : goal.remove-requires
remove-requires c = rw (c.reserve.ensures.numbers, c.self.invariant.stands.ready) (numbers-rise row_ready c.self.inside.rows.items)

pub wake-requires-clause-rising : goal.wake-requires-clause-rising
wake-requires-clause-rising c = rw c.remove.ensures.numbers (without-rises c.args.number 0 c.reserve.new.self.numbers (rw (c.reserve.ensures.numbers, c.self.invariant.stands.ready) (numbers-rise row_ready c.self.inside.rows.items)))

pub invariant_of-self-2 : goal.invariant_of-self-2
invariant_of-self-2 c =
    let asks = rw (← c.self.view_is) at c.requires.end.asks in
    let k = known-state c.self.inside.rows.items (c.args.number - 1) c.get-row.result.now (request.Finish c.requires.end.end c.requires.end.message false) c.get-row.ensures asks in
    let q = known-request c.self.inside.rows.items (c.args.number - 1) c.get-row.result.now (request.Finish c.requires.end.end c.requires.end.message false) c.get-row.ensures asks in
    let ended : finished_asked c.get-row.result.now ≡ finished c.requires.end.end c.get-row.result.now = ap (λ o. finished_by (end_asked o) c.get-row.result.now) q in
    let tells = rw c.in_ok-told.ensures at (c.finish_asked-woken.ensures.tells c.get-row.result.now c.get-row.ensures) in
    let told : Some c.in-Some.ending ≡ Some (ending_of c.requires.end.end) = sym c.in-Some.is ∙ (c.ending_asked.ensures ∙ ap ending_asked q) in
    let ending : c.in-Some.ending ≡ ending_of c.requires.end.end = cc in
    let room = c.in_ok-make_room.ensures.journal in
    let more = c.in_ok-reserve.ensures.ok in
    record {
      stands = rw (c.append_answer.ensures.past, c.append_answer.ensures.workers, c.append_answer.ensures.turns, c.make_room.ensures.past, c.make_room.ensures.workers, c.make_room.ensures.turns, c.make_room.ensures.items, c.wake.ensures.rows, c.finish_asked-woken.ensures.items c.get-row.result.now c.get-row.ensures, c.wake.ensures.numbers, c.remove.ensures.numbers, c.reserve.ensures.numbers, ended)
          (stands-finish (tables_of c.self.inside) c.args.worker c.args.number c.self.invariant.stands (rw (← c.self.view_is) at c.requires.worker) k.0 c.get-row.result.now (rw (← c.self.view_is) at c.requires.ready) c.get-row.ensures
          c.requires.end.end c.requires.end.message k.1 c.leave.new.queues c.finish_asked-woken.new.joins c.finish_asked-woken.result (rw (← c.self.view_is) at c.requires.below) (rw c.born-born.ensures at c.leave.ensures.leaves) tells (c.finish_asked-woken.ensures.woken c.get-row.result.now c.get-row.ensures) c.settle.new.self (subst (λ (v : Ending). Settles c.args.number v c.self.inside.keys c.settle.new.self) ending c.settle.ensures));
      few = c.self.invariant.few;
      room_small = c.self.invariant.room_small;
      room_journal = omega (arith, room, c.append_answer.ensures.spare);
      room_rows = omega (arith, c.finish_asked-woken.ensures.spare, c.wake.ensures.spare, c.self.invariant.room_rows);
      room_ready = omega (arith, more, c.remove.ensures.spare, c.wake.ensures.room);
    }

pub returns-clause-legal : goal.returns-clause-legal
returns-clause-legal c = (invariant_of-self-2 c).stands.legal

pub returns-clause-outside : goal.returns-clause-outside
returns-clause-outside c =
    let asks = rw (← c.self.view_is) at c.requires.end.asks in
    let q = known-request c.self.inside.rows.items (c.args.number - 1) c.get-row.result.now (request.Finish c.requires.end.end c.requires.end.message false) c.get-row.ensures asks in
    let ended : finished_asked c.get-row.result.now ≡ finished c.requires.end.end c.get-row.result.now = ap (λ o. finished_by (end_asked o) c.get-row.result.now) q in
    rw (← c.self.view_is, c.wake.ensures.rows)
    (behind-outside c.finish_asked-woken.result c.finish_asked-woken.new.self.items
    ∙ rw (c.finish_asked-woken.ensures.items c.get-row.result.now c.get-row.ensures)
    (leave-at row_outside c.self.inside.rows.items c.args.number (finished_asked c.get-row.result.now) (row-within (tables_of c.self.inside) c.args.number Ready c.self.invariant.stands (rw (← c.self.view_is) at c.requires.ready)).0
    (ap row_outside ended ∙ finished-not-outside c.requires.end.end c.get-row.result.now)))
