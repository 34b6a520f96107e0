use Rattle.std.proofs.Common.{arith, ◌≡◌, ℕ, ◌-◌, ◌+◌, [], ◌∷◌, ◌++◌, length, set as put_at, Some, None, refl, sym, ap, subst, ◌∙◌}
use Rattle.std.proofs.lemmas.List.{length-reverse}
use Rattle.eip_ledger.specs.declared.place.Place.TheVariants.{Ready}
use Rattle.eip_frames.specs.declared.request.Request.TheVariants as request
use Rattle.eip_frames.specs.declared.answer.Answer.TheVariants as reply
use Rattle.eip_ledger.specs.declared.entry.Kind.TheVariants.{Answer}
use Rattle.eip_tables.specs.Stands.{Stands}
use Rattle.eip_tables.specs.Groups.{settings, group_calls, group_row, coming}
use Rattle.eip_tables.specs.State.{row_outside}
use Rattle.eip_tables.specs.Moves.{answered}
use Rattle.eip_table_laws.proofs.Bounds.{within-limit, live-within, rows-are}
use Rattle.eip_table_laws.proofs.OwnCalls.{row-within}
use Rattle.eip_table_laws.proofs.OfferCalls.{births-few}
use Rattle.eip_table_laws.proofs.GroupLaws.{calls-few}
use Rattle.eip_table_laws.proofs.GroupCalls.{stands-unfit, stands-arrived, stands-closed}
use Rattle.eip_table_laws.proofs.GroupRows.{groups-outside}
use Rattle.eip_table_laws.proofs.LookCalls.{known-state, known-request}
use Rattle.eip_table_laws.proofs.ListedNumbers.{leave-at}
use Rattle.eip_books.specs.Facts.{tables_of}
use Rattle.eip_books.proofs.OpenGroups.{closed-number}
use Rattle.eip_books.proofs.books.Books.arrive.Goals as goal

pub overflow_add-needed-2 : goal.overflow_add-needed-2
overflow_add-needed-2 c = omega (arith, within-limit (tables_of c.self.inside) c.self.invariant.stands, c.self.invariant.stands.legal.few_turns)

pub overflow_add-needed-3 : goal.overflow_add-needed-3
overflow_add-needed-3 c = omega (arith, within-limit (tables_of c.self.inside) c.self.invariant.stands, c.self.invariant.stands.legal.few_turns)

pub overflow_add-self-inside-4 : goal.overflow_add-self-inside-4
overflow_add-self-inside-4 c = omega (arith, c.self.invariant.room_small, within-limit (tables_of c.self.inside) c.self.invariant.stands, c.self.invariant.stands.legal.few_turns)

pub overflow_add-self-inside-5 : goal.overflow_add-self-inside-5
overflow_add-self-inside-5 c = omega (arith, c.self.invariant.room_small, within-limit (tables_of c.self.inside) c.self.invariant.stands, c.self.invariant.stands.legal.few_turns)

pub overflow_add-next : goal.overflow_add-next
overflow_add-next c =
    let born = births-few c.self.inside.set c.self.inside.journal.workers c.self.inside.journal.turns c.self.inside.journal.past c.self.invariant.stands.legal.entries c.self.invariant.stands.simple in
    let rows = ap length c.reserve.ensures.items in
    omega (arith, c.len.ensures, rows, rows-are (tables_of c.self.inside) c.self.invariant.stands, born, c.self.invariant.stands.turns, within-limit (tables_of c.self.inside) c.self.invariant.stands, c.self.invariant.stands.legal.few_turns)

pub get-row-requires-clause-above : goal.get-row-requires-clause-above
get-row-requires-clause-above c = (row-within (tables_of c.self.inside) c.args.number Ready c.self.invariant.stands (rw (← c.self.view_is) at c.requires.ready)).0

pub get-row-requires-clause-within : goal.get-row-requires-clause-within
get-row-requires-clause-within c = rw c.reserve.ensures.items (row-within (tables_of c.self.inside) c.args.number Ready c.self.invariant.stands (rw (← c.self.view_is) at c.requires.ready)).1

pub come-requires-clause-asks : goal.come-requires-clause-asks
come-requires-clause-asks c =
    let row = rw c.reserve.ensures.items at c.get-row.ensures in
    let group = c.requires.group in
    let q = request.Arrive group.aggregator group.key group.message in
    let asks = rw (← c.self.view_is) at group.asks in
    record { aggregator = group.aggregator; key = group.key; message = group.message; asks = known-request c.self.inside.rows.items (c.args.number - 1) c.get-row.result.now q row asks }

pub come-requires-clause-told : goal.come-requires-clause-told
come-requires-clause-told c =
    let few = calls-few c.self.inside.set c.self.inside.journal.past in
    let many : length c.entries-entry.result.now ≡ length c.self.inside.journal.past = ap length c.entries-entry.ensures ∙ (length-reverse _ ∙ ap length c.make_room.ensures.past) in
    record { calls = group_calls c.self.inside.set c.self.inside.journal.past; stands = c.self.invariant.stands.groups.stands; few = omega (arith, few, many) }

pub answer-requires-clause-above : goal.answer-requires-clause-above
answer-requires-clause-above c = (row-within (tables_of c.self.inside) c.args.number Ready c.self.invariant.stands (rw (← c.self.view_is) at c.requires.ready)).0

pub answer-requires-clause-within : goal.answer-requires-clause-within
answer-requires-clause-within c = rw c.reserve.ensures.items (row-within (tables_of c.self.inside) c.args.number Ready c.self.invariant.stands (rw (← c.self.view_is) at c.requires.ready)).1

pub invariant_of-self-in-Unfit : goal.invariant_of-self-in-Unfit
invariant_of-self-in-Unfit c =
    let row = rw c.reserve.ensures.items at c.get-row.ensures in
    let group = c.requires.group in
    let q = request.Arrive group.aggregator group.key group.message in
    let asks = rw (← c.self.view_is) at group.asks in
    let worker = rw (← c.self.view_is) at c.requires.worker in
    let ready = rw (← c.self.view_is) at c.requires.ready in
    let below = rw (← c.self.view_is) at c.requires.below in
    let set = c.self.inside.set in
    let calls = group_calls set c.self.inside.journal.past in
    let gs = c.self.invariant.stands.groups.stands in
    let k = known-state c.self.inside.rows.items (c.args.number - 1) c.get-row.result.now q row asks in
    let is = known-request c.self.inside.rows.items (c.args.number - 1) c.get-row.result.now q row asks in
    let entry : length c.entries-entry.result.now ≡ length c.self.inside.journal.past = ap length c.entries-entry.ensures ∙ (length-reverse _ ∙ ap length c.make_room.ensures.past) in
    let rows : c.answer.new.self.items ≡ put_at c.self.inside.rows.items (c.args.number - 1) (answered (length c.self.inside.journal.past) c.get-row.result.now) =
    c.answer.ensures.items c.get-row.result.now c.get-row.ensures ∙ rw (c.reserve.ensures.items, entry) refl in
    let room = c.in_ok-make_room.ensures.journal in
    let came = c.in_ok-came.ensures.ok group.aggregator group.key group.message is in
    let unfit = rw c.in-Unfit.is at came in
    let same = unfit.3 in
    record {
      stands = rw (c.append_answer.ensures.past, c.append_answer.ensures.workers, c.append_answer.ensures.turns, c.make_room.ensures.past, c.make_room.ensures.workers, c.make_room.ensures.turns, c.make_room.ensures.items, rows, c.reserve-2.ensures.numbers, unfit.1, same)
          (stands-unfit (tables_of c.self.inside) c.args.worker c.args.number c.self.invariant.stands worker k.0 c.get-row.result.now ready row group.aggregator group.key group.message k.1 below unfit.0 (unfit.2.says calls gs));
      few = c.self.invariant.few;
      room_small = c.self.invariant.room_small;
      room_journal = omega (arith, room, c.append_answer.ensures.spare);
      room_rows = omega (arith, c.in_ok-reserve.ensures.ok, c.answer.ensures.spare);
      room_ready = omega (arith, c.in_ok-reserve-2.ensures.ok);
    }

pub invariant_of-self-in-Open : goal.invariant_of-self-in-Open
invariant_of-self-in-Open c =
    let row = rw c.reserve.ensures.items at c.get-row.ensures in
    let group = c.requires.group in
    let q = request.Arrive group.aggregator group.key group.message in
    let asks = rw (← c.self.view_is) at group.asks in
    let worker = rw (← c.self.view_is) at c.requires.worker in
    let ready = rw (← c.self.view_is) at c.requires.ready in
    let below = rw (← c.self.view_is) at c.requires.below in
    let set = c.self.inside.set in
    let calls = group_calls set c.self.inside.journal.past in
    let gs = c.self.invariant.stands.groups.stands in
    let k = known-state c.self.inside.rows.items (c.args.number - 1) c.get-row.result.now q row asks in
    let is = known-request c.self.inside.rows.items (c.args.number - 1) c.get-row.result.now q row asks in
    let entry : length c.entries-entry.result.now ≡ length c.self.inside.journal.past = ap length c.entries-entry.ensures ∙ (length-reverse _ ∙ ap length c.make_room.ensures.past) in
    let rows : c.answer.new.self.items ≡ put_at c.self.inside.rows.items (c.args.number - 1) (answered (length c.self.inside.journal.past) c.get-row.result.now) =
    c.answer.ensures.items c.get-row.result.now c.get-row.ensures ∙ rw (c.reserve.ensures.items, entry) refl in
    let room = c.in_ok-make_room.ensures.journal in
    let came = c.in_ok-came.ensures.ok group.aggregator group.key group.message is in
    let joins = rw c.in-Open.is at came in
    let added = joins.adds calls gs in
    record {
      stands = rw (c.append_answer-in-Open.ensures.past, c.append_answer-in-Open.ensures.workers, c.append_answer-in-Open.ensures.turns, c.make_room.ensures.past, c.make_room.ensures.workers, c.make_room.ensures.turns, c.make_room.ensures.items, rows, c.reserve-2.ensures.numbers)
          (stands-arrived (tables_of c.self.inside) c.args.worker c.args.number c.self.invariant.stands worker k.0 c.get-row.result.now ready row group.aggregator group.key group.message k.1 below c.come.new.groups (joins.came calls gs) added.0 added.1 (record { group = c.in-Open.group; closed = None }) (joins.answers calls gs) refl);
      few = c.self.invariant.few;
      room_small = c.self.invariant.room_small;
      room_journal = omega (arith, room, c.append_answer-in-Open.ensures.spare);
      room_rows = omega (arith, c.in_ok-reserve.ensures.ok, c.answer.ensures.spare);
      room_ready = omega (arith, c.in_ok-reserve-2.ensures.ok);
    }

pub overflow_add-self-in-Shut : goal.overflow_add-self-in-Shut
overflow_add-self-in-Shut c =
    let born = births-few c.self.inside.set c.self.inside.journal.workers c.self.inside.journal.turns c.self.inside.journal.past c.self.invariant.stands.legal.entries c.self.invariant.stands.simple in
    let rows = ap length c.reserve.ensures.items in
    omega (arith, live-within (tables_of c.self.inside) c.self.invariant.stands, rows-are (tables_of c.self.inside) c.self.invariant.stands, born, c.self.invariant.stands.turns, within-limit (tables_of c.self.inside) c.self.invariant.stands, c.self.invariant.stands.legal.few_turns)

pub invariant_of-self-in-Shut : goal.invariant_of-self-in-Shut
invariant_of-self-in-Shut c =
    let row = rw c.reserve.ensures.items at c.get-row.ensures in
    let group = c.requires.group in
    let q = request.Arrive group.aggregator group.key group.message in
    let asks = rw (← c.self.view_is) at group.asks in
    let worker = rw (← c.self.view_is) at c.requires.worker in
    let ready = rw (← c.self.view_is) at c.requires.ready in
    let below = rw (← c.self.view_is) at c.requires.below in
    let set = c.self.inside.set in
    let calls = group_calls set c.self.inside.journal.past in
    let gs = c.self.invariant.stands.groups.stands in
    let k = known-state c.self.inside.rows.items (c.args.number - 1) c.get-row.result.now q row asks in
    let is = known-request c.self.inside.rows.items (c.args.number - 1) c.get-row.result.now q row asks in
    let entry : length c.entries-entry.result.now ≡ length c.self.inside.journal.past = ap length c.entries-entry.ensures ∙ (length-reverse _ ∙ ap length c.make_room.ensures.past) in
    let rows : c.answer.new.self.items ≡ put_at c.self.inside.rows.items (c.args.number - 1) (answered (length c.self.inside.journal.past) c.get-row.result.now) =
    c.answer.ensures.items c.get-row.result.now c.get-row.ensures ∙ rw (c.reserve.ensures.items, entry) refl in
    let room = c.in_ok-make_room.ensures.journal in
    let came = c.in_ok-came.ensures.ok group.aggregator group.key group.message is in
    let shut = rw c.in-Shut.is at came in
    let joins = shut.1 in
    let added = joins.adds calls gs in
    let number : c.in-Shut.closed.group ≡ shut.0 = closed-number (settings set) calls (group.aggregator, group.key) (coming set c.args.number c.self.inside.clock c.get-row.result.now group.message) (record { group = shut.0; closed = Some c.in-Shut.closed }) c.in-Shut.closed (joins.answers calls gs) refl in
    let next : c.len.result + 1 ≡ length c.self.inside.rows.items + 1 = ap (λ (n : ℕ). n + 1) (c.len.ensures ∙ ap length c.reserve.ensures.items) in
    record {
      stands = rw (c.append_answer-in-Shut.ensures.past, c.append_answer-in-Shut.ensures.workers, c.append_answer-in-Shut.ensures.turns, c.make_room.ensures.past, c.make_room.ensures.workers, c.make_room.ensures.turns, c.make_room.ensures.items, c.put_last.ensures.items, c.newborn_of.ensures, rows, c.put_last-in-Shut.ensures.numbers, c.reserve-2.ensures.numbers, next)
          (subst (λ (n : ℕ). Stands set c.self.inside.journal.workers c.self.inside.journal.turns ((record { worker = c.args.worker; kind = Answer c.args.number (reply.Closed n c.in-Shut.closed.cause (length c.self.inside.rows.items + 1)) }) ∷ c.self.inside.journal.past)
          (record (tables_of c.self.inside) {
            rows = put_at c.self.inside.rows.items (c.args.number - 1) (answered (length c.self.inside.journal.past) c.get-row.result.now) ++ (group_row set (length c.self.inside.rows.items + 1) c.in-Shut.closed) ∷ [];
            ready = c.self.inside.ready.numbers ++ (length c.self.inside.rows.items + 1) ∷ [];
            turns = c.self.inside.turns + 1;
            live = c.self.inside.live + 1;
            groups = c.come.new.groups;
          })) (sym number)
          (stands-closed (tables_of c.self.inside) c.args.worker c.args.number c.self.invariant.stands worker k.0 c.get-row.result.now ready row group.aggregator group.key group.message k.1 below c.come.new.groups (joins.came calls gs) added.0 added.1 (record { group = shut.0; closed = Some c.in-Shut.closed }) (joins.answers calls gs) c.in-Shut.closed refl));
      few = c.self.invariant.few;
      room_small = c.self.invariant.room_small;
      room_journal = omega (arith, room, c.append_answer-in-Shut.ensures.spare);
      room_rows = omega (arith, c.in_ok-reserve.ensures.ok, c.answer.ensures.spare, c.put_last.ensures.spare);
      room_ready = omega (arith, c.in_ok-reserve-2.ensures.ok, c.put_last-in-Shut.ensures.spare);
    }

pub returns-in-Unfit-clause-outside : goal.returns-in-Unfit-clause-outside
returns-in-Unfit-clause-outside c =
    rw (← c.self.view_is, c.answer.ensures.items c.get-row.result.now c.get-row.ensures, c.reserve.ensures.items)
    (leave-at row_outside c.self.inside.rows.items c.args.number (answered (length c.entries-entry.result.now) c.get-row.result.now) (row-within (tables_of c.self.inside) c.args.number Ready c.self.invariant.stands (rw (← c.self.view_is) at c.requires.ready)).0 refl)

pub returns-in-Unfit-clause-legal : goal.returns-in-Unfit-clause-legal
returns-in-Unfit-clause-legal c = (invariant_of-self-in-Unfit c).stands.legal

pub returns-in-Open-clause-outside : goal.returns-in-Open-clause-outside
returns-in-Open-clause-outside c =
    rw (← c.self.view_is, c.answer.ensures.items c.get-row.result.now c.get-row.ensures, c.reserve.ensures.items)
    (leave-at row_outside c.self.inside.rows.items c.args.number (answered (length c.entries-entry.result.now) c.get-row.result.now) (row-within (tables_of c.self.inside) c.args.number Ready c.self.invariant.stands (rw (← c.self.view_is) at c.requires.ready)).0 refl)

pub returns-in-Open-clause-legal : goal.returns-in-Open-clause-legal
returns-in-Open-clause-legal c = (invariant_of-self-in-Open c).stands.legal

pub returns-in-Shut-clause-outside : goal.returns-in-Shut-clause-outside
returns-in-Shut-clause-outside c =
    rw (← c.self.view_is, c.put_last.ensures.items, c.newborn_of.ensures)
    (groups-outside c.self.inside.set (c.len.result + 1) (c.in-Shut.closed ∷ []) c.answer.new.self.items
    ∙ rw (c.answer.ensures.items c.get-row.result.now c.get-row.ensures, c.reserve.ensures.items) (leave-at row_outside c.self.inside.rows.items c.args.number (answered (length c.entries-entry.result.now) c.get-row.result.now) (row-within (tables_of c.self.inside) c.args.number Ready c.self.invariant.stands (rw (← c.self.view_is) at c.requires.ready)).0 refl))

pub returns-in-Shut-clause-legal : goal.returns-in-Shut-clause-legal
returns-in-Shut-clause-legal c = (invariant_of-self-in-Shut c).stands.legal
