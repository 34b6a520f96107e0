use Rattle.std.proofs.Common.{arith, ◌≡◌, ◌-◌, ◌+◌, [], ◌∷◌, ◌++◌, length, set as put_at, Some, Err, map, refl, ap, sym, ◌∙◌}
use Rattle.std.proofs.lemmas.List.{length-reverse}
use Rattle.eip_ledger.specs.declared.place.Place.TheVariants.{Ready}
use Rattle.eip_books.specs.Facts.{tables_of}
use Rattle.eip_tables.specs.State.{row_outside, known_of}
use Rattle.eip_tables.specs.Moves.{answered, copy_row}
use Rattle.eip_tables.specs.Offers.{AsksOffer, offer_asked, offered_message, copy_birth, hops_by}
use Rattle.eip_table_laws.proofs.Bounds.{within-limit, live-within, rows-are}
use Rattle.eip_table_laws.proofs.OwnCalls.{row-within, offer-within, hops-few, stands-queued, stands-refused}
use Rattle.eip_table_laws.proofs.OfferCalls.{offer-request, offer-known, births-few}
use Rattle.eip_table_laws.proofs.QueueCalls.{queues-many}
use Rattle.eip_table_laws.proofs.QueueStarts.{room-none, room-left}
use Rattle.eip_table_laws.proofs.RowNumbers.{push-none}
use Rattle.eip_table_laws.proofs.ListedNumbers.{leave-at}
use Rattle.eip_books.proofs.books.Books.offer.Goals as goal

pub overflow_add-needed-2 : goal.overflow_add-needed-2
overflow_add-needed-2 c = omega (arith, within-limit (tables_of c.self.inside) c.self.invariant.stands, c.self.invariant.stands.legal.few_turns)

pub overflow_add-needed-3 : goal.overflow_add-needed-3
overflow_add-needed-3 c = omega (arith, within-limit (tables_of c.self.inside) c.self.invariant.stands, c.self.invariant.stands.legal.few_turns)

pub overflow_add-next : goal.overflow_add-next
overflow_add-next c =
    let many = ap length c.reserve.ensures.items in
    let few = births-few c.self.inside.set c.self.inside.journal.workers c.self.inside.journal.turns c.self.inside.journal.past c.self.invariant.stands.legal.entries c.self.invariant.stands.simple in
    omega (arith, c.len.ensures, many, rows-are (tables_of c.self.inside) c.self.invariant.stands, few, c.self.invariant.stands.turns, within-limit (tables_of c.self.inside) c.self.invariant.stands, c.self.invariant.stands.legal.few_turns)

pub overflow_add-self : goal.overflow_add-self
overflow_add-self c =
    let few = births-few c.self.inside.set c.self.inside.journal.workers c.self.inside.journal.turns c.self.inside.journal.past c.self.invariant.stands.legal.entries c.self.invariant.stands.simple in
    omega (arith, live-within (tables_of c.self.inside) c.self.invariant.stands, rows-are (tables_of c.self.inside) c.self.invariant.stands, few, c.self.invariant.stands.turns, within-limit (tables_of c.self.inside) c.self.invariant.stands, c.self.invariant.stands.legal.few_turns)

pub get-row-requires-clause-above : goal.get-row-requires-clause-above
get-row-requires-clause-above c = (row-within (tables_of c.self.inside) c.args.number Ready c.self.invariant.stands (rw (← c.self.view_is) at c.requires.ready)).0

pub get-row-requires-clause-within : goal.get-row-requires-clause-within
get-row-requires-clause-within c = rw c.reserve.ensures.items (row-within (tables_of c.self.inside) c.args.number Ready c.self.invariant.stands (rw (← c.self.view_is) at c.requires.ready)).1

pub unreachable-requires : goal.unreachable-requires
unreachable-requires c =
    let row = rw c.reserve.ensures.items at c.get-row.ensures in
    let copy : AsksOffer (map known_of c.self.inside.rows.items) c.args.number =
    record { queue = c.requires.copy.queue; discard = c.requires.copy.discard; message = c.requires.copy.message; asks = rw (← c.self.view_is) at c.requires.copy.asks } in
    let q = offer-request c.self.inside.rows.items c.args.number c.get-row.result.now row copy in
    c.in_default.not-Some (c.requires.copy.queue, c.requires.copy.discard) (c.offer_asked.ensures ∙ ap offer_asked q)

pub offer-requires : goal.offer-requires
offer-requires c =
    let row = rw c.reserve.ensures.items at c.get-row.ensures in
    let copy : AsksOffer (map known_of c.self.inside.rows.items) c.args.number =
    record { queue = c.requires.copy.queue; discard = c.requires.copy.discard; message = c.requires.copy.message; asks = rw (← c.self.view_is) at c.requires.copy.asks } in
    let k = offer-known c.self.inside.rows.items c.args.number c.get-row.result.now row copy c.in-Some.queue c.in-Some.discard (sym c.offer_asked.ensures ∙ c.in-Some.is) in
    let l = offer-within (tables_of c.self.inside) c.args.worker c.args.number c.self.invariant.stands (rw (← c.self.view_is) at c.requires.worker) k.0 c.get-row.result.now (rw (← c.self.view_is) at c.requires.ready) row c.in-Some.queue c.in-Some.discard c.requires.copy.message k.1 in
    omega (arith, l, queues-many c.self.inside.queues c.self.invariant.stands.queues)

pub answer-requires-clause-above : goal.answer-requires-clause-above
answer-requires-clause-above c = (row-within (tables_of c.self.inside) c.args.number Ready c.self.invariant.stands (rw (← c.self.view_is) at c.requires.ready)).0

pub answer-requires-clause-within : goal.answer-requires-clause-within
answer-requires-clause-within c = rw c.reserve.ensures.items (row-within (tables_of c.self.inside) c.args.number Ready c.self.invariant.stands (rw (← c.self.view_is) at c.requires.ready)).1

pub answer-requires-in-Err-QueueFull-clause-above : goal.answer-requires-in-Err-QueueFull-clause-above
answer-requires-in-Err-QueueFull-clause-above c = (row-within (tables_of c.self.inside) c.args.number Ready c.self.invariant.stands (rw (← c.self.view_is) at c.requires.ready)).0

pub answer-requires-in-Err-QueueFull-clause-within : goal.answer-requires-in-Err-QueueFull-clause-within
answer-requires-in-Err-QueueFull-clause-within c = rw c.reserve.ensures.items (row-within (tables_of c.self.inside) c.args.number Ready c.self.invariant.stands (rw (← c.self.view_is) at c.requires.ready)).1

pub offered_birth-birth-requires : goal.offered_birth-birth-requires
offered_birth-birth-requires c =
    let row = rw c.reserve.ensures.items at c.get-row.ensures in
    let copy : AsksOffer (map known_of c.self.inside.rows.items) c.args.number =
    record { queue = c.requires.copy.queue; discard = c.requires.copy.discard; message = c.requires.copy.message; asks = rw (← c.self.view_is) at c.requires.copy.asks } in
    let k = offer-known c.self.inside.rows.items c.args.number c.get-row.result.now row copy c.in-Some.queue c.in-Some.discard (sym c.offer_asked.ensures ∙ c.in-Some.is) in
    let few = hops-few (tables_of c.self.inside) c.args.worker c.args.number c.self.invariant.stands (rw (← c.self.view_is) at c.requires.worker) k.0 c.get-row.result.now (rw (← c.self.view_is) at c.requires.ready) row _ k.1 (rw (← c.self.view_is) at c.requires.below) in
    omega (arith, few, c.hops-hops.ensures)

pub invariant_of-self-in-Ok : goal.invariant_of-self-in-Ok
invariant_of-self-in-Ok c =
    let row = rw c.reserve.ensures.items at c.get-row.ensures in
    let copy : AsksOffer (map known_of c.self.inside.rows.items) c.args.number =
    record { queue = c.requires.copy.queue; discard = c.requires.copy.discard; message = c.requires.copy.message; asks = rw (← c.self.view_is) at c.requires.copy.asks } in
    let worker = rw (← c.self.view_is) at c.requires.worker in
    let ready = rw (← c.self.view_is) at c.requires.ready in
    let below = rw (← c.self.view_is) at c.requires.below in
    let k = offer-known c.self.inside.rows.items c.args.number c.get-row.result.now row copy c.in-Some.queue c.in-Some.discard (sym c.offer_asked.ensures ∙ c.in-Some.is) in
    let q = offer-request c.self.inside.rows.items c.args.number c.get-row.result.now row copy in
    let within = offer-within (tables_of c.self.inside) c.args.worker c.args.number c.self.invariant.stands worker k.0 c.get-row.result.now ready row c.in-Some.queue c.in-Some.discard c.requires.copy.message k.1 in
    let room = room-left c.self.inside.set c.self.inside.journal.past c.in-Some.queue c.self.inside.queues _ c.self.invariant.stands.queues within c.in-Ok.ensures.full (λ size h. cc h) in
    let next : c.len.result + 1 ≡ length c.self.inside.rows.items + 1 = ap (λ n. n + 1) (c.len.ensures ∙ ap length c.reserve.ensures.items) in
    let entry : length c.entries-entry.result.now ≡ length c.self.inside.journal.past = ap length c.entries-entry.ensures ∙ (length-reverse _ ∙ ap length c.make_room.ensures.past) in
    let said : c.offered_message.result ≡ Some c.requires.copy.message = c.offered_message.ensures ∙ (ap offered_message (c.answer.ensures.request c.get-row.result.now c.get-row.ensures) ∙ ap offered_message q) in
    let is = c.in-Some-offered_message.is in
    let message : c.in-Some-offered_message.message ≡ c.requires.copy.message = cc in
    let born : c.queued.result ≡ copy_row c.in-Some.queue (copy_birth c.self.inside.set (length c.self.inside.rows.items + 1) c.in-Some.queue (hops_by c.get-row.result.now.born c.get-row.result.now.birth) c.requires.copy.message) =
    c.queued.ensures ∙ rw (c.offered_birth-birth.ensures, next, c.hops-hops.ensures, message) refl in
    let rows : c.put_last.new.self.items ≡ put_at c.self.inside.rows.items (c.args.number - 1) (answered (length c.self.inside.journal.past) c.get-row.result.now)
    ++ copy_row c.in-Some.queue (copy_birth c.self.inside.set (length c.self.inside.rows.items + 1) c.in-Some.queue (hops_by c.get-row.result.now.born c.get-row.result.now.birth) c.requires.copy.message) ∷ [] = c.put_last.ensures.items ∙ rw (c.answer.ensures.items c.get-row.result.now c.get-row.ensures, c.reserve.ensures.items, born, entry) refl in
    let spare = c.in_ok-make_room.ensures.journal in
    let more = c.in_ok-reserve.ensures.ok in
    record {
      stands = rw (c.append_answer.ensures.past, c.append_answer.ensures.workers, c.append_answer.ensures.turns, c.make_room.ensures.past, c.make_room.ensures.workers, c.make_room.ensures.turns, c.make_room.ensures.items, rows, next)
          (stands-queued (tables_of c.self.inside) c.args.worker c.args.number c.self.invariant.stands worker k.0 c.get-row.result.now ready row c.in-Some.queue c.in-Some.discard c.requires.copy.message k.1 below room c.offer.new.self (rw next at c.in-Ok.ensures.ok));
      few = c.self.invariant.few;
      room_small = c.self.invariant.room_small;
      room_journal = omega (arith, spare, c.append_answer.ensures.spare);
      room_rows = omega (arith, more, c.answer.ensures.spare, c.put_last.ensures.spare);
      room_ready = c.self.invariant.room_ready;
    }

pub invariant_of-self-in-Err-QueueFull : goal.invariant_of-self-in-Err-QueueFull
invariant_of-self-in-Err-QueueFull c =
    let row = rw c.reserve.ensures.items at c.get-row.ensures in
    let copy : AsksOffer (map known_of c.self.inside.rows.items) c.args.number =
    record { queue = c.requires.copy.queue; discard = c.requires.copy.discard; message = c.requires.copy.message; asks = rw (← c.self.view_is) at c.requires.copy.asks } in
    let worker = rw (← c.self.view_is) at c.requires.worker in
    let ready = rw (← c.self.view_is) at c.requires.ready in
    let below = rw (← c.self.view_is) at c.requires.below in
    let k = offer-known c.self.inside.rows.items c.args.number c.get-row.result.now row copy c.in-Some.queue c.in-Some.discard (sym c.offer_asked.ensures ∙ c.in-Some.is) in
    let within = offer-within (tables_of c.self.inside) c.args.worker c.args.number c.self.invariant.stands worker k.0 c.get-row.result.now ready row c.in-Some.queue c.in-Some.discard c.requires.copy.message k.1 in
    let full = room-none c.self.inside.set c.self.inside.journal.past c.in-Some.queue c.self.inside.queues _ c.self.invariant.stands.queues within c.in-Err-QueueFull.ensures.full c.in-Err-QueueFull.size (ap Err c.in-Err-QueueFull.field-0-is) in
    let entry : length c.entries-entry.result.now ≡ length c.self.inside.journal.past = ap length c.entries-entry.ensures ∙ (length-reverse _ ∙ ap length c.make_room.ensures.past) in
    let spare = c.in_ok-make_room.ensures.journal in
    let more = c.in_ok-reserve.ensures.ok in
    record {
      stands = rw (c.append_answer-in-Err-QueueFull.ensures.past, c.append_answer-in-Err-QueueFull.ensures.workers, c.append_answer-in-Err-QueueFull.ensures.turns, c.make_room.ensures.past, c.make_room.ensures.workers, c.make_room.ensures.turns, c.make_room.ensures.items, c.answer-in-Err-QueueFull.ensures.items c.get-row.result.now c.get-row.ensures, c.reserve.ensures.items, entry, c.refusal.ensures, c.in-Err-QueueFull.ensures.err)
          (stands-refused (tables_of c.self.inside) c.args.worker c.args.number c.self.invariant.stands worker k.0 c.get-row.result.now ready row c.in-Some.queue c.in-Some.discard c.in-Err-QueueFull.size c.requires.copy.message k.1 below full.0 full.1);
      few = c.self.invariant.few;
      room_small = c.self.invariant.room_small;
      room_journal = omega (arith, spare, c.append_answer-in-Err-QueueFull.ensures.spare);
      room_rows = omega (arith, more, c.answer-in-Err-QueueFull.ensures.spare);
      room_ready = c.self.invariant.room_ready;
    }

pub returns-in-Some-offered_message-clause-outside : goal.returns-in-Some-offered_message-clause-outside
returns-in-Some-offered_message-clause-outside c =
    rw (← c.self.view_is, c.put_last.ensures.items)
    (push-none row_outside c.answer.new.self.items c.queued.result (ap row_outside c.queued.ensures)
    ∙ rw (c.answer.ensures.items c.get-row.result.now c.get-row.ensures, c.reserve.ensures.items)
    (leave-at row_outside c.self.inside.rows.items c.args.number (answered (length c.entries-entry.result.now) c.get-row.result.now) (row-within (tables_of c.self.inside) c.args.number Ready c.self.invariant.stands (rw (← c.self.view_is) at c.requires.ready)).0 refl))

pub returns-in-Some-offered_message-clause-legal : goal.returns-in-Some-offered_message-clause-legal
returns-in-Some-offered_message-clause-legal c = (invariant_of-self-in-Ok c).stands.legal

pub returns-in-Err-QueueFull-clause-outside : goal.returns-in-Err-QueueFull-clause-outside
returns-in-Err-QueueFull-clause-outside c =
    rw (← c.self.view_is, c.answer-in-Err-QueueFull.ensures.items c.get-row.result.now c.get-row.ensures, c.reserve.ensures.items)
    (leave-at row_outside c.self.inside.rows.items c.args.number (answered (length c.entries-entry.result.now) c.get-row.result.now) (row-within (tables_of c.self.inside) c.args.number Ready c.self.invariant.stands (rw (← c.self.view_is) at c.requires.ready)).0 refl)

pub returns-in-Err-QueueFull-clause-legal : goal.returns-in-Err-QueueFull-clause-legal
returns-in-Err-QueueFull-clause-legal c = (invariant_of-self-in-Err-QueueFull c).stands.legal
