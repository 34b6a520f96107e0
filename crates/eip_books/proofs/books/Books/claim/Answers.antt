use Rattle.std.proofs.Common.{arith, ◌≡◌, ◌-◌, length, refl, ap, ◌∙◌}
use Rattle.std.proofs.lemmas.List.{length-reverse}
use Rattle.eip_ledger.specs.declared.place.Place.TheVariants.{Ready}
use Rattle.eip_frames.specs.declared.request.Request.TheVariants as request
use Rattle.eip_tables.specs.State.{row_outside}
use Rattle.eip_tables.specs.Moves.{answered}
use Rattle.eip_table_laws.proofs.Bounds.{within-limit}
use Rattle.eip_table_laws.proofs.OwnCalls.{row-within}
use Rattle.eip_table_laws.proofs.KeyCalls.{stands-offered}
use Rattle.eip_table_laws.proofs.LookCalls.{known-state, known-request}
use Rattle.eip_table_laws.proofs.ListedNumbers.{leave-at}
use Rattle.eip_books.specs.Facts.{tables_of}
use Rattle.eip_books.proofs.books.Books.claim.Goals as goal

pub overflow_add-needed-2 : goal.overflow_add-needed-2
overflow_add-needed-2 c = omega (arith, within-limit (tables_of c.self.inside) c.self.invariant.stands, c.self.invariant.stands.legal.few_turns)

pub overflow_add-needed-3 : goal.overflow_add-needed-3
overflow_add-needed-3 c = omega (arith, within-limit (tables_of c.self.inside) c.self.invariant.stands, c.self.invariant.stands.legal.few_turns)

pub get-row-requires-clause-above : goal.get-row-requires-clause-above
get-row-requires-clause-above c = (row-within (tables_of c.self.inside) c.args.number Ready c.self.invariant.stands (rw (← c.self.view_is) at c.requires.ready)).0

pub get-row-requires-clause-within : goal.get-row-requires-clause-within
get-row-requires-clause-within c = (row-within (tables_of c.self.inside) c.args.number Ready c.self.invariant.stands (rw (← c.self.view_is) at c.requires.ready)).1

pub offer_key-requires : goal.offer_key-requires
offer_key-requires c =
    let k = c.requires.key in
    let asks = rw (← c.self.view_is) at k.asks in
    record {
      repository = k.repository;
      key = k.key;
      eager = k.eager;
      remove = k.remove;
      asks = known-request c.self.inside.rows.items (c.args.number - 1) c.get-row.result.now (request.Idem k.repository k.key k.eager k.remove) c.get-row.ensures asks;
    }

pub answer-requires-clause-above : goal.answer-requires-clause-above
answer-requires-clause-above c = (row-within (tables_of c.self.inside) c.args.number Ready c.self.invariant.stands (rw (← c.self.view_is) at c.requires.ready)).0

pub answer-requires-clause-within : goal.answer-requires-clause-within
answer-requires-clause-within c = (row-within (tables_of c.self.inside) c.args.number Ready c.self.invariant.stands (rw (← c.self.view_is) at c.requires.ready)).1

pub invariant_of-self-2 : goal.invariant_of-self-2
invariant_of-self-2 c =
    let worker = rw (← c.self.view_is) at c.requires.worker in
    let ready = rw (← c.self.view_is) at c.requires.ready in
    let below = rw (← c.self.view_is) at c.requires.below in
    let k = c.requires.key in
    let asks = rw (← c.self.view_is) at k.asks in
    let q = request.Idem k.repository k.key k.eager k.remove in
    let s = known-state c.self.inside.rows.items (c.args.number - 1) c.get-row.result.now q c.get-row.ensures asks in
    let is = known-request c.self.inside.rows.items (c.args.number - 1) c.get-row.result.now q c.get-row.ensures asks in
    let entry : length c.entries-entry.result.now ≡ length c.self.inside.journal.past = ap length c.entries-entry.ensures ∙ (length-reverse _ ∙ ap length c.make_room.ensures.past) in
    let room = c.in_ok-make_room.ensures.journal in
    let offers = c.in_ok-offered.ensures.ok k.repository k.key k.eager k.remove is in
    record {
      stands = rw (c.append_answer.ensures.past, c.append_answer.ensures.workers, c.append_answer.ensures.turns, c.make_room.ensures.past, c.make_room.ensures.workers, c.make_room.ensures.turns, c.make_room.ensures.items, c.answer.ensures.items c.get-row.result.now c.get-row.ensures, entry, c.key_answer.ensures)
          (stands-offered (tables_of c.self.inside) c.args.worker c.args.number c.self.invariant.stands worker s.0 c.get-row.result.now ready c.get-row.ensures k.repository k.key k.eager k.remove s.1 below c.offer_key.new.keys c.in_ok-offered.offered offers);
      few = c.self.invariant.few;
      room_small = c.self.invariant.room_small;
      room_journal = omega (arith, room, c.append_answer.ensures.spare);
      room_rows = omega (arith, c.answer.ensures.spare, c.self.invariant.room_rows);
      room_ready = c.self.invariant.room_ready;
    }

pub returns-clause-outside : goal.returns-clause-outside
returns-clause-outside c =
    rw (← c.self.view_is, c.answer.ensures.items c.get-row.result.now c.get-row.ensures)
    (leave-at row_outside c.self.inside.rows.items c.args.number (answered (length c.entries-entry.result.now) c.get-row.result.now) (row-within (tables_of c.self.inside) c.args.number Ready c.self.invariant.stands (rw (← c.self.view_is) at c.requires.ready)).0 refl)

pub returns-clause-legal : goal.returns-clause-legal
returns-clause-legal c = (invariant_of-self-2 c).stands.legal
