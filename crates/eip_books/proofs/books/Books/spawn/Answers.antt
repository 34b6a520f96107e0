use Rattle.std.proofs.Common.{arith, ◌≡◌, ◌-◌, ◌+◌, ◌++◌, length, set as put_at, refl, ap, ◌∙◌, length-append}
use Rattle.std.proofs.lemmas.List.{length-reverse}
use Rattle.std.proofs.Math.ListN.{length-set}
use Rattle.eip_ledger.specs.declared.place.Place.TheVariants.{Ready}
use Rattle.eip_frames.specs.declared.request.Request.TheVariants as request
use Rattle.eip_tables.specs.declared.parts.Parent.{Parent}
use Rattle.eip_tables.specs.Numbers.{row_numbers}
use Rattle.eip_tables.specs.State.{row_outside}
use Rattle.eip_tables.specs.Moves.{joining}
use Rattle.eip_tables.specs.Parts.{parent_of, seed_rows, seeds_asked, count_asked, at_by}
use Rattle.eip_table_laws.proofs.Bounds.{within-limit, live-within, rows-are}
use Rattle.eip_table_laws.proofs.OwnCalls.{row-within}
use Rattle.eip_table_laws.proofs.OfferCalls.{births-few}
use Rattle.eip_table_laws.proofs.PartCalls.{spawn-few, spawn-indexed, spawn-free, spawn-new, stands-born, born-outside}
use Rattle.eip_table_laws.proofs.LookCalls.{known-state, known-request}
use Rattle.eip_table_laws.proofs.ListedNumbers.{leave-at}
use Rattle.eip_tables.specs.Rows.{row_ready}
use Rattle.eip_tables.proofs.NumbersRise.{numbers-rise}
use Rattle.eip_books.specs.Facts.{tables_of}
use Rattle.eip_books.proofs.Waking.{from-many}
use Rattle.eip_books.proofs.books.Books.spawn.Goals as goal

pub get-row-requires-clause-above : goal.get-row-requires-clause-above
get-row-requires-clause-above c = (row-within (tables_of c.self.inside) c.args.number Ready c.self.invariant.stands (rw (← c.self.view_is) at c.requires.ready)).0

pub get-row-requires-clause-within : goal.get-row-requires-clause-within
get-row-requires-clause-within c = (row-within (tables_of c.self.inside) c.args.number Ready c.self.invariant.stands (rw (← c.self.view_is) at c.requires.ready)).1

pub overflow_add-first : goal.overflow_add-first
overflow_add-first c =
    let few = births-few c.self.inside.set c.self.inside.journal.workers c.self.inside.journal.turns c.self.inside.journal.past c.self.invariant.stands.legal.entries c.self.invariant.stands.simple in
    omega (arith, c.len.ensures, rows-are (tables_of c.self.inside) c.self.invariant.stands, few, c.self.invariant.stands.turns, within-limit (tables_of c.self.inside) c.self.invariant.stands, c.self.invariant.stands.legal.few_turns)

pub overflow_add-needed-2 : goal.overflow_add-needed-2
overflow_add-needed-2 c = omega (arith, within-limit (tables_of c.self.inside) c.self.invariant.stands, c.self.invariant.stands.legal.few_turns)

pub overflow_add-needed-3 : goal.overflow_add-needed-3
overflow_add-needed-3 c = omega (arith, within-limit (tables_of c.self.inside) c.self.invariant.stands, c.self.invariant.stands.legal.few_turns)

pub overflow_add-self-inside-2 : goal.overflow_add-self-inside-2
overflow_add-self-inside-2 c =
    let asks = rw (← c.self.view_is) at c.requires.parts.asks in
    let k = known-state c.self.inside.rows.items (c.args.number - 1) c.get-row.result.now (request.Spawn c.requires.parts.seeds) c.get-row.ensures asks in
    let q = known-request c.self.inside.rows.items (c.args.number - 1) c.get-row.result.now (request.Spawn c.requires.parts.seeds) c.get-row.ensures asks in
    let count : c.count_asked-count.result ≡ length c.requires.parts.seeds = c.count_asked-count.ensures ∙ ap count_asked q in
    let few = spawn-few (tables_of c.self.inside) c.args.worker c.args.number c.self.invariant.stands (rw (← c.self.view_is) at c.requires.worker) k.0 c.get-row.result.now (rw (← c.self.view_is) at c.requires.ready) c.get-row.ensures c.requires.parts.seeds k.1 in
    omega (arith, count, few, c.self.invariant.room_small, within-limit (tables_of c.self.inside) c.self.invariant.stands, c.self.invariant.stands.legal.few_turns)

pub overflow_add-self-inside-4 : goal.overflow_add-self-inside-4
overflow_add-self-inside-4 c =
    let asks = rw (← c.self.view_is) at c.requires.parts.asks in
    let k = known-state c.self.inside.rows.items (c.args.number - 1) c.get-row.result.now (request.Spawn c.requires.parts.seeds) c.get-row.ensures asks in
    let q = known-request c.self.inside.rows.items (c.args.number - 1) c.get-row.result.now (request.Spawn c.requires.parts.seeds) c.get-row.ensures asks in
    let count : c.count_asked-count.result ≡ length c.requires.parts.seeds = c.count_asked-count.ensures ∙ ap count_asked q in
    let few = spawn-few (tables_of c.self.inside) c.args.worker c.args.number c.self.invariant.stands (rw (← c.self.view_is) at c.requires.worker) k.0 c.get-row.result.now (rw (← c.self.view_is) at c.requires.ready) c.get-row.ensures c.requires.parts.seeds k.1 in
    omega (arith, count, few, c.self.invariant.room_small, within-limit (tables_of c.self.inside) c.self.invariant.stands, c.self.invariant.stands.legal.few_turns)

pub overflow_add-self-inside-5 : goal.overflow_add-self-inside-5
overflow_add-self-inside-5 c =
    let asks = rw (← c.self.view_is) at c.requires.parts.asks in
    let k = known-state c.self.inside.rows.items (c.args.number - 1) c.get-row.result.now (request.Spawn c.requires.parts.seeds) c.get-row.ensures asks in
    let q = known-request c.self.inside.rows.items (c.args.number - 1) c.get-row.result.now (request.Spawn c.requires.parts.seeds) c.get-row.ensures asks in
    let count : c.count_asked-count.result ≡ length c.requires.parts.seeds = c.count_asked-count.ensures ∙ ap count_asked q in
    let few = spawn-few (tables_of c.self.inside) c.args.worker c.args.number c.self.invariant.stands (rw (← c.self.view_is) at c.requires.worker) k.0 c.get-row.result.now (rw (← c.self.view_is) at c.requires.ready) c.get-row.ensures c.requires.parts.seeds k.1 in
    omega (arith, count, few, c.self.invariant.room_small, within-limit (tables_of c.self.inside) c.self.invariant.stands, c.self.invariant.stands.legal.few_turns)

pub overflow_cast-count : goal.overflow_cast-count
overflow_cast-count c =
    let asks = rw (← c.self.view_is) at c.requires.parts.asks in
    let k = known-state c.self.inside.rows.items (c.args.number - 1) c.get-row.result.now (request.Spawn c.requires.parts.seeds) c.get-row.ensures asks in
    let q = known-request c.self.inside.rows.items (c.args.number - 1) c.get-row.result.now (request.Spawn c.requires.parts.seeds) c.get-row.ensures asks in
    let count : c.count_asked-count.result ≡ length c.requires.parts.seeds = c.count_asked-count.ensures ∙ ap count_asked q in
    let few = spawn-few (tables_of c.self.inside) c.args.worker c.args.number c.self.invariant.stands (rw (← c.self.view_is) at c.requires.worker) k.0 c.get-row.result.now (rw (← c.self.view_is) at c.requires.ready) c.get-row.ensures c.requires.parts.seeds k.1 in
    omega (arith, count, few)

pub overflow_cast-answer : goal.overflow_cast-answer
overflow_cast-answer c =
    let asks = rw (← c.self.view_is) at c.requires.parts.asks in
    let k = known-state c.self.inside.rows.items (c.args.number - 1) c.get-row.result.now (request.Spawn c.requires.parts.seeds) c.get-row.ensures asks in
    let q = known-request c.self.inside.rows.items (c.args.number - 1) c.get-row.result.now (request.Spawn c.requires.parts.seeds) c.get-row.ensures asks in
    let count : c.count_asked-count.result ≡ length c.requires.parts.seeds = c.count_asked-count.ensures ∙ ap count_asked q in
    let few = spawn-few (tables_of c.self.inside) c.args.worker c.args.number c.self.invariant.stands (rw (← c.self.view_is) at c.requires.worker) k.0 c.get-row.result.now (rw (← c.self.view_is) at c.requires.ready) c.get-row.ensures c.requires.parts.seeds k.1 in
    omega (arith, count, few)

pub begin-requires-clause-free : goal.begin-requires-clause-free
begin-requires-clause-free c =
    let asks = rw (← c.self.view_is) at c.requires.parts.asks in
    let k = known-state c.self.inside.rows.items (c.args.number - 1) c.get-row.result.now (request.Spawn c.requires.parts.seeds) c.get-row.ensures asks in
    let q = known-request c.self.inside.rows.items (c.args.number - 1) c.get-row.result.now (request.Spawn c.requires.parts.seeds) c.get-row.ensures asks in
    let count : c.count_asked-count.result ≡ length c.requires.parts.seeds = c.count_asked-count.ensures ∙ ap count_asked q in
    spawn-free (tables_of c.self.inside) c.args.worker c.args.number c.self.invariant.stands (rw (← c.self.view_is) at c.requires.worker) k.0 c.get-row.result.now (rw (← c.self.view_is) at c.requires.ready) c.get-row.ensures c.requires.parts.seeds k.1

pub begin-requires-clause-fits : goal.begin-requires-clause-fits
begin-requires-clause-fits c =
    let asks = rw (← c.self.view_is) at c.requires.parts.asks in
    let k = known-state c.self.inside.rows.items (c.args.number - 1) c.get-row.result.now (request.Spawn c.requires.parts.seeds) c.get-row.ensures asks in
    let q = known-request c.self.inside.rows.items (c.args.number - 1) c.get-row.result.now (request.Spawn c.requires.parts.seeds) c.get-row.ensures asks in
    let count : c.count_asked-count.result ≡ length c.requires.parts.seeds = c.count_asked-count.ensures ∙ ap count_asked q in
    let few = spawn-few (tables_of c.self.inside) c.args.worker c.args.number c.self.invariant.stands (rw (← c.self.view_is) at c.requires.worker) k.0 c.get-row.result.now (rw (← c.self.view_is) at c.requires.ready) c.get-row.ensures c.requires.parts.seeds k.1 in
    let born = births-few c.self.inside.set c.self.inside.journal.workers c.self.inside.journal.turns c.self.inside.journal.past c.self.invariant.stands.legal.entries c.self.invariant.stands.simple in
    omega (arith, count, few, c.len.ensures, rows-are (tables_of c.self.inside) c.self.invariant.stands, born, c.self.invariant.stands.turns, within-limit (tables_of c.self.inside) c.self.invariant.stands, c.self.invariant.stands.legal.few_turns)

pub begin-requires-clause-apart : goal.begin-requires-clause-apart
begin-requires-clause-apart c =
    let asks = rw (← c.self.view_is) at c.requires.parts.asks in
    let k = known-state c.self.inside.rows.items (c.args.number - 1) c.get-row.result.now (request.Spawn c.requires.parts.seeds) c.get-row.ensures asks in
    let q = known-request c.self.inside.rows.items (c.args.number - 1) c.get-row.result.now (request.Spawn c.requires.parts.seeds) c.get-row.ensures asks in
    let count : c.count_asked-count.result ≡ length c.requires.parts.seeds = c.count_asked-count.ensures ∙ ap count_asked q in
    let next : c.len.result + 1 ≡ length c.self.inside.rows.items + 1 = ap (λ n. n + 1) c.len.ensures in
    rw (next, count) (spawn-new (tables_of c.self.inside) c.args.worker c.args.number c.self.invariant.stands (rw (← c.self.view_is) at c.requires.worker) k.0 c.get-row.result.now (rw (← c.self.view_is) at c.requires.ready) c.get-row.ensures c.requires.parts.seeds k.1)

pub join-requires-clause-above : goal.join-requires-clause-above
join-requires-clause-above c = (row-within (tables_of c.self.inside) c.args.number Ready c.self.invariant.stands (rw (← c.self.view_is) at c.requires.ready)).0

pub join-requires-clause-within : goal.join-requires-clause-within
join-requires-clause-within c = rw c.reserve.ensures.items (row-within (tables_of c.self.inside) c.args.number Ready c.self.invariant.stands (rw (← c.self.view_is) at c.requires.ready)).1

pub unreachable-requires : goal.unreachable-requires
unreachable-requires c =
    let asks = rw (← c.self.view_is) at c.requires.parts.asks in
    let k = known-state c.self.inside.rows.items (c.args.number - 1) c.get-row.result.now (request.Spawn c.requires.parts.seeds) c.get-row.ensures asks in
    let q = known-request c.self.inside.rows.items (c.args.number - 1) c.get-row.result.now (request.Spawn c.requires.parts.seeds) c.get-row.ensures asks in
    let count : c.count_asked-count.result ≡ length c.requires.parts.seeds = c.count_asked-count.ensures ∙ ap count_asked q in
    let asked = c.seeds_asked.ensures ∙ (ap seeds_asked (c.join.ensures.request c.get-row.result.now (rw c.reserve.ensures.items c.get-row.ensures)) ∙ ap seeds_asked q) in
    let none = rw c.in_default.is at asked in
    absurd (cc none)

pub put_parts-requires-clause-indexes : goal.put_parts-requires-clause-indexes
put_parts-requires-clause-indexes c =
    let asks = rw (← c.self.view_is) at c.requires.parts.asks in
    let k = known-state c.self.inside.rows.items (c.args.number - 1) c.get-row.result.now (request.Spawn c.requires.parts.seeds) c.get-row.ensures asks in
    let q = known-request c.self.inside.rows.items (c.args.number - 1) c.get-row.result.now (request.Spawn c.requires.parts.seeds) c.get-row.ensures asks in
    let count : c.count_asked-count.result ≡ length c.requires.parts.seeds = c.count_asked-count.ensures ∙ ap count_asked q in
    let asked = c.seeds_asked.ensures ∙ (ap seeds_asked (c.join.ensures.request c.get-row.result.now (rw c.reserve.ensures.items c.get-row.ensures)) ∙ ap seeds_asked q) in
    let two = rw c.in-Some.is at asked in
    let given : c.in-Some.seeds.items ≡ c.requires.parts.seeds = cc in
    let at : c.parent_of-parent.result.at.index ≡ (at_by c.get-row.result.now.cursor).index = ap (λ (p : Parent). p.at.index) c.parent_of-parent.ensures in
    let few = spawn-indexed (tables_of c.self.inside) c.args.worker c.args.number c.self.invariant.stands (rw (← c.self.view_is) at c.requires.worker) k.0 c.get-row.result.now (rw (← c.self.view_is) at c.requires.ready) c.get-row.ensures c.requires.parts.seeds k.1 in
    let many : length c.in-Some.seeds.items ≡ length c.requires.parts.seeds = ap length given in
    omega (arith, at, few, many)

pub put_from-requires-clause-fits : goal.put_from-requires-clause-fits
put_from-requires-clause-fits c =
    let asks = rw (← c.self.view_is) at c.requires.parts.asks in
    let k = known-state c.self.inside.rows.items (c.args.number - 1) c.get-row.result.now (request.Spawn c.requires.parts.seeds) c.get-row.ensures asks in
    let q = known-request c.self.inside.rows.items (c.args.number - 1) c.get-row.result.now (request.Spawn c.requires.parts.seeds) c.get-row.ensures asks in
    let count : c.count_asked-count.result ≡ length c.requires.parts.seeds = c.count_asked-count.ensures ∙ ap count_asked q in
    let few = spawn-few (tables_of c.self.inside) c.args.worker c.args.number c.self.invariant.stands (rw (← c.self.view_is) at c.requires.worker) k.0 c.get-row.result.now (rw (← c.self.view_is) at c.requires.ready) c.get-row.ensures c.requires.parts.seeds k.1 in
    let born = births-few c.self.inside.set c.self.inside.journal.workers c.self.inside.journal.turns c.self.inside.journal.past c.self.invariant.stands.legal.entries c.self.invariant.stands.simple in
    omega (arith, count, few, c.len.ensures, rows-are (tables_of c.self.inside) c.self.invariant.stands, born, c.self.invariant.stands.turns, within-limit (tables_of c.self.inside) c.self.invariant.stands, c.self.invariant.stands.legal.few_turns)

pub overflow_add-self : goal.overflow_add-self
overflow_add-self c =
    let asks = rw (← c.self.view_is) at c.requires.parts.asks in
    let k = known-state c.self.inside.rows.items (c.args.number - 1) c.get-row.result.now (request.Spawn c.requires.parts.seeds) c.get-row.ensures asks in
    let q = known-request c.self.inside.rows.items (c.args.number - 1) c.get-row.result.now (request.Spawn c.requires.parts.seeds) c.get-row.ensures asks in
    let count : c.count_asked-count.result ≡ length c.requires.parts.seeds = c.count_asked-count.ensures ∙ ap count_asked q in
    let few = spawn-few (tables_of c.self.inside) c.args.worker c.args.number c.self.invariant.stands (rw (← c.self.view_is) at c.requires.worker) k.0 c.get-row.result.now (rw (← c.self.view_is) at c.requires.ready) c.get-row.ensures c.requires.parts.seeds k.1 in
    let born = births-few c.self.inside.set c.self.inside.journal.workers c.self.inside.journal.turns c.self.inside.journal.past c.self.invariant.stands.legal.entries c.self.invariant.stands.simple in
    omega (arith, count, few, live-within (tables_of c.self.inside) c.self.invariant.stands, rows-are (tables_of c.self.inside) c.self.invariant.stands, born, c.self.invariant.stands.turns, within-limit (tables_of c.self.inside) c.self.invariant.stands, c.self.invariant.stands.legal.few_turns)

pub remove-requires : goal.remove-requires
remove-requires c = rw (c.reserve-2.ensures.numbers, c.self.invariant.stands.ready) (numbers-rise row_ready c.self.inside.rows.items)

pub invariant_of-self-2 : goal.invariant_of-self-2
invariant_of-self-2 c =
    let asks = rw (← c.self.view_is) at c.requires.parts.asks in
    let worker = rw (← c.self.view_is) at c.requires.worker in
    let ready = rw (← c.self.view_is) at c.requires.ready in
    let below = rw (← c.self.view_is) at c.requires.below in
    let seeds = c.requires.parts.seeds in
    let k = known-state c.self.inside.rows.items (c.args.number - 1) c.get-row.result.now (request.Spawn seeds) c.get-row.ensures asks in
    let q = known-request c.self.inside.rows.items (c.args.number - 1) c.get-row.result.now (request.Spawn seeds) c.get-row.ensures asks in
    let count : c.count_asked-count.result ≡ length seeds = c.count_asked-count.ensures ∙ ap count_asked q in
    let next : c.len.result + 1 ≡ length c.self.inside.rows.items + 1 = ap (λ n. n + 1) c.len.ensures in
    let entry : length c.entries-entry.result.now ≡ length c.self.inside.journal.past = ap length c.entries-entry.ensures ∙ length-reverse _ in
    let old : c.join.new.self.items ≡ put_at c.self.inside.rows.items (c.args.number - 1) (joining (length c.self.inside.journal.past) c.get-row.result.now) =
    c.join.ensures.items c.get-row.result.now (rw c.reserve.ensures.items c.get-row.ensures) ∙ rw (c.reserve.ensures.items, entry) refl in
    let many : length c.join.new.self.items ≡ length c.self.inside.rows.items = ap length old ∙ length-set c.self.inside.rows.items _ _ in
    let asked = c.seeds_asked.ensures ∙ (ap seeds_asked (c.join.ensures.request c.get-row.result.now (rw c.reserve.ensures.items c.get-row.ensures)) ∙ ap seeds_asked q) in
    let two = rw c.in-Some.is at asked in
    let given : c.in-Some.seeds.items ≡ seeds = cc in
    let born_many : length c.in-Some.seeds.items ≡ length seeds = ap length given in
    let rows : c.put_parts.new.self.items ≡ put_at c.self.inside.rows.items (c.args.number - 1) (joining (length c.self.inside.journal.past) c.get-row.result.now)
    ++ seed_rows (parent_of c.args.number c.get-row.result.now) (length c.self.inside.rows.items + 1) (at_by c.get-row.result.now.cursor).index seeds =
    c.put_parts.ensures.items ∙ rw (many, old, c.parent_of-parent.ensures, given) refl in
    let began = rw (next, count) at c.in_ok-begin.ensures.ok in
    let now_ready : length c.put_from.new.self.numbers ≡ length c.remove.new.self.numbers + c.count_asked-count.result =
    ap length c.put_from.ensures.numbers ∙ (length-append c.remove.new.self.numbers _ ∙ ap (λ n. length c.remove.new.self.numbers + n) (from-many (c.len.result + 1) c.count_asked-count.result)) in
    let spare = c.in_ok-make_room.ensures.journal in
    let more = c.in_ok-reserve.ensures.ok in
    let again = c.in_ok-reserve-2.ensures.ok in
    record {
      stands = rw (c.append_answer.ensures.past, c.append_answer.ensures.workers, c.append_answer.ensures.turns, c.make_room.ensures.past, c.make_room.ensures.workers, c.make_room.ensures.turns, c.make_room.ensures.items, rows, c.put_from.ensures.numbers, c.remove.ensures.numbers, c.reserve-2.ensures.numbers, next, count)
          (stands-born (tables_of c.self.inside) c.args.worker c.args.number c.self.invariant.stands worker k.0 c.get-row.result.now ready c.get-row.ensures seeds k.1 below c.begin.new.self began);
      few = c.self.invariant.few;
      room_small = c.self.invariant.room_small;
      room_journal = omega (arith, spare, c.append_answer.ensures.spare);
      room_rows = omega (arith, more, c.join.ensures.spare, c.put_parts.ensures.spare, count, born_many);
      room_ready = omega (arith, again, c.remove.ensures.spare, c.put_from.ensures.capacity, now_ready);
    }

pub returns-clause-legal : goal.returns-clause-legal
returns-clause-legal c = (invariant_of-self-2 c).stands.legal

pub returns-clause-outside : goal.returns-clause-outside
returns-clause-outside c =
    let old : c.join.new.self.items ≡ put_at c.self.inside.rows.items (c.args.number - 1) (joining (length c.entries-entry.result.now) c.get-row.result.now) =
    c.join.ensures.items c.get-row.result.now (rw c.reserve.ensures.items c.get-row.ensures) ∙ rw c.reserve.ensures.items refl in
    rw (← c.self.view_is, c.put_parts.ensures.items)
    (born-outside c.parent_of-parent.result (length c.join.new.self.items + 1) c.parent_of-parent.result.at.index c.in-Some.seeds.items c.join.new.self.items
    ∙ (ap (row_numbers row_outside 1) old
    ∙ leave-at row_outside c.self.inside.rows.items c.args.number (joining (length c.entries-entry.result.now) c.get-row.result.now) (row-within (tables_of c.self.inside) c.args.number Ready c.self.invariant.stands (rw (← c.self.view_is) at c.requires.ready)).0 refl))
