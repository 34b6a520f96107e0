use Rattle.std.proofs.Common.{arith, ◌≡◌, ℕ, ◌+◌, ◌≤◌, length, ap, ◌∙◌, length-append}
use Rattle.std.proofs.lemmas.List.{length-map}
use Rattle.eip_tables.specs.Groups.{settings, group_calls}
use Rattle.eip_tables.specs.Numbers.{row_numbers, numbers_from}
use Rattle.eip_tables.specs.Sleepers.{roused_rows}
use Rattle.eip_tables.specs.State.{row_outside}
use Rattle.eip_tables.specs.Rows.{row_ready}
use Rattle.eip_table_laws.proofs.Bounds.{within-limit, live-within, ready-few}
use Rattle.eip_table_laws.proofs.GroupRows.{groups-outside}
use Rattle.eip_table_laws.proofs.OpenGroups.{open-many}
use Rattle.eip_table_laws.proofs.RowTicks.{stand-told, numbers-roused, roused-outside}
use Rattle.eip_table_laws.proofs.TickCalls.{due-few, stands-tick}
use Rattle.eip_books.specs.Facts.{tables_of}
use Rattle.eip_books.proofs.OpenGroups.{groups-few}
use Rattle.eip_books.proofs.Waking.{from-many}
use Rattle.eip_books.proofs.books.Books.tick.Goals as goal

pub rouse-requires-clause-told : goal.rouse-requires-clause-told
rouse-requires-clause-told c = rw c.reserve-2.ensures.items (stand-told c.self.inside.set c.self.inside.journal.past c.self.inside.rows.items c.self.inside.sleepers c.self.invariant.stands.rows c.self.invariant.stands.sleepers)

pub rouse-requires-clause-numbers : goal.rouse-requires-clause-numbers
rouse-requires-clause-numbers c = rw c.reserve-2.ensures.items (c.reserve_all.ensures.numbers ∙ c.self.invariant.stands.ready)

pub rouse-requires-clause-room : goal.rouse-requires-clause-room
rouse-requires-clause-room c = rw c.reserve-2.ensures.items (let live = c.self.invariant.stands.live in omega (arith, c.in_ok-reserve_all.ensures.ok, live))

pub overflow_add-hands-2 : goal.overflow_add-hands-2
overflow_add-hands-2 c = omega (arith, c.self.invariant.room_small, within-limit (tables_of c.self.inside) c.self.invariant.stands, c.self.invariant.stands.legal.few_turns)

pub overflow_add-self-inside : goal.overflow_add-self-inside
overflow_add-self-inside c = omega (arith, c.self.invariant.room_small, within-limit (tables_of c.self.inside) c.self.invariant.stands, c.self.invariant.stands.legal.few_turns)

pub overflow_add-self-inside-2 : goal.overflow_add-self-inside-2
overflow_add-self-inside-2 c = omega (arith, c.self.invariant.room_small, within-limit (tables_of c.self.inside) c.self.invariant.stands, c.self.invariant.stands.legal.few_turns)

pub overflow_add-self-inside-4 : goal.overflow_add-self-inside-4
overflow_add-self-inside-4 c = omega (arith, c.self.invariant.room_small, groups-few (tables_of c.self.inside) c.self.invariant.stands c.open_groups-open.ensures.rising, c.open_groups-open.ensures.len, c.self.invariant.stands.turns, within-limit (tables_of c.self.inside) c.self.invariant.stands, c.self.invariant.stands.legal.few_turns)

pub overflow_add-self-inside-5 : goal.overflow_add-self-inside-5
overflow_add-self-inside-5 c = omega (arith, c.self.invariant.room_small, live-within (tables_of c.self.inside) c.self.invariant.stands, groups-few (tables_of c.self.inside) c.self.invariant.stands c.open_groups-open.ensures.rising, c.open_groups-open.ensures.len, c.self.invariant.stands.turns, within-limit (tables_of c.self.inside) c.self.invariant.stands, c.self.invariant.stands.legal.few_turns)

pub overflow_add-self-inside-6 : goal.overflow_add-self-inside-6
overflow_add-self-inside-6 c = omega (arith, c.self.invariant.room_small, live-within (tables_of c.self.inside) c.self.invariant.stands, groups-few (tables_of c.self.inside) c.self.invariant.stands c.open_groups-open.ensures.rising, c.open_groups-open.ensures.len, c.self.invariant.stands.turns, within-limit (tables_of c.self.inside) c.self.invariant.stands, c.self.invariant.stands.legal.few_turns)

pub overflow_add-first : goal.overflow_add-first
overflow_add-first c =
    let long : length c.rouse.new.rows.items ≡ length c.self.inside.rows.items = ap length (rw c.reserve-2.ensures.items at c.rouse.ensures.rows) ∙ length-map c.self.inside.rows.items _ in
    omega (arith, c.len.ensures, long, groups-few (tables_of c.self.inside) c.self.invariant.stands c.open_groups-open.ensures.rising, c.open_groups-open.ensures.len, c.self.invariant.stands.turns, within-limit (tables_of c.self.inside) c.self.invariant.stands, c.self.invariant.stands.legal.few_turns)

pub put_groups-requires-clause-room : goal.put_groups-requires-clause-room
put_groups-requires-clause-room c =
    let set = c.self.inside.set in
    let calls = group_calls set c.self.inside.journal.past in
    let are = c.in_ok-closed.ensures.groups (settings set) calls c.self.invariant.stands.groups.stands in
    let few = due-few (tables_of c.self.inside) c.args.worker c.self.invariant.stands (rw (← c.self.view_is) at c.requires.worker) c.args.now c.in_ok-closed.closed.items are in
    let many = open-many (tables_of c.self.inside) c.self.invariant.stands c.open_groups-open.ensures.rising in
    let more = groups-few (tables_of c.self.inside) c.self.invariant.stands c.open_groups-open.ensures.rising in
    let rows = ap length c.reserve-2.ensures.items in
    let count : c.len-count.result ≡ length c.in_ok-closed.closed.items = omega (arith, c.len-count.ensures) in
    omega (arith, few, many, c.open_groups-open.ensures.len, c.in_ok-reserve-2.ensures.ok, c.rouse.ensures.spare)

pub put_from-requires-clause-room : goal.put_from-requires-clause-room
put_from-requires-clause-room c =
    let set = c.self.inside.set in
    let calls = group_calls set c.self.inside.journal.past in
    let are = c.in_ok-closed.ensures.groups (settings set) calls c.self.invariant.stands.groups.stands in
    let few = due-few (tables_of c.self.inside) c.args.worker c.self.invariant.stands (rw (← c.self.view_is) at c.requires.worker) c.args.now c.in_ok-closed.closed.items are in
    let many = open-many (tables_of c.self.inside) c.self.invariant.stands c.open_groups-open.ensures.rising in
    let more = groups-few (tables_of c.self.inside) c.self.invariant.stands c.open_groups-open.ensures.rising in
    let rows = ap length c.reserve-2.ensures.items in
    let count : c.len-count.result ≡ length c.in_ok-closed.closed.items = omega (arith, c.len-count.ensures) in
    let may = rw (← c.self.view_is) at c.requires.may in
    let told = rw (c.rouse.ensures.rows, c.reserve-2.ensures.items) at c.rouse.ensures.told in
    let numbers = rw (c.rouse.ensures.rows, c.reserve-2.ensures.items) at c.rouse.ensures.numbers in
    let ticked = c.in_ok-closed.ensures.ok (settings set) calls c.self.invariant.stands.groups.stands in
    let stands = stands-tick (tables_of c.self.inside) c.args.worker c.self.invariant.stands (rw (← c.self.view_is) at c.requires.worker) c.args.now c.rouse.new.sleepers c.in_ok-closed.closed.items c.close_due.new.self may told are ticked in
    let ready : length (row_numbers row_ready 1 (roused_rows c.args.now c.self.inside.rows.items)) + length c.in_ok-closed.closed.items ≤ c.self.inside.live + length c.in_ok-closed.closed.items =
    (let all = ready-few _ stands in let parts = length-append (row_numbers row_ready 1 (roused_rows c.args.now c.self.inside.rows.items)) (numbers_from (length c.self.inside.rows.items + 1) (length c.in_ok-closed.closed.items)) in let born = from-many (length c.self.inside.rows.items + 1) (length c.in_ok-closed.closed.items) in omega (arith, all, parts, born)) in
    let same = ap length numbers in
    omega (arith, few, many, count, c.open_groups-open.ensures.len, c.in_ok-reserve_all.ensures.ok, c.rouse.ensures.capacity, ready, same)

pub put_from-requires-clause-fits : goal.put_from-requires-clause-fits
put_from-requires-clause-fits c =
    let set = c.self.inside.set in
    let calls = group_calls set c.self.inside.journal.past in
    let are = c.in_ok-closed.ensures.groups (settings set) calls c.self.invariant.stands.groups.stands in
    let few = due-few (tables_of c.self.inside) c.args.worker c.self.invariant.stands (rw (← c.self.view_is) at c.requires.worker) c.args.now c.in_ok-closed.closed.items are in
    let many = open-many (tables_of c.self.inside) c.self.invariant.stands c.open_groups-open.ensures.rising in
    let more = groups-few (tables_of c.self.inside) c.self.invariant.stands c.open_groups-open.ensures.rising in
    let rows = ap length c.reserve-2.ensures.items in
    let count : c.len-count.result ≡ length c.in_ok-closed.closed.items = omega (arith, c.len-count.ensures) in
    let long : length c.rouse.new.rows.items ≡ length c.self.inside.rows.items = ap length (rw c.reserve-2.ensures.items at c.rouse.ensures.rows) ∙ length-map c.self.inside.rows.items _ in
    omega (arith, few, many, more, long, count, c.len.ensures, c.self.invariant.stands.turns, within-limit (tables_of c.self.inside) c.self.invariant.stands, c.self.invariant.stands.legal.few_turns)

pub overflow_add-self : goal.overflow_add-self
overflow_add-self c =
    let set = c.self.inside.set in
    let calls = group_calls set c.self.inside.journal.past in
    let are = c.in_ok-closed.ensures.groups (settings set) calls c.self.invariant.stands.groups.stands in
    let few = due-few (tables_of c.self.inside) c.args.worker c.self.invariant.stands (rw (← c.self.view_is) at c.requires.worker) c.args.now c.in_ok-closed.closed.items are in
    let many = open-many (tables_of c.self.inside) c.self.invariant.stands c.open_groups-open.ensures.rising in
    let more = groups-few (tables_of c.self.inside) c.self.invariant.stands c.open_groups-open.ensures.rising in
    let rows = ap length c.reserve-2.ensures.items in
    let count : c.len-count.result ≡ length c.in_ok-closed.closed.items = omega (arith, c.len-count.ensures) in
    omega (arith, few, many, more, count, live-within (tables_of c.self.inside) c.self.invariant.stands, c.self.invariant.stands.turns, within-limit (tables_of c.self.inside) c.self.invariant.stands, c.self.invariant.stands.legal.few_turns)

pub invariant_of-self-2 : goal.invariant_of-self-2
invariant_of-self-2 c =
    let set = c.self.inside.set in
    let calls = group_calls set c.self.inside.journal.past in
    let are = c.in_ok-closed.ensures.groups (settings set) calls c.self.invariant.stands.groups.stands in
    let few = due-few (tables_of c.self.inside) c.args.worker c.self.invariant.stands (rw (← c.self.view_is) at c.requires.worker) c.args.now c.in_ok-closed.closed.items are in
    let many = open-many (tables_of c.self.inside) c.self.invariant.stands c.open_groups-open.ensures.rising in
    let more = groups-few (tables_of c.self.inside) c.self.invariant.stands c.open_groups-open.ensures.rising in
    let rows = ap length c.reserve-2.ensures.items in
    let count : c.len-count.result ≡ length c.in_ok-closed.closed.items = omega (arith, c.len-count.ensures) in
    let may = rw (← c.self.view_is) at c.requires.may in
    let told = rw (c.rouse.ensures.rows, c.reserve-2.ensures.items) at c.rouse.ensures.told in
    let numbers = rw (c.rouse.ensures.rows, c.reserve-2.ensures.items) at c.rouse.ensures.numbers in
    let ticked = c.in_ok-closed.ensures.ok (settings set) calls c.self.invariant.stands.groups.stands in
    let stands = stands-tick (tables_of c.self.inside) c.args.worker c.self.invariant.stands (rw (← c.self.view_is) at c.requires.worker) c.args.now c.rouse.new.sleepers c.in_ok-closed.closed.items c.close_due.new.self may told are ticked in
    let ready : length (row_numbers row_ready 1 (roused_rows c.args.now c.self.inside.rows.items)) + length c.in_ok-closed.closed.items ≤ c.self.inside.live + length c.in_ok-closed.closed.items =
    (let all = ready-few _ stands in let parts = length-append (row_numbers row_ready 1 (roused_rows c.args.now c.self.inside.rows.items)) (numbers_from (length c.self.inside.rows.items + 1) (length c.in_ok-closed.closed.items)) in let born = from-many (length c.self.inside.rows.items + 1) (length c.in_ok-closed.closed.items) in omega (arith, all, parts, born)) in
    let same = ap length numbers in
    let long : length c.rouse.new.rows.items ≡ length c.self.inside.rows.items = ap length (rw c.reserve-2.ensures.items at c.rouse.ensures.rows) ∙ length-map c.self.inside.rows.items _ in
    let next : c.len.result + 1 ≡ length c.self.inside.rows.items + 1 = ap (λ (n : ℕ). n + 1) (c.len.ensures ∙ long) in
    let now_ready : length c.put_from.new.self.numbers ≡ length c.rouse.new.ready.numbers + c.len-count.result =
    ap length c.put_from.ensures.numbers ∙ (length-append c.rouse.new.ready.numbers _ ∙ ap (λ (n : ℕ). length c.rouse.new.ready.numbers + n) (from-many (c.len.result + 1) c.len-count.result)) in
    record {
      stands = rw (c.append_reserved.ensures.past, c.append_reserved.ensures.workers, c.append_reserved.ensures.turns, c.reserve.ensures.same.past, c.reserve.ensures.same.workers, c.reserve.ensures.same.turns, c.put_groups.ensures.items, long, c.rouse.ensures.rows, c.reserve-2.ensures.items, c.put_from.ensures.numbers, numbers, next, count) stands;
      few = c.self.invariant.few;
      room_small = c.self.invariant.room_small;
      room_journal = omega (arith, c.in_ok-reserve.ensures.ok, c.append_reserved.ensures.spare);
      room_rows = omega (arith, few, many, c.open_groups-open.ensures.len, c.in_ok-reserve-2.ensures.ok, c.rouse.ensures.spare, c.put_groups.ensures.spare);
      room_ready = omega (arith, few, many, count, c.open_groups-open.ensures.len, c.in_ok-reserve_all.ensures.ok, c.rouse.ensures.capacity, c.put_from.ensures.capacity, now_ready, ready, same);
    }

pub returns-clause-legal : goal.returns-clause-legal
returns-clause-legal c = (invariant_of-self-2 c).stands.legal

pub returns-clause-outside : goal.returns-clause-outside
returns-clause-outside c =
    let rows = rw c.reserve-2.ensures.items at c.rouse.ensures.rows in
    rw (← c.self.view_is, c.put_groups.ensures.items) (groups-outside c.self.inside.set (length c.rouse.new.rows.items + 1) c.in_ok-closed.closed.items c.rouse.new.rows.items
    ∙ (ap (row_numbers row_outside 1) rows ∙ numbers-roused row_outside c.args.now 1 c.self.inside.rows.items (λ r. roused-outside c.args.now r)))
