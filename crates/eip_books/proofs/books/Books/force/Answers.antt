use Rattle.std.proofs.Common.{arith, ◌≡◌, ℕ, ◌+◌, length, ap, ◌∙◌, length-append}
use Rattle.eip_tables.specs.Groups.{settings, group_calls}
use Rattle.eip_table_laws.proofs.Bounds.{within-limit, live-within}
use Rattle.eip_table_laws.proofs.GroupRows.{groups-outside}
use Rattle.eip_table_laws.proofs.OpenGroups.{open-many}
use Rattle.eip_table_laws.proofs.TickCalls.{forced-few, stands-force}
use Rattle.eip_books.specs.Facts.{tables_of}
use Rattle.eip_books.proofs.OpenGroups.{groups-few}
use Rattle.eip_books.proofs.Waking.{from-many}
use Rattle.eip_books.proofs.books.Books.force.Goals as goal

pub overflow_add-hands-2 : goal.overflow_add-hands-2
overflow_add-hands-2 c = omega (arith, c.self.invariant.room_small, within-limit (tables_of c.self.inside) c.self.invariant.stands, c.self.invariant.stands.legal.few_turns)

pub overflow_add-self-inside : goal.overflow_add-self-inside
overflow_add-self-inside c = omega (arith, c.self.invariant.room_small, within-limit (tables_of c.self.inside) c.self.invariant.stands, c.self.invariant.stands.legal.few_turns)

pub overflow_add-self-inside-2 : goal.overflow_add-self-inside-2
overflow_add-self-inside-2 c = omega (arith, c.self.invariant.room_small, within-limit (tables_of c.self.inside) c.self.invariant.stands, c.self.invariant.stands.legal.few_turns)

pub overflow_add-self-inside-4 : goal.overflow_add-self-inside-4
overflow_add-self-inside-4 c = omega (arith, c.self.invariant.room_small, groups-few (tables_of c.self.inside) c.self.invariant.stands c.open_groups-open.ensures.rising, c.open_groups-open.ensures.len, c.self.invariant.stands.turns, within-limit (tables_of c.self.inside) c.self.invariant.stands, c.self.invariant.stands.legal.few_turns)

pub overflow_add-hands-3 : goal.overflow_add-hands-3
overflow_add-hands-3 c = omega (arith, c.self.invariant.room_small, groups-few (tables_of c.self.inside) c.self.invariant.stands c.open_groups-open.ensures.rising, c.open_groups-open.ensures.len, c.self.invariant.stands.turns, within-limit (tables_of c.self.inside) c.self.invariant.stands, c.self.invariant.stands.legal.few_turns)

pub overflow_add-first : goal.overflow_add-first
overflow_add-first c = let rows = ap length c.reserve-2.ensures.items in omega (arith, c.len.ensures, rows, groups-few (tables_of c.self.inside) c.self.invariant.stands c.open_groups-open.ensures.rising, c.open_groups-open.ensures.len, c.self.invariant.stands.turns, within-limit (tables_of c.self.inside) c.self.invariant.stands, c.self.invariant.stands.legal.few_turns)

pub put_groups-requires-clause-room : goal.put_groups-requires-clause-room
put_groups-requires-clause-room c =
    let set = c.self.inside.set in
    let calls = group_calls set c.self.inside.journal.past in
    let are = c.in_ok-closed.ensures.groups (settings set) calls c.self.invariant.stands.groups.stands in
    let few = forced-few (tables_of c.self.inside) c.args.worker c.self.invariant.stands (rw (← c.self.view_is) at c.requires.worker) c.in_ok-closed.closed.items are in
    let many = open-many (tables_of c.self.inside) c.self.invariant.stands c.open_groups-open.ensures.rising in
    let more = groups-few (tables_of c.self.inside) c.self.invariant.stands c.open_groups-open.ensures.rising in
    let rows = ap length c.reserve-2.ensures.items in
    omega (arith, few, many, c.open_groups-open.ensures.len, c.in_ok-reserve-2.ensures.ok)

pub put_from-requires-clause-room : goal.put_from-requires-clause-room
put_from-requires-clause-room c =
    let set = c.self.inside.set in
    let calls = group_calls set c.self.inside.journal.past in
    let are = c.in_ok-closed.ensures.groups (settings set) calls c.self.invariant.stands.groups.stands in
    let few = forced-few (tables_of c.self.inside) c.args.worker c.self.invariant.stands (rw (← c.self.view_is) at c.requires.worker) c.in_ok-closed.closed.items are in
    let many = open-many (tables_of c.self.inside) c.self.invariant.stands c.open_groups-open.ensures.rising in
    let more = groups-few (tables_of c.self.inside) c.self.invariant.stands c.open_groups-open.ensures.rising in
    let rows = ap length c.reserve-2.ensures.items in
    omega (arith, few, many, c.len-count.ensures, c.open_groups-open.ensures.len, c.in_ok-reserve-3.ensures.ok)

pub put_from-requires-clause-fits : goal.put_from-requires-clause-fits
put_from-requires-clause-fits c =
    let set = c.self.inside.set in
    let calls = group_calls set c.self.inside.journal.past in
    let are = c.in_ok-closed.ensures.groups (settings set) calls c.self.invariant.stands.groups.stands in
    let few = forced-few (tables_of c.self.inside) c.args.worker c.self.invariant.stands (rw (← c.self.view_is) at c.requires.worker) c.in_ok-closed.closed.items are in
    let many = open-many (tables_of c.self.inside) c.self.invariant.stands c.open_groups-open.ensures.rising in
    let more = groups-few (tables_of c.self.inside) c.self.invariant.stands c.open_groups-open.ensures.rising in
    let rows = ap length c.reserve-2.ensures.items in
    omega (arith, few, many, more, rows, c.len-count.ensures, c.len.ensures, c.self.invariant.stands.turns, within-limit (tables_of c.self.inside) c.self.invariant.stands, c.self.invariant.stands.legal.few_turns)

pub overflow_add-self : goal.overflow_add-self
overflow_add-self c =
    let set = c.self.inside.set in
    let calls = group_calls set c.self.inside.journal.past in
    let are = c.in_ok-closed.ensures.groups (settings set) calls c.self.invariant.stands.groups.stands in
    let few = forced-few (tables_of c.self.inside) c.args.worker c.self.invariant.stands (rw (← c.self.view_is) at c.requires.worker) c.in_ok-closed.closed.items are in
    let many = open-many (tables_of c.self.inside) c.self.invariant.stands c.open_groups-open.ensures.rising in
    let more = groups-few (tables_of c.self.inside) c.self.invariant.stands c.open_groups-open.ensures.rising in
    let rows = ap length c.reserve-2.ensures.items in
    omega (arith, few, many, more, c.len-count.ensures, live-within (tables_of c.self.inside) c.self.invariant.stands, c.self.invariant.stands.turns, within-limit (tables_of c.self.inside) c.self.invariant.stands, c.self.invariant.stands.legal.few_turns)

pub invariant_of-self-2 : goal.invariant_of-self-2
invariant_of-self-2 c =
    let set = c.self.inside.set in
    let calls = group_calls set c.self.inside.journal.past in
    let are = c.in_ok-closed.ensures.groups (settings set) calls c.self.invariant.stands.groups.stands in
    let few = forced-few (tables_of c.self.inside) c.args.worker c.self.invariant.stands (rw (← c.self.view_is) at c.requires.worker) c.in_ok-closed.closed.items are in
    let many = open-many (tables_of c.self.inside) c.self.invariant.stands c.open_groups-open.ensures.rising in
    let more = groups-few (tables_of c.self.inside) c.self.invariant.stands c.open_groups-open.ensures.rising in
    let rows = ap length c.reserve-2.ensures.items in
    let may = rw (← c.self.view_is) at c.requires.may in
    let forced = c.in_ok-closed.ensures.ok (settings set) calls c.self.invariant.stands.groups.stands in
    let next : c.len.result + 1 ≡ length c.self.inside.rows.items + 1 = ap (λ (n : ℕ). n + 1) (c.len.ensures ∙ rows) in
    let count : c.len-count.result ≡ length c.in_ok-closed.closed.items = omega (arith, c.len-count.ensures) in
    let now_ready : length c.put_from.new.self.numbers ≡ length c.reserve-3.new.self.numbers + c.len-count.result =
    ap length c.put_from.ensures.numbers ∙ (length-append c.reserve-3.new.self.numbers _ ∙ ap (λ (n : ℕ). length c.reserve-3.new.self.numbers + n) (from-many (c.len.result + 1) c.len-count.result)) in
    record {
      stands = rw (c.append_reserved.ensures.past, c.append_reserved.ensures.workers, c.append_reserved.ensures.turns, c.reserve.ensures.same.past, c.reserve.ensures.same.workers, c.reserve.ensures.same.turns, c.put_groups.ensures.items, c.reserve-2.ensures.items, c.put_from.ensures.numbers, c.reserve-3.ensures.numbers, next, count)
          (stands-force (tables_of c.self.inside) c.args.worker c.self.invariant.stands (rw (← c.self.view_is) at c.requires.worker) c.in_ok-closed.closed.items c.close_forced.new.self may are forced);
      few = c.self.invariant.few;
      room_small = c.self.invariant.room_small;
      room_journal = omega (arith, c.in_ok-reserve.ensures.ok, c.append_reserved.ensures.spare);
      room_rows = omega (arith, few, many, c.open_groups-open.ensures.len, c.in_ok-reserve-2.ensures.ok, c.put_groups.ensures.spare);
      room_ready = omega (arith, few, many, c.open_groups-open.ensures.len, c.len-count.ensures, c.in_ok-reserve-3.ensures.ok, c.put_from.ensures.capacity, now_ready);
    }

pub returns-clause-legal : goal.returns-clause-legal
returns-clause-legal c = (invariant_of-self-2 c).stands.legal

pub returns-clause-outside : goal.returns-clause-outside
returns-clause-outside c =
    rw (← c.self.view_is, c.put_groups.ensures.items, c.reserve-2.ensures.items) (groups-outside c.self.inside.set (length c.self.inside.rows.items + 1) c.in_ok-closed.closed.items c.self.inside.rows.items)
