use Rattle.std.proofs.Common.{arith, ◌≡◌, ◌∙◌, refl}
use Rattle.eip_ledger.specs.declared.place.Place.TheVariants.{Ready}
use Rattle.eip_tables.specs.Rows.{row_ready}
use Rattle.eip_tables.proofs.NumbersRise.{numbers-rise}
use Rattle.eip_books.specs.Facts.{tables_of}
use Rattle.eip_tables.specs.Moves.{held}
use Rattle.eip_tables.specs.State.{row_outside}
use Rattle.eip_table_laws.proofs.Bounds.{within-limit}
use Rattle.eip_table_laws.proofs.OwnCalls.{row-within}
use Rattle.eip_table_laws.proofs.ListedNumbers.{leave-at}
use Rattle.eip_table_laws.proofs.HandCalls.{known-outside, may-take, taken-place, taken-asks, stands-take}
use Rattle.eip_books.proofs.books.Books.take.Goals as goal

pub remove-requires : goal.remove-requires
remove-requires c = rw c.self.invariant.stands.ready (numbers-rise row_ready c.self.inside.rows.items)

pub invariant_of-self : goal.invariant_of-self
invariant_of-self c =
    let k = known-outside (tables_of c.self.inside) c.self.invariant.stands c.args.number (rw (← c.self.view_is) at c.requires.known) in
    let room = rw (← c.self.view_is) at c.requires.room in
    record {
      stands = rw (c.append_reserved.ensures.past, c.append_reserved.ensures.workers, c.append_reserved.ensures.turns, c.hold.ensures.items k.row k.at, c.remove.ensures.numbers)
          (stands-take (tables_of c.self.inside) c.args.worker c.args.number c.self.invariant.stands (rw (← c.self.view_is) at c.requires.worker) k.row k.at k.ready k.asks.cursor k.asks.request k.asks.asks k.asks.outside (rw (← c.self.view_is) at c.requires.below));
      few = c.self.invariant.few;
      room_small = omega (arith, room);
      room_journal = omega (arith, room);
      room_rows = omega (arith, room, c.hold.ensures.spare);
      room_ready = omega (arith, room);
    }

pub hold-requires-clause-above : goal.hold-requires-clause-above
hold-requires-clause-above c =
    let k = known-outside (tables_of c.self.inside) c.self.invariant.stands c.args.number (rw (← c.self.view_is) at c.requires.known) in
    (row-within (tables_of c.self.inside) c.args.number Ready c.self.invariant.stands k.ready).0

pub hold-requires-clause-within : goal.hold-requires-clause-within
hold-requires-clause-within c =
    let k = known-outside (tables_of c.self.inside) c.self.invariant.stands c.args.number (rw (← c.self.view_is) at c.requires.known) in
    (row-within (tables_of c.self.inside) c.args.number Ready c.self.invariant.stands k.ready).1

pub unreachable-requires : goal.unreachable-requires
unreachable-requires c =
    let k = known-outside (tables_of c.self.inside) c.self.invariant.stands c.args.number (rw (← c.self.view_is) at c.requires.known) in
    c.in_default.not-Some k.asks.request (c.hold.ensures.request k.row k.at ∙ k.asks.has)

pub overflow_add-self : goal.overflow_add-self
overflow_add-self c = omega (arith, within-limit (tables_of c.self.inside) c.self.invariant.stands, c.self.invariant.stands.legal.few_turns)

pub returns-clause-may : goal.returns-clause-may
returns-clause-may c =
    let k = known-outside (tables_of c.self.inside) c.self.invariant.stands c.args.number (rw (← c.self.view_is) at c.requires.known) in
    rw (← c.self.view_is)
    (may-take (tables_of c.self.inside) c.args.worker c.args.number c.self.invariant.stands (rw (← c.self.view_is) at c.requires.worker) k.row k.at k.ready k.asks.cursor k.asks.request k.asks.asks k.asks.outside (rw (← c.self.view_is) at c.requires.below))

pub returns-clause-asked : goal.returns-clause-asked
returns-clause-asked c =
    let k = known-outside (tables_of c.self.inside) c.self.invariant.stands c.args.number (rw (← c.self.view_is) at c.requires.known) in
    let a = taken-asks (tables_of c.self.inside) c.args.worker c.args.number c.self.invariant.stands (rw (← c.self.view_is) at c.requires.worker) k.row k.at k.ready k.asks.cursor k.asks.request k.asks.asks k.asks.outside (rw (← c.self.view_is) at c.requires.below) in
    let has = c.hold.ensures.request k.row k.at ∙ k.asks.has in
    let is = c.in-Some.is in
    let same : k.asks.request ≡ c.in-Some.request = cc in
    (a.0, (rw c.append_reserved.ensures.past a.1.0, a.1.1 ∙ same))

pub returns-clause-of_outside : goal.returns-clause-of_outside
returns-clause-of_outside c =
    let k = known-outside (tables_of c.self.inside) c.self.invariant.stands c.args.number (rw (← c.self.view_is) at c.requires.known) in
    let has = c.hold.ensures.request k.row k.at ∙ k.asks.has in
    let is = c.in-Some.is in
    let same : k.asks.request ≡ c.in-Some.request = cc in
    rw same at k.asks.outside

pub returns-clause-place : goal.returns-clause-place
returns-clause-place c =
    let k = known-outside (tables_of c.self.inside) c.self.invariant.stands c.args.number (rw (← c.self.view_is) at c.requires.known) in
    rw c.append_reserved.ensures.past
    (taken-place (tables_of c.self.inside) c.args.worker c.args.number c.self.invariant.stands (rw (← c.self.view_is) at c.requires.worker) k.row k.at k.ready k.asks.cursor k.asks.request k.asks.asks k.asks.outside (rw (← c.self.view_is) at c.requires.below))

pub returns-clause-outside : goal.returns-clause-outside
returns-clause-outside c =
    let k = known-outside (tables_of c.self.inside) c.self.invariant.stands c.args.number (rw (← c.self.view_is) at c.requires.known) in
    rw (← c.self.view_is, c.hold.ensures.items k.row k.at) (leave-at row_outside c.self.inside.rows.items c.args.number (held c.args.worker k.row) (row-within (tables_of c.self.inside) c.args.number Ready c.self.invariant.stands k.ready).0 refl)

pub returns-clause-legal : goal.returns-clause-legal
returns-clause-legal c = (invariant_of-self c).stands.legal
