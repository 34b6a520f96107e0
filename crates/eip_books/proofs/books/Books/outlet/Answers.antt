use Rattle.std.proofs.Common.{sym, ◌∙◌}
use Rattle.eip_ledger.specs.declared.place.Place.TheVariants.{Ready}
use Rattle.eip_table_laws.proofs.HandCalls.{known-outside}
use Rattle.eip_table_laws.proofs.OwnCalls.{row-within}
use Rattle.eip_books.specs.Facts.{tables_of}
use Rattle.eip_books.proofs.OwnedCalls.{asks-so, outlet-so}
use Rattle.eip_tables.proofs.Lent.{not-lent}
use Rattle.eip_books.proofs.books.Books.outlet.Goals as goal

pub get-requires-clause-above : goal.get-requires-clause-above
get-requires-clause-above c =
    let k = known-outside (tables_of c.self.inside) c.self.invariant.stands c.args.number (rw (← c.self.view_is) at c.requires) in
    (row-within (tables_of c.self.inside) c.args.number Ready c.self.invariant.stands k.ready).0

pub get-requires-clause-within : goal.get-requires-clause-within
get-requires-clause-within c =
    let k = known-outside (tables_of c.self.inside) c.self.invariant.stands c.args.number (rw (← c.self.view_is) at c.requires) in
    (row-within (tables_of c.self.inside) c.args.number Ready c.self.invariant.stands k.ready).1

pub unreachable-requires : goal.unreachable-requires
unreachable-requires c =
    let a = asks-so (tables_of c.self.inside) c.self.invariant.stands c.args.number c.get.result.now (rw (← c.self.view_is) at c.requires) c.get.ensures in
    not-lent c.request.result _ _ c.request.ensures (λ none. cc (sym none ∙ a.has)) c.in_default.not-Some

pub returns : goal.returns
returns c =
    let from = rw (← c.self.view_is) at c.origin.ensures in
    rw (← c.self.view_is)
    (c.outlet_of.ensures
    ∙ outlet-so (tables_of c.self.inside) c.self.invariant.stands c.args.number c.get.result.now c.in-Some.request.now c.route_of-route.result
    (rw (← c.self.view_is) at c.requires) c.get.ensures c.in-Some.ensures (λ o h. c.route_of-route.ensures o (from ∙ h)))
