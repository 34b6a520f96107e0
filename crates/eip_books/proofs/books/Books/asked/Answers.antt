use Rattle.std.proofs.Common.{◌-◌, ap, sym, ◌∙◌}
use Rattle.eip_ledger.specs.declared.place.Place.TheVariants.{Ready}
use Rattle.eip_tables.specs.Asking.{is_outside_kind}
use Rattle.eip_books.specs.Facts.{tables_of}
use Rattle.eip_table_laws.proofs.OwnCalls.{row-within}
use Rattle.eip_table_laws.proofs.LookCalls.{known-request}
use Rattle.eip_table_laws.proofs.InnerCalls.{asks-outside, kind-outside, kind-known}
use Rattle.eip_books.proofs.books.Books.asked.Goals as goal

pub get-requires-clause-above : goal.get-requires-clause-above
get-requires-clause-above c = (row-within (tables_of c.self.inside) c.args.number Ready c.self.invariant.stands (rw (← c.self.view_is) at c.requires.ready)).0

pub get-requires-clause-within : goal.get-requires-clause-within
get-requires-clause-within c = (row-within (tables_of c.self.inside) c.args.number Ready c.self.invariant.stands (rw (← c.self.view_is) at c.requires.ready)).1

pub returns-clause-kind : goal.returns-clause-kind
returns-clause-kind c = λ q h. c.asked_of.ensures q (known-request c.self.inside.rows.items (c.args.number - 1) _ q c.get.ensures (rw (← c.self.view_is) at h))

pub returns-clause-outside : goal.returns-clause-outside
returns-clause-outside c =
    let known = rw (← c.self.view_is) at c.requires.known in
    let kind = c.asked_of.ensures known.0 (known-request c.self.inside.rows.items (c.args.number - 1) _ known.0 c.get.ensures known.1) in
    let asks = asks-outside (tables_of c.self.inside) c.args.number c.get.result.now c.self.invariant.stands (rw (← c.self.view_is) at c.requires.ready) c.get.ensures known.0 known.1 in
    rw (← c.self.view_is) (ap is_outside_kind kind ∙ (kind-outside known.0 ∙ sym asks))

pub returns-clause-some : goal.returns-clause-some
returns-clause-some c =
    let known = rw (← c.self.view_is) at c.requires.known in
    let kind = c.asked_of.ensures known.0 (known-request c.self.inside.rows.items (c.args.number - 1) _ known.0 c.get.ensures known.1) in
    λ h. kind-known known.0 (sym kind ∙ h)
