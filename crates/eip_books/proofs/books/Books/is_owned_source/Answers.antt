use Rattle.std.proofs.Common.{◌∙◌, sym, eq-eqb}
use Rattle.std.proofs.lemmas.Bool.{eqb-true}
use Rattle.eip_books.specs.Facts.{tables_of}
use Rattle.eip_books.proofs.OwnedCalls.{route-row, idle-row, busy-row}
use Rattle.eip_books.proofs.books.Books.is_owned_source.Goals as goal

pub is_idle-requires : goal.is_idle-requires
is_idle-requires c = route-row (tables_of c.self.inside) c.self.invariant.stands c.args.route (rw (← c.self.view_is) at c.requires.route)

pub returns-then-not-is_idle : goal.returns-then-not-is_idle
returns-then-not-is_idle c =
    let busy = rw (c.if-not-is_idle.true) at c.is_idle.ensures in
    rw (← c.self.view_is) (λ h. absurd (cc h), λ o. absurd (busy-row (tables_of c.self.inside) c.self.invariant.stands c.args.route busy o.idle))

pub returns : goal.returns
returns c =
    let idle = rw (c.if-not-is_idle.false) at c.is_idle.ensures in
    let own = rw (c.workers.ensures, c.source_inlet.ensures) at c.is_owner.ensures in
    rw (← c.self.view_is) (
      λ h. record {
        idle = idle-row (tables_of c.self.inside) c.self.invariant.stands c.args.route (rw (← c.self.view_is) at c.requires.route) idle;
        own = eqb-true _ _ (sym own ∙ h);
      },
      λ o. own ∙ eq-eqb _ _ o.own,
    )
