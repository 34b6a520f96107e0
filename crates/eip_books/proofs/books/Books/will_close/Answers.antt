use Rattle.std.proofs.Common.{Bool, ◌||◌, sym, ap, ◌∙◌, refl}
use Rattle.std.specs.Prelude.{is_some}
use Rattle.std.specs.List.{list_any}
use Rattle.eip_aggregator.specs.Tables.{is_forced}
use Rattle.eip_tables.specs.Groups.{settings, group_calls}
use Rattle.eip_table_laws.proofs.DueMoments.{some-due}
use Rattle.eip_table_laws.proofs.OpenGroups.{closing-is}
use Rattle.eip_books.specs.Facts.{tables_of}
use Rattle.eip_books.proofs.OpenGroups.{none-closing}
use Rattle.eip_books.proofs.books.Books.will_close.Goals as goal

pub returns-then-open_groups-eq0 : goal.returns-then-open_groups-eq0
returns-then-open_groups-eq0 c =
    rw (← c.self.view_is) (sym (none-closing (tables_of c.self.inside) c.self.invariant.stands c.open_groups.ensures.rising (sym c.open_groups.ensures.len ∙ c.if-open_groups-eq0.true)))

pub returns-then-is_some : goal.returns-then-is_some
returns-then-is_some c =
    let t = tables_of c.self.inside in
    let due = c.due.ensures (settings c.self.inside.set) (group_calls c.self.inside.set c.self.inside.journal.past) c.self.invariant.stands.groups.stands in
    let forced = list_any is_forced c.self.inside.groups.open_groups in
    let whole = closing-is t c.self.invariant.stands c.open_groups.ensures.rising (is_some c.due.result) forced (sym (some-due t c.self.invariant.stands c.due.result due)) refl in
    rw (← c.self.view_is) (ap (λ (v : Bool). v || forced) (sym (sym c.is_some.ensures ∙ c.if-is_some.true)) ∙ whole)

pub returns : goal.returns
returns c =
    let t = tables_of c.self.inside in
    let due = c.due.ensures (settings c.self.inside.set) (group_calls c.self.inside.set c.self.inside.journal.past) c.self.invariant.stands.groups.stands in
    let forced = list_any is_forced c.self.inside.groups.open_groups in
    let whole = closing-is t c.self.invariant.stands c.open_groups.ensures.rising (is_some c.due.result) forced (sym (some-due t c.self.invariant.stands c.due.result due)) refl in
    rw (← c.self.view_is) (c.may_force.ensures ∙ (ap (λ (v : Bool). v || forced) (sym (sym c.is_some.ensures ∙ c.if-is_some.false)) ∙ whole))
