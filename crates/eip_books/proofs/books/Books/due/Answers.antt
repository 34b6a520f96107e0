use Rattle.std.proofs.Common.{◌∙◌}
use Rattle.eip_tables.specs.Groups.{settings, group_calls}
use Rattle.eip_books.specs.Facts.{tables_of}
use Rattle.eip_table_laws.proofs.DueMoments.{due-least}
use Rattle.eip_books.proofs.books.Books.due.Goals as goal

pub returns : goal.returns
returns c =
    rw (← c.self.view_is) (c.sooner.ensures
    ∙ due-least (tables_of c.self.inside) c.self.invariant.stands c.least.result c.due.result (c.least.ensures c.self.invariant.stands.sleepers.calls c.self.invariant.stands.sleepers.stands)
    (c.due.ensures (settings c.self.inside.set) (group_calls c.self.inside.set c.self.inside.journal.past) c.self.invariant.stands.groups.stands))
