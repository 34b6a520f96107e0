use Rattle.eip_books.specs.Facts.{tables_of}
use Rattle.eip_books.proofs.OpenGroups.{shown-either}
use Rattle.eip_books.proofs.books.Books.open_group.Goals as goal

pub returns : goal.returns
returns c = rw (← c.self.view_is) (shown-either (tables_of c.self.inside) c.self.invariant.stands c.open_group_at.ensures.rising c.args.k c.open_group_at.result c.open_group_at.ensures.shown)
