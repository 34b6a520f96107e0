use Rattle.std.proofs.Common.{◌∙◌}
use Rattle.eip_books.specs.Facts.{tables_of}
use Rattle.eip_table_laws.proofs.Bounds.{rows-are}
use Rattle.eip_books.proofs.books.Books.total.Goals as goal

pub returns : goal.returns
returns c = rw (← c.self.view_is) (c.len.ensures ∙ rows-are (tables_of c.self.inside) c.self.invariant.stands)
