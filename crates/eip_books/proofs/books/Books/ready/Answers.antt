use Rattle.std.proofs.Common.{◌∙◌, ap}
use Rattle.eip_history.specs.Rules.{first}
use Rattle.eip_books.specs.Facts.{tables_of}
use Rattle.eip_table_laws.proofs.Bounds.{ready-are}
use Rattle.eip_books.proofs.books.Books.ready.Goals as goal

pub returns : goal.returns
returns c = rw (← c.self.view_is) (c.least.ensures ∙ ap first (ready-are (tables_of c.self.inside) c.self.invariant.stands))
