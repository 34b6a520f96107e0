use Rattle.std.proofs.Common.{◌∙◌, ap}
use Rattle.eip_history.specs.Rules.{first}
use Rattle.eip_books.specs.Facts.{tables_of}
use Rattle.eip_tables.specs.State.{row_outside}
use Rattle.eip_tables.specs.Rows.{row_ready}
use Rattle.eip_tables.specs.Numbers.{row_numbers}
use Rattle.eip_tables.specs.Outside.{unlooked_numbers}
use Rattle.eip_table_laws.proofs.Bounds.{ready-are}
use Rattle.eip_table_laws.proofs.ListedNumbers.{numbers-within}
use Rattle.eip_table_laws.proofs.HandCalls.{unlooked-are}
use Rattle.eip_books.proofs.books.Books.unlooked.Goals as goal

pub first_wanted-requires : goal.first_wanted-requires
first_wanted-requires c = rw c.self.invariant.stands.ready (numbers-within row_ready c.self.inside.rows.items)

pub returns : goal.returns
returns c =
    let rows = c.self.inside.rows.items in
    rw (← c.self.view_is)
    (c.first_wanted.ensures
    ∙ (ap first (unlooked-are (tables_of c.self.inside) c.self.invariant.stands)
    ∙ ap (λ xs. first (unlooked_numbers (row_numbers row_outside 1 rows) xs)) (ready-are (tables_of c.self.inside) c.self.invariant.stands)))
