use Rattle.std.proofs.Common.{◌∙◌, ap}
use Rattle.eip_history.specs.Rules.{first}
use Rattle.eip_books.specs.Facts.{tables_of}
use Rattle.eip_tables.specs.State.{row_outside}
use Rattle.eip_tables.specs.Rows.{row_ready}
use Rattle.eip_tables.specs.Numbers.{row_numbers}
use Rattle.eip_table_laws.proofs.ListedNumbers.{numbers-within, first-among, first-least, if-first, if-no-first}
use Rattle.eip_table_laws.proofs.HandCalls.{outside-are}
use Rattle.eip_books.proofs.books.Books.known_outside.Goals as goal

pub first_wanted-requires : goal.first_wanted-requires
first_wanted-requires c = rw c.self.invariant.stands.ready (numbers-within row_ready c.self.inside.rows.items)

pub returns-clause-known : goal.returns-clause-known
returns-clause-known c =
    let rows = c.self.inside.rows.items in
    let e = c.first_wanted.ensures ∙ ap first (outside-are (tables_of c.self.inside) c.self.invariant.stands) in
    rw (← c.self.view_is) (if-first c.first_wanted.result (row_numbers row_outside 1 rows) _ e (λ x h. first-among (row_numbers row_outside 1 rows) x h))

pub returns-clause-least : goal.returns-clause-least
returns-clause-least c =
    let rows = c.self.inside.rows.items in
    let e = c.first_wanted.ensures ∙ ap first (outside-are (tables_of c.self.inside) c.self.invariant.stands) in
    rw (← c.self.view_is) (if-first c.first_wanted.result (row_numbers row_outside 1 rows) _ e (λ x h y l. first-least row_outside 1 rows x y h l))

pub returns-clause-none : goal.returns-clause-none
returns-clause-none c =
    let rows = c.self.inside.rows.items in
    let e = c.first_wanted.ensures ∙ ap first (outside-are (tables_of c.self.inside) c.self.invariant.stands) in
    rw (← c.self.view_is) (if-no-first c.first_wanted.result (row_numbers row_outside 1 rows) e)
