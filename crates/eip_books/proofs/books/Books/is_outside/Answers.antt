use Rattle.std.proofs.Common.{◌≡◌, ◌+◌, ◌-◌, ◌∙◌, sym, subst, arith}
use Rattle.eip_tables.specs.Numbers.{row_numbers}
use Rattle.eip_tables.specs.Outside.{is_among}
use Rattle.eip_tables.specs.State.{row_outside}
use Rattle.eip_table_laws.proofs.Bounds.{rows-are}
use Rattle.eip_table_laws.proofs.ListedNumbers.{among-numbers}
use Rattle.eip_books.specs.Facts.{tables_of}
use Rattle.eip_books.proofs.books.Books.is_outside.Goals as goal

pub get-requires-clause-within : goal.get-requires-clause-within
get-requires-clause-within c =
    let number = rw (← c.self.view_is) at c.requires in
    omega (arith, number.1, rows-are (tables_of c.self.inside) c.self.invariant.stands)

pub returns : goal.returns
returns c =
    let above : 1 + (c.args.number - 1) ≡ c.args.number = omega (arith, c.requires.0) in
    rw (← c.self.view_is)
    (c.asks_outside.ensures
    ∙ sym (subst (λ n. is_among n (row_numbers row_outside 1 c.self.inside.rows.items) ≡ row_outside c.get.result.now) above
    (among-numbers row_outside 1 c.self.inside.rows.items (c.args.number - 1) c.get.result.now c.get.ensures)))
