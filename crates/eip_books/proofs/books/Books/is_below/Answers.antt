use Rattle.std.proofs.Common.{arith, ◌+◌, ◌∙◌}
use Rattle.std.proofs.lemmas.Bool.{lt-ltb, ltb-true}
use Rattle.eip_books.specs.Facts.{tables_of}
use Rattle.eip_table_laws.proofs.Bounds.{within-limit, hands-are}
use Rattle.eip_books.proofs.books.Books.is_below.Goals as goal

pub overflow_add-result : goal.overflow_add-result
overflow_add-result c = omega (arith, within-limit (tables_of c.self.inside) c.self.invariant.stands, c.self.invariant.stands.legal.few_turns)

pub overflow_add-result-2 : goal.overflow_add-result-2
overflow_add-result-2 c = omega (arith, within-limit (tables_of c.self.inside) c.self.invariant.stands, c.self.invariant.stands.legal.few_turns)

pub returns-clause-below : goal.returns-clause-below
returns-clause-below c =
    let hands = hands-are (tables_of c.self.inside) c.self.invariant.stands in
    let turns = c.self.invariant.stands.turns in
    let limit = c.from.ensures ∙ c.turns.ensures in
    rw (← c.self.view_is) (
      (λ h. let l = ltb-true (c.self.inside.turns + c.self.inside.pulled + c.self.inside.taken) c.from.result h in omega (arith, l, hands, turns, limit)),
      (λ h. lt-ltb (c.self.inside.turns + c.self.inside.pulled + c.self.inside.taken) c.from.result (omega (arith, h, hands, turns, limit))),
    )
