use Rattle.std.proofs.Common.{arith, ◌∙◌, ap, ◌==◌, ◌&&◌, ◌+◌}
use Rattle.eip_books.specs.Facts.{tables_of}
use Rattle.eip_table_laws.proofs.Bounds.{within-limit}
use Rattle.eip_table_laws.proofs.OpenGroups.{open-many}
use Rattle.eip_table_laws.proofs.StopCalls.{stop-is}
use Rattle.eip_books.proofs.books.Books.stop.Goals as goal

pub overflow_add-self-inside : goal.overflow_add-self-inside
overflow_add-self-inside c = omega (arith, within-limit (tables_of c.self.inside) c.self.invariant.stands, c.self.invariant.stands.legal.few_turns)

pub returns-clause-stop : goal.returns-clause-stop
returns-clause-stop c =
    rw (← c.self.view_is) (c.stop_by.ensures
    ∙ stop-is (tables_of c.self.inside) c.self.invariant.stands c.is_over-over.result ((c.self.inside.turns == c.from-limit.result) && (c.self.inside.pulled + c.self.inside.taken == 0)) c.open_groups.result
    (rw (← c.self.view_is) at c.is_over-over.ensures)
    (ap (λ l. (c.self.inside.turns == l) && (c.self.inside.pulled + c.self.inside.taken == 0)) (c.from-limit.ensures ∙ c.turns.ensures))
    (c.open_groups.ensures.len ∙ open-many (tables_of c.self.inside) c.self.invariant.stands c.open_groups.ensures.rising))
