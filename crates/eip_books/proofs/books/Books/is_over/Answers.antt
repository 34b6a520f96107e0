use Rattle.std.proofs.Common.{◌≡◌, ◌==◌, true, refl, sym, ◌∙◌, arith, eq-eqb}
use Rattle.eip_history.specs.Births.{groups}
use Rattle.eip_history.specs.Rules.{any_group}
use Rattle.eip_history.specs.Stop.{will_close}
use Rattle.eip_plan.specs.Plan.{plan_of}
use Rattle.eip_books.specs.Facts.{tables_of}
use Rattle.eip_table_laws.proofs.StopCalls.{over-is, not-zero}
use Rattle.eip_books.proofs.books.Books.is_over.Goals as goal

pub returns-then-self-gt0 : goal.returns-then-self-gt0
returns-then-self-gt0 c =
    let closing = any_group (will_close (plan_of c.self.inside.set)) (groups (plan_of c.self.inside.set) c.self.inside.journal.past) in
    rw (← c.self.view_is) (rw (over-is (tables_of c.self.inside) c.self.invariant.stands closing refl, not-zero c.self.inside.live (λ z. omega (arith, z, c.if-self-gt0.true))) refl)

pub returns-then-not-are_done : goal.returns-then-not-are_done
returns-then-not-are_done c =
    let closing = any_group (will_close (plan_of c.self.inside.set)) (groups (plan_of c.self.inside.set) c.self.inside.journal.past) in
    let none : (c.self.inside.live == 0) ≡ true = eq-eqb c.self.inside.live 0 (omega (arith, c.if-self-gt0.false)) in
    rw (← c.self.view_is) (rw (over-is (tables_of c.self.inside) c.self.invariant.stands closing refl, none, sym c.are_done.ensures ∙ c.if-not-are_done.true) refl)

pub returns : goal.returns
returns c =
    let none : (c.self.inside.live == 0) ≡ true = eq-eqb c.self.inside.live 0 (omega (arith, c.if-self-gt0.false)) in
    rw (← c.self.view_is) (rw (over-is (tables_of c.self.inside) c.self.invariant.stands c.will_close.result (rw (← c.self.view_is) at c.will_close.ensures), none, sym c.are_done.ensures ∙ c.if-not-are_done.false) refl)
