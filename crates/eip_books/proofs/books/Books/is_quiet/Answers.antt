use Rattle.std.proofs.Common.{arith, ◌≡◌, ◌+◌, ℕ, Option, Some, None, true, false, refl, sym, ◌∙◌}
use Rattle.std.specs.Prelude.{is_some}
use Rattle.eip_books.specs.Facts.{tables_of}
use Rattle.eip_table_laws.proofs.Bounds.{within-limit}
use Rattle.eip_table_laws.proofs.QuietTables.{quiet-when, quiet-ready, quiet-hands, quiet-queues, quiet-sources}
use Rattle.eip_books.proofs.books.Books.is_quiet.Goals as goal

none-there : (o : Option ℕ) → is_some o ≡ false → o ≡ None
none-there None h = refl
none-there (Some x) h = absurd (cc h)

never-some : (o : Option ℕ) → is_some o ≡ true → o ≡ None → false ≡ true
never-some None h e = h
never-some (Some x) h e = absurd (cc e)

pub returns-then-is_some : goal.returns-then-is_some
returns-then-is_some c =
    rw (← c.self.view_is)
    (λ never. absurd (cc never), λ quiet. never-some c.least.result (sym c.is_some.ensures ∙ c.if-is_some.true) (c.least.ensures ∙ quiet-ready (tables_of c.self.inside) c.self.invariant.stands quiet))

pub overflow_add-self-inside : goal.overflow_add-self-inside
overflow_add-self-inside c = omega (arith, within-limit (tables_of c.self.inside) c.self.invariant.stands, c.self.invariant.stands.legal.few_turns)

pub returns-then-self-gt0 : goal.returns-then-self-gt0
returns-then-self-gt0 c =
    rw (← c.self.view_is)
    (λ never. absurd (cc never), λ quiet. let home = quiet-hands (tables_of c.self.inside) c.self.invariant.stands quiet in absurd (omega (arith, home, c.if-self-gt0.true)))

pub returns-then-is_some-2 : goal.returns-then-is_some-2
returns-then-is_some-2 c =
    rw (← c.self.view_is)
    (λ never. absurd (cc never), λ quiet. never-some c.first_startable.result (sym c.is_some-2.ensures ∙ c.if-is_some-2.true) (c.first_startable.ensures ∙ quiet-queues (tables_of c.self.inside) c.self.invariant.stands quiet))

pub returns : goal.returns
returns c =
    let ready = sym c.least.ensures ∙ none-there c.least.result (sym c.is_some.ensures ∙ c.if-is_some.false) in
    let home : c.self.inside.pulled + c.self.inside.taken ≡ 0 = omega (arith, c.if-self-gt0.false) in
    let queues = sym c.first_startable.ensures ∙ none-there c.first_startable.result (sym c.is_some-2.ensures ∙ c.if-is_some-2.false) in
    rw (← c.self.view_is)
    (λ done. quiet-when (tables_of c.self.inside) c.self.invariant.stands ready home queues (sym c.are_done.ensures ∙ done), λ quiet. c.are_done.ensures ∙ quiet-sources (tables_of c.self.inside) c.self.invariant.stands quiet)
