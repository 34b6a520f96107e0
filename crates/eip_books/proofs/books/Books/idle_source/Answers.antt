use Rattle.std.proofs.Common.{arith, ◌∙◌, sym}
use Rattle.eip_plan.specs.Plan.{plan_of}
use Rattle.eip_table_laws.proofs.StopCalls.{idle-some, idle-least, idle-none, source-small}
use Rattle.eip_books.proofs.books.Books.idle_source.Goals as goal

pub overflow_cast-result : goal.overflow_cast-result
overflow_cast-result c = let l = source-small c.self.inside.set c.self.inside.journal.past c.self.inside.sources c.self.invariant.stands.sources c.in-Some.route (sym c.first_idle.ensures ∙ c.in-Some.is) in omega (arith, l, c.self.invariant.few)

pub returns-in-Some-clause-some : goal.returns-in-Some-clause-some
returns-in-Some-clause-some c = rw (← c.self.view_is) (idle-some (plan_of c.self.inside.set) c.self.inside.journal.past c.self.inside.sources c.self.invariant.stands.sources c.in-Some.route (sym c.first_idle.ensures ∙ c.in-Some.is))

pub returns-in-Some-clause-least : goal.returns-in-Some-clause-least
returns-in-Some-clause-least c = rw (← c.self.view_is) (idle-least (plan_of c.self.inside.set) c.self.inside.journal.past c.self.inside.sources c.self.invariant.stands.sources c.in-Some.route (sym c.first_idle.ensures ∙ c.in-Some.is))

pub returns-in-None-clause-none : goal.returns-in-None-clause-none
returns-in-None-clause-none c = rw (← c.self.view_is) (idle-none (plan_of c.self.inside.set) c.self.inside.journal.past c.self.inside.sources c.self.invariant.stands.sources (sym c.first_idle.ensures ∙ c.in-None.is))
