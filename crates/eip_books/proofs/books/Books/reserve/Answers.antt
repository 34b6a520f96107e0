use Rattle.std.proofs.Common.{arith}
use Rattle.eip_books.specs.Facts.{tables_of}
use Rattle.eip_table_laws.proofs.Bounds.{within-limit}
use Rattle.eip_books.proofs.books.Books.reserve.Goals as goal

pub overflow_add-hands : goal.overflow_add-hands
overflow_add-hands c = omega (arith, within-limit (tables_of c.self.inside) c.self.invariant.stands, c.self.invariant.stands.legal.few_turns)

pub overflow_add-hands-then-self-eq0 : goal.overflow_add-hands-then-self-eq0
overflow_add-hands-then-self-eq0 c = omega (arith, within-limit (tables_of c.self.inside) c.self.invariant.stands, c.self.invariant.stands.legal.few_turns)

pub overflow_add-hands-then-self-eq0-2 : goal.overflow_add-hands-then-self-eq0-2
overflow_add-hands-then-self-eq0-2 c = omega (arith, within-limit (tables_of c.self.inside) c.self.invariant.stands, c.self.invariant.stands.legal.few_turns)

pub overflow_add-hands-then-self-eq0-3 : goal.overflow_add-hands-then-self-eq0-3
overflow_add-hands-then-self-eq0-3 c = omega (arith, within-limit (tables_of c.self.inside) c.self.invariant.stands, c.self.invariant.stands.legal.few_turns)
