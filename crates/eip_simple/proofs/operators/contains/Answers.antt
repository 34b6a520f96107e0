use Rattle.std.proofs.Common.{◌∙◌, subst, sym, IsTrue, ◌↔◌, Bool, ℕ}
use Rattle.memchr.specs.Find.{OccursAt}
use Rattle.eip_simple.proofs.Finding.{found_is, found_place}
use Rattle.eip_simple.proofs.operators.contains.Goals as goal

pub returns-clause-value : goal.returns-clause-value
returns-clause-value c = c.is_some.ensures ∙ found_is c.args.text.now c.args.needle.now c.find.result c.find.ensures

pub returns-clause-place : goal.returns-clause-place
returns-clause-place c =
    subst (λ (b : Bool). IsTrue b ↔ ((k : ℕ) × OccursAt c.args.text.now c.args.needle.now k)) (sym c.is_some.ensures)
    (found_place c.args.text.now c.args.needle.now c.find.result c.find.ensures)
