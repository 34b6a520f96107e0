use Rattle.std.proofs.Common.{◌+ℤ◌, ap₂, subst, sym, ◌∙◌, ℤ, rules}
use Rattle.std.specs.Prelude.{FitsSigned}
use Rattle.std.proofs.lemmas.Int.{to_z-of_z}
use Rattle.std.specs.Int.{w64}
use Rattle.eip_strategy.proofs.Numbers.{fits_sum, never_sum}
use Rattle.eip_strategy.proofs.steps.small_sum.Goals as goal

pub returns-in-Some : goal.returns-in-Some
returns-in-Some c =
    let e = ap₂ (λ (a b : ℤ). a +ℤ b) (to_z-of_z w64 c.args.old c.ranges.old) (to_z-of_z w64 c.args.new c.ranges.new) in
    let n = to_z-of_z w64 c.in-Some.sum (search rules) in
    fits_sum (c.args.old +ℤ c.args.new) _ (subst (FitsSigned w64) e c.in-Some.ensures.0) (n ∙ (c.in-Some.ensures.1 ∙ e))

pub returns-in-None : goal.returns-in-None
returns-in-None c = λ _.
    let e = ap₂ (λ (a b : ℤ). a +ℤ b) (to_z-of_z w64 c.args.old c.ranges.old) (to_z-of_z w64 c.args.new c.ranges.new) in
    never_sum (c.args.old +ℤ c.args.new) (λ h. c.in-None.ensures (subst (FitsSigned w64) (sym e) h))
