use Rattle.std.proofs.Common.{ap, sym, ◌∙◌, Ok, rules, ℤ}
use Rattle.std.proofs.lemmas.Int.{to_z-of_z}
use Rattle.std.specs.Int.{w64}
use Rattle.eip_strategy.specs.Adding.{number_in}
use Rattle.eip_strategy.proofs.steps.number_in.Goals as goal

pub returns-in-Some : goal.returns-in-Some
returns-in-Some c =
    let n = to_z-of_z w64 c.in-Some.number (search rules) in
    ap number_in (sym c.in-Some.ensures) ∙ ap (λ (z : ℤ). Ok z) (sym n)

pub returns-in-None : goal.returns-in-None
returns-in-None c = λ _. ap number_in (sym c.in-None.ensures)
