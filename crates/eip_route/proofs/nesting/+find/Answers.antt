use Rattle.std.proofs.Common.{◌-◌, ◌<◌, arith, ap, sym, ◌∙◌}
use Rattle.std.proofs.lemmas.Grind.{common_steps}
use Rattle.eip_route.proofs.Firsts.{found_here, found_later, nested_in}
use Rattle.eip_route.specs.Faults.{first_some, found, steps_numbers}
use Rattle.eip_route.specs.declared.nesting.Wanted.TheVariants.{Deep}
use Rattle.eip_route.proofs.nesting.+find.Goals as goal

pub find_in_steps-returns-then-is_some : goal.find_in_steps-returns-then-is_some
find_in_steps-returns-then-is_some t c =
    found_here _ c.args.steps.now c.loop-step.step-index c.step-item.result _ _ c.loop-step.invariant (grind (arith, common_steps)) c.find_in_step-found.ensures (sym c.is_some.ensures ∙ c.if-is_some.true)

pub find_in_steps-loop-step-preserved : goal.find_in_steps-loop-step-preserved
find_in_steps-loop-step-preserved t c =
    found_later _ c.args.steps.now c.loop-step.step-index c.step-item.result _ _ c.loop-step.invariant (grind (arith, common_steps)) c.find_in_step-found.ensures (sym c.is_some.ensures ∙ c.if-is_some.false)

pub find-returns-then-number-blocks-2 : goal.find-returns-then-number-blocks-2
find-returns-then-number-blocks-2 t c =
    let bs = c.args.blocks.now in
    let left = c.in-Deep.left in
    let not_none : 0 < left = omega (arith, c.if-left-eq0.false) in
    c.find_in_steps.ensures
    ∙ (ap (λ ss. first_some (found bs (Deep (left - 1))) (steps_numbers ss)) c.items.ensures
    ∙ (sym (nested_in bs left c.args.block c.index-blocks-number.result not_none c.if-number-blocks-2.true)
    ∙ ap (λ w. found bs w c.args.block) (sym c.in-Deep.is)))
