use Rattle.std.proofs.Common.{◌≡◌, ◌<◌, ◌≤◌, length, Option, Ok, refl, sym, ap, ◌∙◌, arith}
use Rattle.std.proofs.lemmas.Result.{err_from_is_err_and}
use Rattle.std.specs.Option.{option_map}
use Rattle.eip_exchange.specs.declared.message.Message.{Message}
use Rattle.eip_strategy.specs.Folding.{folded}
use Rattle.eip_strategy.specs.Growing.{grown}
use Rattle.eip_strategy.proofs.Says.{ready_after, next_part, next_fault, all_parts, none_of_none}
use Rattle.eip_strategy.proofs.adding.fold.Goals as goal

pub loop-part-init : goal.loop-part-init
unfolding folded
loop-part-init c = record { so_far = refl; ready = tt }

pub loop-part-preserved : goal.loop-part-preserved
loop-part-preserved c =
    let s = c.args.strategy.now in
    let parts = c.args.parts.now in
    let o = option_map grown c.loop-part.so_far in
    let i = c.loop-part.part-index in
    let lt : i < length parts = omega arith in
    record {
      so_far = next_part s o parts i c.part-item.result (grown c.in_ok-step.field-0) (folded s parts) lt c.part-item.is c.loop-part.invariant.so_far c.in_ok-step.ensures;
      ready = ready_after s o c.part-item.result (grown c.in_ok-step.field-0) c.in_ok-step.ensures;
    }

pub returns-in_err-step-clause-says : goal.returns-in_err-step-clause-says
returns-in_err-step-clause-says c =
    let s = c.args.strategy.now in
    let parts = c.args.parts.now in
    let o = option_map grown c.loop-part.so_far in
    let i = c.loop-part.part-index in
    let lt : i < length parts = omega arith in
    let p = err_from_is_err_and c.from_residual.result c.from_residual.ensures.1 in
    rw (p.1, p.2) (λ h. next_fault s o parts i c.part-item.result c.in_err-step.field-0.0 (folded s parts) lt c.part-item.is c.loop-part.invariant.so_far (c.in_err-step.ensures h))

pub returns-clause-none : goal.returns-clause-none
returns-clause-none c =
    let s = c.args.strategy.now in
    let parts = c.args.parts.now in
    let o = option_map grown c.loop-part.so_far in
    let i = c.loop-part.part-index in
    let le : length parts ≤ i = omega arith in
    let says : folded s parts ≡ Ok c.message_of.result = all_parts s o parts i (folded s parts) le c.loop-part.invariant.so_far ∙ ap (λ (m : Option Message). Ok m) (sym c.message_of.ensures) in
    none_of_none s parts c.message_of.result says
