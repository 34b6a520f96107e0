use Rattle.std.proofs.Common.{sym, ◌∙◌}
use Rattle.std.proofs.lemmas.Result.{err_from_is_err_and}
use Rattle.eip_dump.proofs.Steps.{digits_step, digits_stop, digits_fail}
use Rattle.eip_dump.proofs.number_reader.digits.Goals as goal

pub returns-in_err-value : goal.returns-in_err-value
returns-in_err-value c =
    let p = err_from_is_err_and c.from_residual.result c.from_residual.ensures.1 in
    rw (p.1, p.2) (digits_fail _ c.loop-digit.value c.in-Some.digit c.loop-digit.rest.now c.in-Some.more.now _ c.loop-digit.invariant c.in-Some.ensures.value c.in_err-value.ensures)

pub loop-digit-preserved : goal.loop-digit-preserved
loop-digit-preserved c = sym (digits_step c.loop-digit.value c.in-Some.digit c.in_ok-value.value c.loop-digit.rest.now c.in-Some.more.now c.in-Some.ensures.value c.in_ok-value.ensures) ∙ c.loop-digit.invariant

pub returns : goal.returns
returns c = sym c.loop-digit.invariant ∙ digits_stop c.loop-digit.value c.loop-digit.rest.now c.in_default.ensures.value
