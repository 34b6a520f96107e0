use Rattle.std.proofs.Common.{sym, ◌∙◌}
use Rattle.std.proofs.lemmas.Result.{err_from_is_err_and}
use Rattle.eip_splitter.proofs.Elements.{too_many_elements, few_elements}
use Rattle.eip_splitter.proofs.Faulty.{fault_is}
use Rattle.eip_splitter.proofs.array.texts_within_limit.Goals as goal

pub returns-in_err-within_limit-clause-fault : goal.returns-in_err-within_limit-clause-fault
returns-in_err-within_limit-clause-fault c =
    let p = err_from_is_err_and c.from_residual.result c.from_residual.ensures.1 in
    rw (p.1, p.2) (fault_is c.in_err-within_limit.field-0.0 _ (too_many_elements c.args.elements.now (sym c.requires ∙ c.if-has_float.false) c.in_err-within_limit.field-0.0 (sym c.in_err-within_limit.ensures)))

pub returns-clause-bodies : goal.returns-clause-bodies
returns-clause-bodies c = few_elements c.args.elements.now (sym c.requires ∙ c.if-has_float.false) c.in_ok-within_limit.field-0 c.in_ok-texts_of.field-0.items (sym c.in_ok-within_limit.ensures) c.in_ok-texts_of.ensures
