use Rattle.std.proofs.Common.{refl}
use Rattle.std.proofs.lemmas.Result.{err_from_is_err_and}
use Rattle.eip_simple_read.specs.Reading.{side_at, gap}
use Rattle.eip_simple_read.proofs.Asked.{asks_nothing}
use Rattle.eip_simple_read.proofs.AskedParts.{no_comparison}
use Rattle.eip_simple_read.proofs.comparisons.operated.Goals as goal

pub returns-in_err-right-in-Compares-clause-asks : goal.returns-in_err-right-in-Compares-clause-asks
returns-in_err-right-in-Compares-clause-asks g c =
    let p = err_from_is_err_and c.from_residual.result c.from_residual.ensures.1 in
    rw (p.1, p.2) (asks_nothing c.in_err-right-in-Compares.field-0.0 (side_at c.args.text.now) _ _ _ refl (λ e h. no_comparison c.args.text.now _ _ c.in-Compares.is) c.in_err-right-in-Compares.ensures.reads)

pub returns-in_err-rest-in-Compares-clause-asks : goal.returns-in_err-rest-in-Compares-clause-asks
returns-in_err-rest-in-Compares-clause-asks g c =
    let p = err_from_is_err_and c.from_residual-in_err-rest-in-Compares.result c.from_residual-in_err-rest-in-Compares.ensures.1 in
    rw (p.1, p.2) (asks_nothing c.in_err-rest-in-Compares.field-0.0 (gap c.in_ok-right-in-Compares.end.now) _ _ _ refl (λ e h. no_comparison c.args.text.now _ _ c.in-Compares.is) c.in_err-rest-in-Compares.ensures.reads)
