use Rattle.std.proofs.Common.{refl, sym}
use Rattle.std.proofs.lemmas.Result.{err_from_is_err_and}
use Rattle.eip_simple_read.specs.Reading.{side_at, gap, spaced}
use Rattle.eip_simple_read.proofs.Asked.{asks_nothing, built_nothing}
use Rattle.eip_simple_read.proofs.AskedParts.{test_no_side, test_no_gap, test_single, test_no_space, test_operated, asks_alike}
use Rattle.eip_simple_read.proofs.comparisons.test_at.Goals as goal

pub returns-in_err-left-clause-asks : goal.returns-in_err-left-clause-asks
returns-in_err-left-clause-asks g c =
    let p = err_from_is_err_and c.from_residual.result c.from_residual.ensures.1 in
    rw (p.1, p.2) (asks_nothing c.in_err-left.field-0.0 (side_at c.args.text.now) _ _ _ refl (test_no_side c.args.text.now) c.in_err-left.ensures.reads)

pub returns-in-Err-clause-asks : goal.returns-in-Err-clause-asks
returns-in-Err-clause-asks g c =
    rw c.stopped.ensures (asks_nothing c.in-Err.stop (gap c.in_ok-left.after.now) _ _ _ refl (λ e h. test_no_gap c.args.text.now _ _ e c.in_ok-left.ensures.reads h) c.in-Err.ensures.reads)

pub returns-in_default-clause-asks : goal.returns-in_default-clause-asks
returns-in_default-clause-asks g c =
    built_nothing _ _ _ (test_single c.args.text.now _ _ c.in-Ok.rest.now c.in_ok-left.ensures.reads c.in-Ok.ensures.reads (sym c.in_default.ensures.reads)) refl

pub returns-in-Ok-spaced-clause-asks : goal.returns-in-Ok-spaced-clause-asks
returns-in-Ok-spaced-clause-asks g c =
    asks_alike c.operated.result _ _ _ _
    (test_operated c.args.text.now _ _ c.in-Ok.rest.now c.in-Ok-spaced.next.now (c.in-Some.operator, c.in-Some.more.now) c.in_ok-left.ensures.reads c.in-Ok.ensures.reads (sym c.in-Some.ensures.reads) c.in-Ok-spaced.ensures.reads)
    c.operated.ensures.asks

pub returns-in-Err-spaced-clause-asks : goal.returns-in-Err-spaced-clause-asks
returns-in-Err-spaced-clause-asks g c =
    rw c.stopped-in-Err-spaced.ensures
    (asks_nothing c.in-Err-spaced.stop (spaced c.in-Some.more.now) _ _ _ refl
    (λ e h. test_no_space c.args.text.now _ _ c.in-Ok.rest.now (c.in-Some.operator, c.in-Some.more.now) e c.in_ok-left.ensures.reads c.in-Ok.ensures.reads (sym c.in-Some.ensures.reads) h) c.in-Err-spaced.ensures.reads)
