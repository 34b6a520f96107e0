use Rattle.std.proofs.Common.{false, refl, sym, ◌∙◌}
use Rattle.std.proofs.lemmas.Result.{err_from_is_err_and}
use Rattle.eip_simple_read.specs.Reading.{side_at}
use Rattle.eip_simple_read.proofs.Asked.{asks_nothing, begins_nothing, asks_refused}
use Rattle.eip_simple_read.proofs.AskedParts.{no_side, side_pattern}
use Rattle.eip_simple_read.proofs.comparisons.pattern_at.Goals as goal

pub returns-in_err-side-clause-asks : goal.returns-in_err-side-clause-asks
returns-in_err-side-clause-asks g c =
    let p = err_from_is_err_and c.from_residual.result c.from_residual.ensures.1 in
    rw (p.1, p.2) (asks_nothing c.in_err-side.field-0.0 (side_at c.args.text.now) _ _ _ refl (no_side c.args.text.now false) c.in_err-side.ensures.reads)

pub returns-in_err-plain-clause-asks : goal.returns-in_err-plain-clause-asks
returns-in_err-plain-clause-asks g c =
    let p = err_from_is_err_and c.from_residual-in_err-plain.result c.from_residual-in_err-plain.ensures.1 in
    rw (p.1, p.2) (begins_nothing _ _ _ refl)

pub returns-in-Err-Bad-clause-asks : goal.returns-in-Err-Bad-clause-asks
returns-in-Err-Bad-clause-asks g c =
    let told = (let r = rw c.in-Err-Bad.field-0-is at c.in-Err-Bad.ensures.builds in r) in
    asks_refused _ c.in-Some.plain _ _
    (side_pattern c.args.text.now false c.in_ok-side.side c.in_ok-side.rest.now c.in-Some.plain c.in_ok-side.ensures.reads (sym c.in_ok-plain.ensures ∙ c.in-Some.is)) told

pub returns-clause-asks : goal.returns-clause-asks
returns-clause-asks g c =
    let told = (let r = rw c.in-Err-TooLarge.field-0-is at c.in-Err-TooLarge.ensures.builds in r) in
    asks_refused _ c.in-Some.plain _ _
    (side_pattern c.args.text.now false c.in_ok-side.side c.in_ok-side.rest.now c.in-Some.plain c.in_ok-side.ensures.reads (sym c.in_ok-plain.ensures ∙ c.in-Some.is)) told
