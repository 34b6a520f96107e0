use Rattle.std.proofs.Common.{◌≡◌, Some, ap, ◌∙◌, arith}
use Rattle.std.proofs.lemmas.Grind.{common_steps}
use Rattle.std.proofs.lemmas.Str.{IsCharBoundary-before_ascii, IsCharBoundary-after_ascii}
use Rattle.std.specs.List.{position}
use Rattle.eip_text.specs.Escapes.{is_marked}
use Rattle.eip_text.proofs.Escaping.{mark_below, found_mark, shown-unmarked, CutAtMark-found}
use Rattle.eip_text.proofs.escapes.cut_at_mark.Goals as goal

pub returns-in_err-at : goal.returns-in_err-at
returns-in_err-at c = rw c.from_residual.ensures (shown-unmarked c.args.quotes c.args.text.now (c.in_err-at.ensures ∙ ap (position (is_marked c.args.quotes)) c.as_bytes.ensures.value))

pub range-requires-clause-end_boundary : goal.range-requires-clause-end_boundary
range-requires-clause-end_boundary c =
    let e : Some c.in_ok-at.at ≡ position (is_marked c.args.quotes) c.args.text.now = c.in_ok-at.ensures ∙ ap (position (is_marked c.args.quotes)) c.as_bytes.ensures.value in
    let found = found_mark c.args.quotes c.args.text.now c.in_ok-at.at e in
    IsCharBoundary-before_ascii c.args.text.now c.in_ok-at.at found.0 (mark_below c.args.quotes _ found.1)

pub range_from-requires : goal.range_from-requires
range_from-requires c = λ _.
    let e : Some c.in_ok-at.at ≡ position (is_marked c.args.quotes) c.args.text.now = c.in_ok-at.ensures ∙ ap (position (is_marked c.args.quotes)) c.as_bytes.ensures.value in
    let found = found_mark c.args.quotes c.args.text.now c.in_ok-at.at e in
    IsCharBoundary-after_ascii c.args.text.now c.in_ok-at.at c.utf8.text found.0 (mark_below c.args.quotes _ found.1)

pub returns : goal.returns
returns c =
    let e : Some c.in_ok-at.at ≡ position (is_marked c.args.quotes) c.args.text.now = c.in_ok-at.ensures ∙ ap (position (is_marked c.args.quotes)) c.as_bytes.ensures.value in
    rw c.as_bytes-2.ensures.value (CutAtMark-found c.args.quotes c.args.text.now _ _ c.in_ok-at.at e (c.range.ensures.value ∙ grind (arith, common_steps)) c.range_from.ensures.value)
