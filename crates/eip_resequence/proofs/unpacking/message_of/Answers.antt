use Rattle.std.proofs.lemmas.Result.{err_from_is_err_and}
use Rattle.json.specs.Value.{value_view}
use Rattle.eip_resequence.proofs.Parsing.{no_body, no_headers, no_properties, whole_message}
use Rattle.eip_resequence.proofs.unpacking.message_of.Goals as goal

pub returns-in_err-body : goal.returns-in_err-body
returns-in_err-body c =
    let p = err_from_is_err_and c.from_residual.result c.from_residual.ensures.1 in
    rw (p.1, p.2) (λ h. no_body (value_view c.args.value.now) (c.in_err-body.ensures h))

pub returns-in_err-headers : goal.returns-in_err-headers
returns-in_err-headers c =
    let p = err_from_is_err_and c.from_residual-in_err-headers.result c.from_residual-in_err-headers.ensures.1 in
    rw (p.1, p.2) (λ h. no_headers (value_view c.args.value.now) c.in_ok-body.body c.in_ok-body.ensures (c.in_err-headers.ensures h))

pub returns-in_err-properties : goal.returns-in_err-properties
returns-in_err-properties c =
    let p = err_from_is_err_and c.from_residual-in_err-properties.result c.from_residual-in_err-properties.ensures.1 in
    rw (p.1, p.2) (λ h. no_properties (value_view c.args.value.now) c.in_ok-body.body c.in_ok-headers.headers.items c.in_ok-body.ensures c.in_ok-headers.ensures (c.in_err-properties.ensures h))

pub returns : goal.returns
returns c =
    rw (c.of.ensures, c.of-2.ensures)
    (whole_message (value_view c.args.value.now) c.in_ok-body.body c.in_ok-headers.headers.items c.in_ok-properties.properties.items c.in_ok-body.ensures c.in_ok-headers.ensures c.in_ok-properties.ensures)
