use Rattle.std.proofs.Common.{sym, ◌∙◌, arith}
use Rattle.std.proofs.lemmas.Result.{err_from_is_err_and}
use Rattle.eip_dump.proofs.Steps.{headers_step, headers_unread, headers_refused, headers_done}
use Rattle.eip_dump.proofs.message_reader.headers_from.Goals as goal

pub returns-in_err-name : goal.returns-in_err-name
returns-in_err-name c =
    let p = err_from_is_err_and c.from_residual.result c.from_residual.ensures.1 in
    rw (p.1, p.2) (headers_unread _ c.loop-left.left c.loop-left.headers c.loop-left.rest.now _ (omega arith) c.loop-left.invariant c.in_err-name.ensures)

pub returns-in_err-set_header : goal.returns-in_err-set_header
returns-in_err-set_header c =
    let p = err_from_is_err_and c.from_residual-in_err-set_header.result c.from_residual-in_err-set_header.ensures.1 in
    rw (p.1, p.2) (headers_refused _ c.loop-left.left c.loop-left.headers c.loop-left.rest.now c.in_ok-name.more.now (c.in_ok-name.name, c.in_ok-name.value) _ (omega arith) c.loop-left.invariant c.in_ok-name.ensures c.in_err-set_header.ensures)

pub loop-left-preserved : goal.loop-left-preserved
loop-left-preserved c =
    sym (headers_step c.loop-left.left c.loop-left.headers c.set_header.new.headers c.loop-left.rest.now c.in_ok-name.more.now (c.in_ok-name.name, c.in_ok-name.value) (omega arith) c.in_ok-name.ensures c.in_ok-set_header.ensures)
    ∙ c.loop-left.invariant

pub returns : goal.returns
returns c = sym c.loop-left.invariant ∙ headers_done c.loop-left.left c.loop-left.headers c.loop-left.rest.now (omega arith)
