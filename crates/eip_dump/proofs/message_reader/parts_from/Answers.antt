use Rattle.std.proofs.Common.{sym, ◌∙◌, arith}
use Rattle.std.proofs.lemmas.Result.{err_from_is_err_and}
use Rattle.eip_dump.proofs.Steps.{parts_step, parts_unread, parts_done}
use Rattle.eip_dump.proofs.message_reader.parts_from.Goals as goal

pub returns-in_err-part : goal.returns-in_err-part
returns-in_err-part c =
    let p = err_from_is_err_and c.from_residual.result c.from_residual.ensures.1 in
    rw (p.1, p.2) (parts_unread _ c.loop-left.left c.loop-left.parts.items c.loop-left.rest.now _ (omega arith) c.loop-left.invariant c.in_err-part.ensures)

pub loop-left-preserved : goal.loop-left-preserved
loop-left-preserved c =
    rw c.in_ok-push.ensures.items
    (sym (parts_step c.loop-left.left c.loop-left.parts.items c.loop-left.rest.now c.in_ok-part.more.now c.in_ok-part.part (omega arith) c.in_ok-part.ensures)
    ∙ c.loop-left.invariant)

pub returns : goal.returns
returns c = sym c.loop-left.invariant ∙ parts_done c.loop-left.left c.loop-left.parts.items c.loop-left.rest.now (omega arith)
