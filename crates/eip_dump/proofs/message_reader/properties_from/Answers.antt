use Rattle.std.proofs.Common.{sym, ◌∙◌, arith}
use Rattle.std.proofs.lemmas.Result.{err_from_is_err_and}
use Rattle.eip_dump.proofs.Steps.{properties_step, properties_unread, properties_done}
use Rattle.eip_dump.proofs.message_reader.properties_from.Goals as goal

pub returns-in_err-name : goal.returns-in_err-name
returns-in_err-name c =
    let p = err_from_is_err_and c.from_residual.result c.from_residual.ensures.1 in
    rw (p.1, p.2) (properties_unread _ c.loop-left.left c.loop-left.properties c.loop-left.rest.now _ (omega arith) c.loop-left.invariant c.in_err-name.ensures)

pub loop-left-preserved : goal.loop-left-preserved
loop-left-preserved c =
    rw c.in_ok-set.ensures.set
    (sym (properties_step c.loop-left.left c.loop-left.properties c.loop-left.rest.now c.in_ok-name.more.now (c.in_ok-name.name, c.in_ok-name.value) (omega arith) c.in_ok-name.ensures)
    ∙ c.loop-left.invariant)

pub returns : goal.returns
returns c = sym c.loop-left.invariant ∙ properties_done c.loop-left.left c.loop-left.properties c.loop-left.rest.now (omega arith)
