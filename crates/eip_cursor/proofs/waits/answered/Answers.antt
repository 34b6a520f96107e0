use Rattle.std.proofs.Common.{◌∙◌, sym}
use Rattle.eip_cursor.proofs.Replying.{answered_none, answered_some}
use Rattle.eip_cursor.proofs.waits.answered.Goals as goal

pub returns-in_ok-effect-in-Some-clause-means : goal.returns-in_ok-effect-in-Some-clause-means
returns-in_ok-effect-in-Some-clause-means c = λ A.
    rw (c.in_ok-effect-in-Some.ensures c.args.message.now, c.is_tried_again.ensures)
    (answered_some c.args.set.now c.args.whole.now c.args.context c.args.task c.args.asking.now.progress c.args.asking.now.request c.args.asking.now.index c.args.message.now c.args.answer.now A c.in-Some.fault c.requires (sym c.in_ok-found.ensures ∙ c.in-Some.is))

pub returns-in_ok-effect-in-None-clause-means : goal.returns-in_ok-effect-in-None-clause-means
returns-in_ok-effect-in-None-clause-means c = λ A.
    c.in_ok-effect-in-None.ensures.means A
    ∙ answered_none c.args.set.now c.args.whole.now c.args.context c.args.task c.args.asking.now.progress c.args.asking.now.request c.args.asking.now.index c.args.message.now c.args.answer.now A c.requires (sym c.in_ok-found.ensures ∙ c.in-None.is)
