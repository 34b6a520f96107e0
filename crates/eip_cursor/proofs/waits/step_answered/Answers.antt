use Rattle.eip_cursor.proofs.Answering.{keeps_going}
use Rattle.eip_cursor.proofs.Replying.{step_goes_on, no_step_goes_on}
use Rattle.eip_cursor.proofs.waits.step_answered.Goals as goal

pub returns-in_ok-effect-in-Some-clause-means : goal.returns-in_ok-effect-in-Some-clause-means
returns-in_ok-effect-in-Some-clause-means c = λ whole A.
    rw c.in_ok-effect-in-Some.ensures
    (step_goes_on c.args.set.now whole c.args.context c.args.block c.args.index c.in-Some.step.now c.args.progress.now c.args.message.now c.args.answer.now A c.in-Some.ensures)

pub returns-in_ok-effect-in-Some-clause-keeps : goal.returns-in_ok-effect-in-Some-clause-keeps
returns-in_ok-effect-in-Some-clause-keeps c =
    rw c.in_ok-effect-in-Some.ensures
    (keeps_going c.args.message.now c.args.set.now c.args.context c.in-Some.step.now c.args.progress.now c.args.answer.now)

pub returns-in-None-clause-means : goal.returns-in-None-clause-means
returns-in-None-clause-means c = λ whole A.
    no_step_goes_on c.args.set.now whole c.args.context c.args.block c.args.index c.args.progress.now c.args.message.now c.args.answer.now A c.in-None.ensures
