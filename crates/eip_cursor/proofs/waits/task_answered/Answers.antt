use Rattle.eip_cursor.proofs.waits.task_answered.Goals as goal

pub returns-in-Dead-clause-means : goal.returns-in-Dead-clause-means
returns-in-Dead-clause-means c = λ A. rw c.in-Dead.is (c.dead_answered.ensures.means c.args.whole.now c.args.context c.args.progress.now c.args.message.now c.args.answer.now A)

pub returns-in-Whole-clause-means : goal.returns-in-Whole-clause-means
returns-in-Whole-clause-means c = λ A. rw c.in-Whole.is (c.whole_answered.ensures.means c.args.context c.args.progress.now c.args.message.now c.args.answer.now A)
