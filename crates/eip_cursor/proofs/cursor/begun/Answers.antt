use Rattle.eip_turns.proofs.Faulting.{rest_at_start}
use Rattle.eip_cursor.proofs.cursor.begun.Goals as goal

pub returns-in-Block : goal.returns-in-Block
returns-in-Block c = λ A. rw c.in-Block.is (rest_at_start c.args.set.now c.args.context c.in-Block.block c.args.message.now A)
