use Rattle.eip_cursor.proofs.Ending.{passes_as}
use Rattle.eip_cursor.proofs.last.passes.Goals as goal

pub returns-else-not-is_taken : goal.returns-else-not-is_taken
returns-else-not-is_taken c = λ t whole A.
    rw c.in-Trying.is
    (passes_as c.args.set.now whole c.in-Trying.context c.in-Trying.task c.in-Trying.left c.in-Trying.message c.in-Trying.asking c.args.answer.now A c.if-left-lt1000.false
    (rw c.in-Trying.is at c.requires) (rw c.get.ensures at (c.is_taken.ensures c.if-not-is_taken.false c.args.set.now))
    (λ p n. c.is_left.ensures t whole c.in-Trying.context p n c.args.answer.now A))
