use Rattle.eip_turns.proofs.Faulting.{letters_as}
use Rattle.eip_turns.proofs.handling.undecided.Goals as goal

pub returns-in-Some-clause-means : goal.returns-in-Some-clause-means
returns-in-Some-clause-means c = λ whole m A. rw c.in_handler.ensures (letters_as c.args.set.now whole c.args.context c.args.fault m _ A c.in-Some.is)
