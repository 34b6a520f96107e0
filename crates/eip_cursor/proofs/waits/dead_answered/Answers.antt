use Rattle.eip_cursor.proofs.Answering.{keeps_to_on}
use Rattle.eip_cursor.proofs.Replying.{dead_goes_on, no_dead_goes_on}
use Rattle.eip_cursor.proofs.waits.dead_answered.Goals as goal

pub returns-in-Some-clause-means : goal.returns-in-Some-clause-means
returns-in-Some-clause-means c = λ whole d p m a A. rw (c.to_answered.ensures m) (dead_goes_on c.args.set.now whole d c.in-Some.uri p m a A c.in-Some.is)

pub returns-in-Some-clause-keeps : goal.returns-in-Some-clause-keeps
returns-in-Some-clause-keeps c = λ m. rw (c.to_answered.ensures m) (keeps_to_on m c.args.set.now c.in-Some.uri)

pub returns-in-None-clause-means : goal.returns-in-None-clause-means
returns-in-None-clause-means c = λ whole d p m a A. no_dead_goes_on c.args.set.now whole d p m a A c.in-None.is
