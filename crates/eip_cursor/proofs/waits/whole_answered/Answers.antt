use Rattle.eip_cursor.proofs.Answering.{keeps_to_on}
use Rattle.eip_cursor.proofs.Replying.{whole_goes_on, no_whole_goes_on}
use Rattle.eip_cursor.proofs.waits.whole_answered.Goals as goal

pub returns-in-Some-clause-means : goal.returns-in-Some-clause-means
returns-in-Some-clause-means c = λ d p m a A. rw (c.to_answered.ensures m, c.get.ensures) (whole_goes_on c.args.set.now c.args.whole.now d c.in-Some.uri p m a A c.in-Some.is)

pub returns-in-Some-clause-keeps : goal.returns-in-Some-clause-keeps
returns-in-Some-clause-keeps c = λ m. rw (c.to_answered.ensures m, c.get.ensures) (keeps_to_on m c.args.set.now c.in-Some.uri)

pub returns-in-None-clause-means : goal.returns-in-None-clause-means
returns-in-None-clause-means c = λ d p m a A. no_whole_goes_on c.args.set.now c.args.whole.now d p m a A c.in-None.is
