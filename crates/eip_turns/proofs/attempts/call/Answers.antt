use Rattle.eip_turns.proofs.Trying.{calls_as}
use Rattle.eip_turns.proofs.attempts.call.Goals as goal

pub returns-then-context-lt32-clause-means : goal.returns-then-context-lt32-clause-means
returns-then-context-lt32-clause-means c = λ whole m A. rw (c.called.ensures, c.block_of_route.ensures) (calls_as c.args.set.now whole c.args.context c.args.route m A c.if-context-lt32.true)
