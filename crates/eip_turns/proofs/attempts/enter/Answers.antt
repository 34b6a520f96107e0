use Rattle.eip_turns.proofs.Trying.{enters_as}
use Rattle.eip_turns.proofs.attempts.enter.Goals as goal

pub returns-then-from-block-clause-means : goal.returns-then-from-block-clause-means
returns-then-from-block-clause-means c = λ set whole m A. enters_as set whole c.args.context c.args.from c.args.block m A c.if-from-block.true
