use Rattle.eip_text.proofs.WholeNumbers.{whole_is}
use Rattle.eip_strategy.proofs.steps.whole_of.Goals as goal

pub returns : goal.returns
returns c = whole_is c.args.body.now c.read_i64.result c.read_i64.ensures
