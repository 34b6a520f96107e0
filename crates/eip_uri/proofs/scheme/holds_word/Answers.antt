use Rattle.eip_uri.proofs.Values.{contains_is}
use Rattle.eip_uri.proofs.scheme.holds_word.Goals as goal

pub returns : goal.returns
returns c = contains_is c.args.word.now c.args.text.now c.contains.result c.contains.ensures.cases
