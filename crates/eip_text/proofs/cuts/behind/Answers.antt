use Rattle.eip_text.proofs.Cutting.{stripped}
use Rattle.eip_text.proofs.cuts.behind.Goals as goal

pub returns-clause-value : goal.returns-clause-value
returns-clause-value c = stripped c.args.word.now c.args.text.now c.strip_prefix.result c.strip_prefix.ensures.cases
