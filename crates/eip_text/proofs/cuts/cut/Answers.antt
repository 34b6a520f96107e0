use Rattle.std.proofs.lemmas.Str.Pattern.{split_parts}
use Rattle.eip_text.proofs.Cutting.{cuts}
use Rattle.eip_text.proofs.cuts.cut.Goals as goal

pub returns-clause-value : goal.returns-clause-value
returns-clause-value c = cuts c.args.mark c.args.text.now c.split_once.result (split_parts c.args.mark c.args.text.now c.split_once.result c.split_once.ensures.cases c.requires)
