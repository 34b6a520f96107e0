use Rattle.eip_text.proofs.Cutting.{found}
use Rattle.eip_text.proofs.cuts.holds.Goals as goal

pub returns : goal.returns
returns c = let same = found c.args.mark c.args.text.now c.cut.result c.cut.ensures.value in cc
