use Rattle.eip_verdict.proofs.Wrongs.{one-verdict}
use Rattle.eip_verdict.proofs.laws.one_verdict_law.Goals as goal

pub returns : goal.returns
returns c = λ s workers limit past u v. one-verdict s workers limit past u v
