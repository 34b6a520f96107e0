use Rattle.eip_verdict.proofs.OneAnswer.{one-answer}
use Rattle.eip_verdict.proofs.laws.one_answer_law.Goals as goal

pub returns : goal.returns
returns c = one-answer
