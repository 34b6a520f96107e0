use Rattle.eip_history.proofs.Allowed.{may-answer}
use Rattle.eip_history_laws.proofs.laws.answering_law.Goals as goal

pub returns : goal.returns
returns c = may-answer
