use Rattle.eip_verdict.proofs.Wrongs.{legal-exactly}
use Rattle.eip_verdict.proofs.laws.legal_law.Goals as goal

pub returns : goal.returns
returns c = legal-exactly
