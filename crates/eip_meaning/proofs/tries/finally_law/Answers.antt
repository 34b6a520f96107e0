use Rattle.eip_meaning.proofs.LastOnce.{last_runs_once}
use Rattle.eip_meaning.proofs.tries.finally_law.Goals as goal

pub returns : goal.returns
returns c = last_runs_once
