use Rattle.eip_shared.proofs.Doing.{part-of}
use Rattle.eip_shared.proofs.shared.SharedRun.into_hub.Goals as goal

pub returns-clause-parts : goal.returns-clause-parts
returns-clause-parts c = λ w. part-of c.args.self w
