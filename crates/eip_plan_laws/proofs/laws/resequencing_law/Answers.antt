use Rattle.eip_plan_laws.proofs.Resequenced.{batches-resequenced}
use Rattle.eip_plan_laws.proofs.laws.resequencing_law.Goals as goal

pub returns : goal.returns
returns c = batches-resequenced
