use Rattle.eip_meaning.proofs.AttemptLaws.{tried_once}
use Rattle.eip_meaning.proofs.redelivery.once_law.Goals as goal

pub returns : goal.returns
returns c = tried_once
