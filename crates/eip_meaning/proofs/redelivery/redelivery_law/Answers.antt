use Rattle.eip_meaning.proofs.AttemptLaws.{tried_again}
use Rattle.eip_meaning.proofs.redelivery.redelivery_law.Goals as goal

pub returns : goal.returns
returns c = tried_again
