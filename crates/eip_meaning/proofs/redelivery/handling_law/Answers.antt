use Rattle.eip_meaning.proofs.AttemptLaws.{handlers_try_once}
use Rattle.eip_meaning.proofs.redelivery.handling_law.Goals as goal

pub returns : goal.returns
returns c = handlers_try_once
