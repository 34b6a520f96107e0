use Rattle.std.proofs.lemmas.Result.{IfOk-weaker}
use Rattle.eip_router.proofs.Listing.{targets}
use Rattle.eip_router.proofs.recipient_list.recipients.Goals as goal

pub returns-clause-accepted : goal.returns-clause-accepted
returns-clause-accepted c = IfOk-weaker c.read_all.result _ _ (λ us e. targets 0 _ us.items e) c.read_all.ensures.uris
