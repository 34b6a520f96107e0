use denote.Param.Send.{sendable}
use Rattle.eip_shared.proofs.Sending.{run-send}
use Rattle.eip_worker.proofs.worker.Round.rest.Goals as goal

pub seen-requires-send-V : goal.seen-requires-send-V
seen-requires-send-V g c κs = search (run-send, sendable) depth 12
