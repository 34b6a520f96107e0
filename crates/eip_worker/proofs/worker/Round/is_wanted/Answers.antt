use denote.Param.Send.{sendable}
use Rattle.eip_shared.proofs.Sending.{run-send}
use Rattle.eip_worker.proofs.worker.Round.is_wanted.Goals as goal

pub length-length-requires-send-V : goal.length-length-requires-send-V
length-length-requires-send-V g c κs = search (run-send, sendable) depth 12

pub length-now-requires-send-V : goal.length-now-requires-send-V
length-now-requires-send-V g c κs = search (run-send, sendable) depth 12

pub is_free-requires-send-V : goal.is_free-requires-send-V
is_free-requires-send-V g c κs = search (run-send, sendable) depth 12
