-- What workers are made of may go to another thread, and what they share may be seen by each: none of it names a thread.
use denote.RattleType.{RattleType}
use denote.Ref.{NamedLft}
use denote.Param.Send.{IsSend, IsSync, sendable}
use Rattle.std.proofs.Crossing.{crosses}
use Rattle.eip_turnstile.proofs.seat.Turnstile.TheSendSync as lock
use Rattle.eip_turnstile.proofs.seat.Seat.TheSendSync as seat
use Rattle.eip_endpoint.proofs.lanes.Lane.TheSendSync as lane
use Rattle.eip_endpoint.proofs.inlets.Inlet.TheSendSync as inlet
use Rattle.eip_worker.proofs.Sending.{run-send, set-field-send}
use Rattle.eip_worker.specs.contracts.worker.Worker as worker
use Rattle.eip_worker.specs.contracts.worker.Round as round

pub worker-send : (E S : RattleType) → IsSend E → IsSend S → IsSend (worker.the_row E S)
worker-send E S e s =
    search (set-field-send, run-send, seat.the_send, lane.the_send, inlet.the_send, crosses, sendable) depth 40 fits 30000

pub round-sync : (a : NamedLft) (R G : RattleType) → IsSync R → IsSync G → IsSync (round.the_row a R G)
round-sync a R G r s = search (run-send, lock.the_sync, crosses, sendable) depth 40 fits 30000
