use denote.Param.Send.{sendable}
use Rattle.eip_turnstile.specs.Seats.{held_knows, knows}
use Rattle.eip_shared.proofs.Turning.{turn-entered, turn-may, turn-of, turn-worked}
use Rattle.eip_shared.proofs.Sending.{run-send}
use Rattle.eip_shared.proofs.turns.enter_outcome.Goals as goal

pub enter-requires-clause-may : goal.enter-requires-clause-may
enter-requires-clause-may g c =
    let may = c.requires.may in
    let turn = turn-of (knows c.args.seat) (held_knows c.enter-held.result) c.enter-held.result.value c.value-run.result.now c.number-worker.result
    c.value-run.ensures.value c.number-worker.ensures c.enter-held.ensures.view c.enter-held.ensures.begins c.enter-held.ensures.mine c.enter-held.ensures.base in
    (may.2.0, turn-may may.0 _ _ _ _ _ turn may.1 may.2.0 c.args.outcome c.hub.ensures.legal may.2.1)

pub returns-clause-turned : goal.returns-clause-turned
returns-clause-turned g c start from works known =
    let turn = turn-of (knows c.args.seat) (held_knows c.enter-held.result) c.enter-held.result.value c.value-run.result.now c.number-worker.result
    c.value-run.ensures.value c.number-worker.ensures c.enter-held.ensures.view c.enter-held.ensures.begins c.enter-held.ensures.mine c.enter-held.ensures.base in
    turn-entered start _ _ _ _ _ turn works _ c.enter.new.self c.leave.ensures.view from c.args.outcome c.hub.ensures.legal known c.enter.ensures.makes

pub returns-clause-works : goal.returns-clause-works
returns-clause-works g c start works =
    let turn = turn-of (knows c.args.seat) (held_knows c.enter-held.result) c.enter-held.result.value c.value-run.result.now c.number-worker.result
    c.value-run.ensures.value c.number-worker.ensures c.enter-held.ensures.view c.enter-held.ensures.begins c.enter-held.ensures.mine c.enter-held.ensures.base in
    turn-worked start _ _ _ _ _ turn works _ c.enter.new.self c.leave.ensures.view _ c.enter.ensures.makes c.enter.ensures.legal

pub enter-held-requires-send-V : goal.enter-held-requires-send-V
enter-held-requires-send-V g c κs within = search (run-send, sendable) depth 12

pub number-worker-requires-send-V : goal.number-worker-requires-send-V
number-worker-requires-send-V g c κs = search (run-send, sendable) depth 12

pub value-run-requires-send-V : goal.value-run-requires-send-V
value-run-requires-send-V g c κs = search (run-send, sendable) depth 12

pub leave-requires-send-V : goal.leave-requires-send-V
leave-requires-send-V g c κs = search (run-send, sendable) depth 12
