use denote.Param.Send.{sendable}
use Rattle.eip_turnstile.specs.Seats.{held_knows, knows}
use Rattle.eip_shared.proofs.Turning.{turn-leaves, turn-looked, turn-of, turn-worked}
use Rattle.eip_shared.proofs.Sending.{run-send}
use Rattle.eip_shared.proofs.turns.look.Goals as goal

pub returns-clause-saw : goal.returns-clause-saw
returns-clause-saw g c start works =
    let turn = turn-of (knows c.args.seat) (held_knows c.enter-held.result) c.enter-held.result.value c.value-run.result.now c.number-worker.result
    c.value-run.ensures.value c.number-worker.ensures c.enter-held.ensures.view c.enter-held.ensures.begins c.enter-held.ensures.mine c.enter-held.ensures.base in
    turn-looked start _ _ _ _ _ turn works _ c.look-what.new.self c.leave.ensures.view c.look-what.result c.look-what.ensures.looks

pub returns-clause-works : goal.returns-clause-works
returns-clause-works g c start works =
    let turn = turn-of (knows c.args.seat) (held_knows c.enter-held.result) c.enter-held.result.value c.value-run.result.now c.number-worker.result
    c.value-run.ensures.value c.number-worker.ensures c.enter-held.ensures.view c.enter-held.ensures.begins c.enter-held.ensures.mine c.enter-held.ensures.base in
    let looks = c.look-what.ensures.looks in
    turn-worked start _ _ _ _ _ turn works _ c.look-what.new.self c.leave.ensures.view looks.0 looks.1 c.look-what.ensures.legal

pub leave-requires-clause-list : goal.leave-requires-clause-list
leave-requires-clause-list g c κs =
    let turn = turn-of (knows c.args.seat) (held_knows c.enter-held.result) c.enter-held.result.value c.value-run.result.now c.number-worker.result
    c.value-run.ensures.value c.number-worker.ensures c.enter-held.ensures.view c.enter-held.ensures.begins c.enter-held.ensures.mine c.enter-held.ensures.base in
    let looks = c.look-what.ensures.looks in
    turn-leaves (knows c.args.seat) (held_knows c.enter-held.result) c.enter-held.result.value c.value-run.result.now c.look-what.new.self
    c.number-worker.result looks.0 turn looks.1

pub enter-held-requires-send-V : goal.enter-held-requires-send-V
enter-held-requires-send-V g c κs within = search (run-send, sendable) depth 12

pub number-worker-requires-send-V : goal.number-worker-requires-send-V
number-worker-requires-send-V g c κs = search (run-send, sendable) depth 12

pub value-run-requires-send-V : goal.value-run-requires-send-V
value-run-requires-send-V g c κs = search (run-send, sendable) depth 12

pub leave-requires-send-V : goal.leave-requires-send-V
leave-requires-send-V g c κs = search (run-send, sendable) depth 12
