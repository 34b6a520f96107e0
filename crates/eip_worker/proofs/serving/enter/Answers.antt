use Rattle.eip_turnstile.specs.Seats.{knows}
use Rattle.eip_worker.proofs.Stepping.{saw-nothing}
use Rattle.eip_worker.proofs.serving.enter.Goals as goal

pub returns-then-makes_way-clause-saw : goal.returns-then-makes_way-clause-saw
returns-then-makes_way-clause-saw g c start from works known =
    (knows c.enter_outcome.result, c.enter_outcome.ensures.turned start from works known, c.enter_outcome.ensures.works start works, saw-nothing start (knows c.enter_outcome.result))
