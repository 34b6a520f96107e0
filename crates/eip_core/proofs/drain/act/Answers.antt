use Rattle.std.proofs.Common.{sym, ap}
use Rattle.eip_history.specs.Rules.{first}
use Rattle.eip_core.proofs.Acts.{rests-none, rests-below, started, drains-started, acts-started, acts-none}
use Rattle.eip_core.proofs.Compose.{drains-refl, drains-none}
use Rattle.eip_core.proofs.drain.act.Goals as goal

pub returns-in_err-reserve-clause-drains : goal.returns-in_err-reserve-clause-drains
returns-in_err-reserve-clause-drains g c = drains-none (drains-refl c.args.hub.now _ _) c.reserve.ensures.none

pub pull_once-requires-clause-no_queue : goal.pull_once-requires-clause-no_queue
pull_once-requires-clause-no_queue g c =
    let below = rests-below c.reserve.new.self (rests-none c.reserve.ensures.none c.requires.rests) in
    rw c.in-None-start.ensures.none (ap first (c.in-None-start.ensures.exact below))

pub returns-in-Some-start-clause-drains : goal.returns-in-Some-start-clause-drains
returns-in-Some-start-clause-drains g c =
    let s = started c.requires.rests c.reserve.ensures.none (sym c.in-None.ensures) c.in-Some-start.ensures.starts c.start.ensures.legal in
    drains-started _ _ c.reserve.ensures.none s

pub returns-in-Some-start-clause-acts : goal.returns-in-Some-start-clause-acts
returns-in-Some-start-clause-acts g c =
    let s = started c.requires.rests c.reserve.ensures.none (sym c.in-None.ensures) c.in-Some-start.ensures.starts c.start.ensures.legal in
    acts-none c.reserve.ensures.none (acts-started s)
