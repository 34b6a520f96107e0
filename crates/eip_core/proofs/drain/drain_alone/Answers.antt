use Rattle.eip_core.proofs.Compose.{drains-refl, drains-trans}
use Rattle.eip_core.proofs.Turns.{still-runs, fewer-turns}
use Rattle.eip_core.proofs.drain.drain_alone.Goals as goal

pub loop-stop-init : goal.loop-stop-init
loop-stop-init g c = record { home = c.requires.home; drains = drains-refl c.args.hub.now _ _ }

pub take_turn-requires-clause-can_run : goal.take_turn-requires-clause-can_run
take_turn-requires-clause-can_run g c =
    still-runs c.loop-stop.invariant.drains c.requires.can_run

pub returns-in-Ok-Some-clause-drains : goal.returns-in-Ok-Some-clause-drains
returns-in-Ok-Some-clause-drains g c = drains-trans c.loop-stop.invariant.drains c.take_turn.ensures.drains

pub loop-stop-smaller : goal.loop-stop-smaller
loop-stop-smaller g c = fewer-turns c.take_turn.ensures.drains c.take_turn.ensures.legal ((rw c.in-Ok-None.field-0-is at c.in-Ok-None.ensures.turn))

pub loop-stop-preserved : goal.loop-stop-preserved
loop-stop-preserved g c = record { home = (rw c.in-Ok-None.field-0-is at c.in-Ok-None.ensures.home); drains = drains-trans c.loop-stop.invariant.drains c.take_turn.ensures.drains }

pub returns-in-Err-clause-drains : goal.returns-in-Err-clause-drains
returns-in-Err-clause-drains g c = drains-trans c.loop-stop.invariant.drains c.take_turn.ensures.drains
