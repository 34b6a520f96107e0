use Rattle.std.proofs.Common.{sym, arith}
use Rattle.eip_core.proofs.Compose.{drains-refl, drains-trans}
use Rattle.eip_core.proofs.Turns.{still-runs}
use Rattle.eip_core.proofs.drain.take_turn.Goals as goal

pub loop-stop-init : goal.loop-stop-init
loop-stop-init g c = record { home = c.requires.home; turns_same = sym c.turns_taken-before.ensures; drains = drains-refl c.args.hub.now _ _ }

pub act-requires-clause-can_run : goal.act-requires-clause-can_run
act-requires-clause-can_run g c =
    still-runs c.loop-stop.invariant.drains c.requires.can_run

pub returns-in_err-act-clause-drains : goal.returns-in_err-act-clause-drains
returns-in_err-act-clause-drains g c = drains-trans c.loop-stop.invariant.drains c.act.ensures.drains

pub returns-then-turns_taken-before-clause-drains : goal.returns-then-turns_taken-before-clause-drains
returns-then-turns_taken-before-clause-drains g c = drains-trans c.loop-stop.invariant.drains c.act.ensures.drains

pub loop-stop-preserved : goal.loop-stop-preserved
loop-stop-preserved g c =
    let acts = c.in_ok-act.ensures.acts in
    record {
      home = acts.home;
      turns_same = omega (arith, acts.progress.turns_rise, c.loop-stop.invariant.turns_same, c.turns_taken.ensures, c.if-turns_taken-before.false);
      drains = drains-trans c.loop-stop.invariant.drains c.act.ensures.drains;
    }
