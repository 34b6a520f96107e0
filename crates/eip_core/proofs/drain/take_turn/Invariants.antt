use Rattle.std.proofs.Common.{◌≡◌}
use Rattle.eip_history.specs.Own.{turns}
use Rattle.eip_history.specs.Place.{hands}
use Rattle.eip_history.specs.Work.{work}
use Rattle.eip_hub.specs.View.{plan}
use Rattle.eip_core.specs.Drain.{Drains}
use Rattle.eip_core.proofs.drain.take_turn.Given as goal

abbrev pub invariant-loop-stop : goal.invariant-loop-stop
invariant-loop-stop g l =
    record {
      home : hands (plan l.hub) l.hub.journal.past ≡ 0;
      turns_same : turns l.hub.journal.past ≡ l.before;
      drains : Drains l.initial.hub l.hub (g.L.Lanes.views l.initial.lanes) (g.L.Lanes.views l.lanes) (g.I.Inlets.views l.initial.inlets) (g.I.Inlets.views l.inlets) (g.R.Registered.view l.registry);
    }

abbrev pub decreases-loop-stop : goal.decreases-loop-stop
decreases-loop-stop g l = work (plan l.hub) l.hub.journal.past
