use Rattle.std.proofs.Common.{sym}
use Rattle.eip_history.proofs.Walk.{take-next}
use Rattle.eip_core.proofs.served.names_of_lanes.Goals as goal

pub loop-index-preserved : goal.loop-index-preserved
loop-index-preserved g c =
    rw (c.in_ok-push.ensures.items, c.in_ok-copy.ensures, c.loop-index.invariant)
    (sym (take-next _ c.loop-index.index c.name_at.result.now c.name_at.ensures))
