use Rattle.eip_core.proofs.Acts.{ticked, drains-ticked, acts-ticked, forceable, forced, drains-forced, acts-forced}
use Rattle.eip_core.proofs.Compose.{drains-refl, drains-none}
use Rattle.eip_core.proofs.drain.move_on.Goals as goal

pub returns-in_err-tick-clause-drains : goal.returns-in_err-tick-clause-drains
returns-in_err-tick-clause-drains g c = drains-none (drains-refl c.args.hub.now _ _) c.in_err-tick.ensures.err

pub returns-then-branch-clause-drains : goal.returns-then-branch-clause-drains
returns-then-branch-clause-drains g c = drains-ticked _ _ (ticked c.requires.rests (c.in_ok-tick.ensures.ticked c.if-branch.true) c.tick.ensures.legal)

pub returns-then-branch-clause-acts : goal.returns-then-branch-clause-acts
returns-then-branch-clause-acts g c = acts-ticked (ticked c.requires.rests (c.in_ok-tick.ensures.ticked c.if-branch.true) c.tick.ensures.legal)

pub returns-in_err-force-clause-drains : goal.returns-in_err-force-clause-drains
returns-in_err-force-clause-drains g c =
    let still = c.in_ok-tick.ensures.none c.if-branch.false in
    drains-none (drains-refl c.args.hub.now _ _) (rw still at c.in_err-force.ensures.err)

pub unreachable-requires : goal.unreachable-requires
unreachable-requires g c =
    let still = c.in_ok-tick.ensures.none c.if-branch.false in
    let may = forceable c.args.hub.now c.requires.rests c.requires.nobody c.requires.no_queue c.requires.no_source (c.in_ok-tick.ensures.exact c.if-branch.false) in
    (rw still at c.in_ok-force.ensures.exact) c.if-branch-2.false may

pub returns-clause-drains : goal.returns-clause-drains
returns-clause-drains g c =
    let still = c.in_ok-tick.ensures.none c.if-branch.false in
    drains-forced _ _ (forced c.requires.rests (rw still at (c.in_ok-force.ensures.forced c.if-branch-2.true)) c.force.ensures.legal)

pub returns-clause-acts : goal.returns-clause-acts
returns-clause-acts g c =
    let still = c.in_ok-tick.ensures.none c.if-branch.false in
    acts-forced (forced c.requires.rests (rw still at (c.in_ok-force.ensures.forced c.if-branch-2.true)) c.force.ensures.legal)
