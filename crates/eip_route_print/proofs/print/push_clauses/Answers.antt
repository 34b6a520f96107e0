use Rattle.std.proofs.Common.{arith, refl}
use Rattle.std.proofs.lemmas.Grind.{common_steps}
use Rattle.eip_route_canonical.proofs.Loops.{pushed}
use Rattle.eip_route_print.specs.Seen.{clause_in, clauses_in}
use Rattle.eip_route_print.proofs.print.push_clauses.Goals as goal

pub loop-clause-preserved : goal.loop-clause-preserved
loop-clause-preserved c =
    pushed (clauses_in c.args.blocks.now) (clause_in c.args.blocks.now) c.args.clauses.now c.loop-clause.clause-index _ _ _ c.clause-item.result _
    (λ y ys. refl) c.loop-clause.invariant (grind (arith, common_steps)) c.in_ok-push.ensures.items c.in_ok-tree.ensures
