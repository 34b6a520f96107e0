use Rattle.std.proofs.Common.{arith, refl}
use Rattle.std.proofs.lemmas.Grind.{common_steps}
use Rattle.eip_route_canonical.proofs.Loops.{pushed}
use Rattle.eip_route_print.specs.Seen.{route_in, routes_in}
use Rattle.eip_route_print.proofs.print.push_routes.Goals as goal

pub loop-route-preserved : goal.loop-route-preserved
loop-route-preserved c =
    pushed (routes_in c.args.blocks.now) (route_in c.args.blocks.now) c.args.routes.now c.loop-route.route-index _ _ _ c.route-item.result _
    (λ y ys. refl) c.loop-route.invariant (grind (arith, common_steps)) c.in_ok-push.ensures.items c.in_ok-tree.ensures
