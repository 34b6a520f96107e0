use Rattle.std.proofs.Common.{◌≡◌, ◌++◌, drop}
use Rattle.eip_route_print.specs.Seen.{routes_in}
use Rattle.eip_route_canonical.specs.Trees.{values_of}
use Rattle.eip_route_print.proofs.print.push_routes.Given as goal

abbrev pub invariant-loop-route : goal.invariant-loop-route
invariant-loop-route l = values_of l.items.items ++ routes_in l.blocks (drop l.route-index l.routes) ≡ values_of l.fn.items.items ++ routes_in l.blocks l.routes
