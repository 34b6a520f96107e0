use Rattle.std.proofs.Common.{◌≡◌, drop}
use Rattle.eip_route.specs.Faults.{first_some, found, routes_numbers}
use Rattle.eip_route.proofs.nesting.find_in_routes.Given as goal

abbrev pub invariant-loop-route : goal.invariant-loop-route
invariant-loop-route l = first_some (found l.blocks l.wanted) (routes_numbers l.routes) ≡ first_some (found l.blocks l.wanted) (routes_numbers (drop l.route-index l.routes))
