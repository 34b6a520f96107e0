use Rattle.std.proofs.Common.{ℕ, ◌<◌, arith, length, ap}
use Rattle.eip_route.specs.declared.route.RouteSet.{RouteSet}
use Rattle.eip_plan.specs.Plan.{plan_of}
use Rattle.eip_books.proofs.books.Books.owned_source.Goals as goal

-- a route of the plan is one of its set
routes-within : (set : RouteSet) (r : ℕ) → r < (plan_of set).routes → r < length set.routes
unfolding plan_of
routes-within set r h = h

pub returns-clause-none : goal.returns-clause-none
returns-clause-none c = λ r o.
    let within = routes-within c.args.self.now.set r o.idle.0.0 in
    let many = rw (← c.self.view_is) at within in
    c.loop-route.invariant r (omega (arith, many, c.loop-route-test.false, ap length c.items.ensures)) o
