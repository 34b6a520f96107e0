use Rattle.std.proofs.Common.{◌≡◌, All, vec_len}
use Rattle.eip_route.specs.declared.route.RouteSet.{RouteSet}
use Rattle.eip_workers.proofs.sources.sources_of_all.Given as goal

abbrev pub invariant-loop : goal.invariant-loop
invariant-loop l = record {
  count : vec_len l.all ≡ l.counter;
  routes : All (λ (s : RouteSet). s.routes ≡ l.set.routes) l.all.items;
}
