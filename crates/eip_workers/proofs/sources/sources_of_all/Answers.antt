use Rattle.std.proofs.Common.{◌≡◌, rules}
use Rattle.std.proofs.lemmas.List.Elements.{All-push}
use Rattle.eip_route.specs.declared.route.RouteSet.{RouteSet}
use Rattle.eip_workers.proofs.sources.sources_of_all.Goals as goal

pub loop-preserved : goal.loop-preserved
loop-preserved c = record {
  count = search rules;
  routes = rw c.in_ok-push.ensures.items
      (All-push (λ (s : RouteSet). s.routes ≡ c.args.set.now.routes) c.loop.all.items c.in_ok-sources_of.field-0 c.loop.invariant.routes c.in_ok-sources_of.ensures);
}
