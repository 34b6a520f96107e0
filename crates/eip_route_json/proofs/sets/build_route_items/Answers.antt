use Rattle.std.proofs.Common.{◌≡◌, ℕ, ◌+◌, [], ◌∷◌, ◌++◌, length, drop, Option, None, sym, rules, subst}
use Rattle.eip_text.specs.Json.{json, items_json}
use Rattle.eip_route.specs.Nest.{flat_routes}
use Rattle.eip_route_values.specs.Built.{MayBeRoute}
use Rattle.eip_route_values.specs.Sets.{routes_of}
use Rattle.eip_route_values.specs.declared.built.BuiltRoute.{BuiltRoute}
use Rattle.eip_route_values.specs.Taken.{stock, spent, in_routes}
use Rattle.eip_route_blocks.proofs.Appended.{with_routes}
use Rattle.eip_route_json.proofs.Held.{route_left, route_held, routes_held}
use Rattle.eip_route_json.proofs.Items.{is_said, route_of, route_built, route_passed}
use Rattle.eip_route_json.proofs.sets.build_route_items.Goals as goal
use Rattle.eip_route_json.proofs.sets.build_route_items.Goals.{in-Some+in_ok-n+in_ok-push+in_ok-append, in_default}

pub build_route-requires : goal.build_route-requires
build_route-requires c = record { held = route_held c.args.items.now c.loop-item.item-index c.item-item.result (stock c.loop-item.known) c.item-item.is c.loop-item-test.true c.loop-item.invariant.held }

pub loop-item-preserved : goal.loop-item-preserved
loop-item-preserved c =
    let ts = c.args.items.now in
    let i = c.loop-item.item-index in
    let x = c.item-item.result in
    let n = c.loop-item.n in
    let k = c.len-position.result + 1 in
    let whole = spent (in_routes (items_json ts)) (stock c.args.known.now) in
    let all = flat_routes c.args.first (routes_of 1 (items_json ts)) in
    let took = c.in_ok-built.ensures.left in
    let counted : c.len-position.result ≡ length c.loop-item.routes.items = search rules in
    let before : all ≡ with_routes c.loop-item.routes.items c.loop-item.blocks.items (flat_routes n (routes_of k (items_json (drop i ts)))) =
    subst (λ (j : ℕ). all ≡ with_routes c.loop-item.routes.items c.loop-item.blocks.items (flat_routes n (routes_of (j + 1) (items_json (drop i ts))))) (sym counted) c.loop-item.invariant.routes in
    elim c.match-branch-2.branch [
      | in-Some+in_ok-n+in_ok-push+in_ok-append w ↦
          let said = is_said n w.in-Some.built (route_of k (json x)) (subst (λ (o : Option BuiltRoute). MayBeRoute n o (route_of k (json x))) w.in-Some.is c.in_ok-built.ensures.value) in
          let route = w.in-Some.built.route in
          let more = w.in-Some.built.blocks.items in
          let behind : w.in_ok-n.n ≡ n + length more = search rules in
          let pushed : w.push.new.self.items ≡ c.loop-item.routes.items ++ (route ∷ []) = search rules in
          let appended : w.append.new.self.items ≡ c.loop-item.blocks.items ++ more = search rules in
          let next : length w.push.new.self.items + 1 ≡ k + 1 = search rules in
          let built : all ≡ with_routes w.push.new.self.items w.append.new.self.items (flat_routes w.in_ok-n.n (routes_of (length w.push.new.self.items + 1) (items_json (drop (i + 1) ts)))) =
          route_built ts i x said.0 k (length w.push.new.self.items + 1) n w.in_ok-n.n c.loop-item.routes.items w.push.new.self.items route c.loop-item.blocks.items more w.append.new.self.items all c.item-item.is
          c.loop-item-test.true before said.1 said.2 next behind pushed appended in
          record {
            routes = rw w.routes-is (rw w.blocks-is (rw w.n-is built));
            left = route_left ts i x whole (stock c.loop-item.known) _ c.item-item.is c.loop-item-test.true c.loop-item.invariant.left took;
            held = routes_held ts i x (stock c.loop-item.known) _ c.item-item.is c.loop-item-test.true c.loop-item.invariant.held took;
          }
      | in_default w ↦
          let none : None ≡ route_of k (json x) = sym (subst (λ (o : Option BuiltRoute). MayBeRoute n o (route_of k (json x))) w.in_default.is c.in_ok-built.ensures.value) in
          let passed : all ≡ with_routes c.loop-item.routes.items c.loop-item.blocks.items (flat_routes n (routes_of (length c.loop-item.routes.items + 1) (items_json (drop (i + 1) ts)))) =
          subst (λ (j : ℕ). all ≡ with_routes c.loop-item.routes.items c.loop-item.blocks.items (flat_routes n (routes_of (j + 1) (items_json (drop (i + 1) ts))))) counted
          (route_passed ts i x k n c.loop-item.routes.items c.loop-item.blocks.items all c.item-item.is c.loop-item-test.true before none) in
          record {
            routes = rw w.routes-is (rw w.blocks-is (rw w.n-is passed));
            left = route_left ts i x whole (stock c.loop-item.known) _ c.item-item.is c.loop-item-test.true c.loop-item.invariant.left took;
            held = routes_held ts i x (stock c.loop-item.known) _ c.item-item.is c.loop-item-test.true c.loop-item.invariant.held took;
          }
    ]
