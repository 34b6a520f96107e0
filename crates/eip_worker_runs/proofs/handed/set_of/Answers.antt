use Rattle.std.proofs.Common.{◌≡◌, ℕ, List, Option, Some, None, refl, sym, subst, ◌∙◌}
use Rattle.eip_text.specs.Json.{Json, json_read}
use Rattle.eip_route.specs.declared.route.Names.{Names}
use Rattle.eip_route.specs.declared.route.RouteSet.{RouteSet}
use Rattle.eip_route_json.specs.Reading.{set_of, tree_set}
use Rattle.eip_worker_runs.proofs.handed.set_of.Goals as goal

-- the names of a set that was read are those with which it was read
read-names : (n : Names) (bytes : List ℕ) → (set_of n bytes).names ≡ n
unfolding set_of
read-names n bytes = by_tree (json_read bytes)
  where
    by_tree : (t : Option Json) → (tree_set n t).names ≡ n
    by_tree None = refl
    by_tree (Some t) = refl

pub returns-in-Ok-read_routes : goal.returns-in-Ok-read_routes
returns-in-Ok-read_routes g c =
    let reads = c.in-Ok-read_routes.ensures.reads in
    let named = subst (λ (s : RouteSet). s.names ≡ c.in-Ok.names) (sym reads.1) (read-names c.in-Ok.names _) in
    record { valid = reads.3; named = named ∙ c.in-Ok.ensures }
