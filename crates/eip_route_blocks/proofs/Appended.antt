-- What was built before what is still to come.
use Rattle.std.proofs.Common.{ℕ, List, ◌++◌}
use Rattle.eip_exchange.specs.declared.setting.Clause.{Clause}
use Rattle.eip_route.specs.declared.route.Block.{Block}
use Rattle.eip_route.specs.declared.route.Route.{Route}
use Rattle.eip_route.specs.declared.step.Step.{Step}
use Rattle.eip_route.specs.Nest.{FlatSteps, FlatGroups, FlatClauses, FlatRoutes}

abbrev pub with_steps : List Step → List Block → FlatSteps → FlatSteps
with_steps ss bs r = record { steps = ss ++ r.steps; blocks = bs ++ r.blocks }

abbrev pub with_groups : List ℕ → List Block → FlatGroups → FlatGroups
with_groups ns bs r = record { numbers = ns ++ r.numbers; blocks = bs ++ r.blocks }

abbrev pub with_clauses : List Clause → List Block → FlatClauses → FlatClauses
with_clauses cs bs r = record { clauses = cs ++ r.clauses; blocks = bs ++ r.blocks }

abbrev pub with_routes : List Route → List Block → FlatRoutes → FlatRoutes
with_routes rs bs r = record { routes = rs ++ r.routes; blocks = bs ++ r.blocks }
