-- What is built of steps that nest, as the numbered form has it.
use Rattle.std.specs.Prelude.{◌≡◌, ℕ, Option, Some, None}
use Rattle.eip_route.specs.declared.route.Route.{Route}
use Rattle.eip_route.specs.Nest.{NestedRoute, flat_block, FlatStep, FlatSteps, FlatGroups, FlatClauses, FlatRoutes}
use Rattle.eip_route_values.specs.declared.built.BuiltStep.{BuiltStep}
use Rattle.eip_route_values.specs.declared.built.BuiltSteps.{BuiltSteps}
use Rattle.eip_route_values.specs.declared.built.BuiltGroups.{BuiltGroups}
use Rattle.eip_route_values.specs.declared.built.BuiltClauses.{BuiltClauses}
use Rattle.eip_route_values.specs.declared.built.BuiltRoute.{BuiltRoute}
use Rattle.eip_route_values.specs.declared.built.BuiltRoutes.{BuiltRoutes}

abbrev pub IsStep : BuiltStep → FlatStep → Type 0
IsStep b f = (b.step ≡ f.step) × (b.blocks.items ≡ f.blocks)

abbrev pub AreSteps : BuiltSteps → FlatSteps → Type 0
AreSteps b f = (b.steps.items ≡ f.steps) × (b.blocks.items ≡ f.blocks)

abbrev pub AreGroups : BuiltGroups → FlatGroups → Type 0
AreGroups b f = (b.numbers.items ≡ f.numbers) × (b.blocks.items ≡ f.blocks)

abbrev pub AreClauses : BuiltClauses → FlatClauses → Type 0
AreClauses b f = (b.clauses.items ≡ f.clauses) × (b.blocks.items ≡ f.blocks)

abbrev pub AreRoutes : BuiltRoutes → FlatRoutes → Type 0
AreRoutes b f = (b.routes.items ≡ f.routes) × (b.blocks.items ≡ f.blocks)

-- the route whose block has this number
abbrev pub numbered : ℕ → NestedRoute → Route
numbered n x = record { id = x.id; from = x.from; block = n }

abbrev pub IsRoute : ℕ → BuiltRoute → NestedRoute → Type 0
IsRoute n b x = (b.route ≡ numbered n x) × (b.blocks.items ≡ flat_block n x.steps)

abbrev pub MayBeRoute : ℕ → Option BuiltRoute → Option NestedRoute → Type 0
MayBeRoute n None x = x ≡ None
MayBeRoute n (Some b) None = ⊥
MayBeRoute n (Some b) (Some x) = IsRoute n b x
