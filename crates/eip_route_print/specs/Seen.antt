-- What stands in a block of a set.
use Rattle.std.specs.Prelude.{ℕ, cond, nat_lt, List, [], ◌∷◌, ◌++◌, Option, Some, None}
use Rattle.eip_text.specs.Json.{Json}
use Rattle.eip_route.specs.Nest.{NestedSteps, none, un_block, un_step}
use Rattle.eip_exchange.specs.declared.setting.Clause.{Clause}
use Rattle.eip_route.specs.declared.route.Block.{Block}
use Rattle.eip_route.specs.declared.route.Route.{Route}
use Rattle.eip_route.specs.declared.step.Step.{Step}
use Rattle.eip_route_canonical.specs.Canonical.{steps_json, step_json, clause_json, route_json, list_of}

-- the steps of block i, as block j sees them: only the blocks behind it are nested in it
unfoldable pub seen : List Block → ℕ → ℕ → NestedSteps
seen bs j i = cond (nat_lt j i) (un_block 0 bs i) none

-- the steps of block i, printed
unfoldable pub block_json : List Block → ℕ → List Json
block_json bs i = steps_json (un_block 0 bs i)

-- and what stands in block j
unfoldable pub seen_json : List Block → ℕ → ℕ → List Json
seen_json bs j i = steps_json (seen bs j i)

unfoldable pub step_in : List Block → ℕ → Step → Json
step_in bs j s = step_json (un_step (seen bs j) s)

abbrev pub steps_in : List Block → ℕ → List Step → List Json
steps_in bs j [] = []
steps_in bs j (s ∷ ss) = step_in bs j s ∷ steps_in bs j ss

-- and what stands in the blocks of these numbers
abbrev pub groups_in : List Block → ℕ → List ℕ → List (List Json)
groups_in bs j [] = []
groups_in bs j (n ∷ ns) = seen_json bs j n ∷ groups_in bs j ns

-- ---- what stands in a file

abbrev pub clause_steps : List Block → Option ℕ → Option Json
clause_steps bs None = None
clause_steps bs (Some b) = Some (list_of (block_json bs b))

unfoldable pub clause_in : List Block → Clause → Json
clause_in bs c = clause_json c.names c.policy c.handled c.continued (clause_steps bs c.block)

abbrev pub clauses_in : List Block → List Clause → List Json
clauses_in bs [] = []
clauses_in bs (c ∷ cs) = clause_in bs c ∷ clauses_in bs cs

unfoldable pub route_in : List Block → Route → Json
route_in bs r = route_json r.id r.from (list_of (block_json bs r.block))

abbrev pub routes_in : List Block → List Route → List Json
routes_in bs [] = []
routes_in bs (r ∷ rs) = route_in bs r ∷ routes_in bs rs
