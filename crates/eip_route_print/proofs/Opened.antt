-- What stands in a block, by its steps.
use Rattle.std.proofs.Common.{◌≡◌, ℕ, zero, suc, ◌+◌, ◌<◌, ◌≤◌, List, [], ◌∷◌, ◌++◌, refl, sym, ◌∙◌, ap, inl, inr, arith, cond, eqb, ltb, length, slice_index_or}
use Rattle.std.specs.Prelude.{Option, Some, None, true, false}
use Rattle.std.proofs.Math.Path.{fun_ext}
use Rattle.std.proofs.lemmas.Bool.{cases_lt, lt-ltb, le-ltb, eq-eqb, ne_eqb}
use Rattle.eip_route.proofs.Filled.{held_numbers}
use Rattle.eip_route.specs.Nest.{Frame, NestedSteps, none, held, un_block, un_groups, un_held, un_steps, un_last, un_clauses, un_routes, step_numbers, numbers_in}
use Rattle.eip_exchange.specs.declared.setting.Clause.{Clause}
use Rattle.eip_route.specs.declared.route.Block.{Block}
use Rattle.eip_route.specs.declared.route.Route.{Route}
use Rattle.eip_route.specs.declared.route.RouteSet.{RouteSet}
use Rattle.eip_route.specs.declared.step.Step.{Step}
use Rattle.eip_route_canonical.specs.Canonical.{steps_json, step_json, groups_json, frame_json, held_json, step_with, last_json, list_of, handler_items, clause_json, clauses_json, routes_json, set_json}
use Rattle.eip_route_print.specs.Seen.{seen, seen_json, block_json, step_in, steps_in, groups_in, clause_steps, clause_in, clauses_in, route_in, routes_in}

-- ---- a block's equation: its steps see only the blocks behind it

abbrev from : ℕ → List Block → ℕ → ℕ → NestedSteps
from first bs j i = cond (ltb j i) (un_block first bs i) none

absent : (first : ℕ) (bs : List Block) (j : ℕ) → j < first → un_block first bs j ≡ none
unfolding un_block
absent first [] j h = refl
absent first (b ∷ bs) j h =
    let apart : eqb j first ≡ false = ne_eqb j first (λ (e : j ≡ first). omega arith) in
    rw apart (absent (first + 1) bs j (omega arith))

-- seen from the first of some blocks, and from a later one
from_first : (first : ℕ) (b : Block) (bs : List Block) (i : ℕ) → un_block (first + 1) bs i ≡ from first (b ∷ bs) first i
unfolding un_block
from_first first b bs i = elim (cases_lt first i) [
  | inl l ↦
      let behind : ltb first i ≡ true = lt-ltb first i l in
      let apart : eqb i first ≡ false = ne_eqb i first (λ (e : i ≡ first). omega arith) in
      rw (behind, apart) refl
  | inr l ↦
      let before : ltb first i ≡ false = le-ltb first i l in
      rw before (absent (first + 1) bs i (omega arith))
]

from_later : (first : ℕ) (b : Block) (bs : List Block) (j i : ℕ) → first < j → from (first + 1) bs j i ≡ from first (b ∷ bs) j i
unfolding un_block
from_later first b bs j i h = elim (cases_lt j i) [
  | inl l ↦
      let behind : ltb j i ≡ true = lt-ltb j i l in
      let apart : eqb i first ≡ false = ne_eqb i first (λ (e : i ≡ first). omega arith) in
      rw (behind, apart) refl
  | inr l ↦
      let before : ltb j i ≡ false = le-ltb j i l in
      rw before refl
]

there : (first : ℕ) (bs : List Block) (k j : ℕ) (d : Block) → j ≡ first + k → k < length bs → un_block first bs j ≡ un_steps (from first bs j) (slice_index_or bs k d).steps
unfolding un_block
there first [] k j d e h = absurd (omega arith)
there first (b ∷ bs) zero j d e h =
    let same : j ≡ first = omega arith in
    let here : eqb j first ≡ true = eq-eqb j first same in
    rw here (rw same (ap (λ (n : ℕ → NestedSteps). un_steps n b.steps) (fun_ext (λ i. from_first first b bs i))))
there first (b ∷ bs) (suc k) j d e h =
    let apart : eqb j first ≡ false = ne_eqb j first (λ (q : j ≡ first). omega arith) in
    rw apart (there (first + 1) bs k j d (omega arith) (omega arith)
    ∙ ap (λ (n : ℕ → NestedSteps). un_steps n (slice_index_or bs k d).steps) (fun_ext (λ i. from_later first b bs j i (omega arith))))

beyond : (first : ℕ) (bs : List Block) (j : ℕ) → first + length bs ≤ j → un_block first bs j ≡ none
unfolding un_block
beyond first [] j h = refl
beyond first (b ∷ bs) j h =
    let apart : eqb j first ≡ false = ne_eqb j first (λ (q : j ≡ first). omega arith) in
    rw apart (beyond (first + 1) bs j (omega arith))

-- ---- printed

steps_same : (bs : List Block) (j : ℕ) (ss : List Step) → steps_json (un_steps (seen bs j) ss) ≡ steps_in bs j ss
unfolding step_in
steps_same bs j [] = refl
steps_same bs j (s ∷ ss) = ap (λ js. step_in bs j s ∷ js) (steps_same bs j ss)

pub block_there : (bs : List Block) (j : ℕ) (d : Block) → j < length bs → block_json bs j ≡ steps_in bs j (slice_index_or bs j d).steps
unfolding block_json seen
block_there bs j d h = ap steps_json (there 0 bs j j d (omega arith) h) ∙ steps_same bs j (slice_index_or bs j d).steps

pub block_beyond : (bs : List Block) (j : ℕ) → length bs ≤ j → block_json bs j ≡ []
unfolding block_json
block_beyond bs j h = ap steps_json (beyond 0 bs j (omega arith))

pub seen_behind : (bs : List Block) (j i : ℕ) → j < i → seen_json bs j i ≡ block_json bs i
unfolding seen_json seen block_json
seen_behind bs j i h = ap (λ t. steps_json (cond t (un_block 0 bs i) none)) (lt-ltb j i h)

pub seen_before : (bs : List Block) (j i : ℕ) → i ≤ j → seen_json bs j i ≡ []
unfolding seen_json seen
seen_before bs j i h = ap (λ t. steps_json (cond t (un_block 0 bs i) none)) (le-ltb j i h)

-- ---- a step, by what stands in its blocks

groups_same : (bs : List Block) (j : ℕ) (ns : List ℕ) → groups_json (un_groups (seen bs j) ns) ≡ groups_in bs j ns
unfolding seen_json
groups_same bs j [] = refl
groups_same bs j (n ∷ ns) = ap (λ gs. seen_json bs j n ∷ gs) (groups_same bs j ns)

held_same : (bs : List Block) (j : ℕ) (s : Step) (o : Option (Frame × List ℕ)) → step_json (un_held (seen bs j) s o) ≡ held_json s o (groups_in bs j (numbers_in o))
held_same bs j s None = refl
held_same bs j s (Some r) = ap (frame_json r.0) (groups_same bs j r.1)

pub step_same : (bs : List Block) (j : ℕ) (s : Step) → step_with s (groups_in bs j (step_numbers s)) ≡ step_in bs j s
unfolding step_in step_with
step_same bs j s = ap (λ ns. held_json s (held s) (groups_in bs j ns)) (held_numbers s) ∙ sym (held_same bs j s (held s))

-- ---- clauses and routes

clause_same : (bs : List Block) (o : Option ℕ) → last_json (un_last (un_block 0 bs) o) ≡ clause_steps bs o
unfolding block_json
clause_same bs None = refl
clause_same bs (Some b) = refl

clauses_same : (bs : List Block) (cs : List Clause) → clauses_json (un_clauses bs cs) ≡ clauses_in bs cs
unfolding clause_in
clauses_same bs [] = refl
clauses_same bs (c ∷ cs) =
    ap (λ o. clause_json c.names c.policy c.handled c.continued o ∷ clauses_json (un_clauses bs cs)) (clause_same bs c.block)
    ∙ ap (λ js. clause_in bs c ∷ js) (clauses_same bs cs)

routes_same : (bs : List Block) (rs : List Route) → routes_json (un_routes bs rs) ≡ routes_in bs rs
unfolding route_in block_json
routes_same bs [] = refl
routes_same bs (r ∷ rs) = ap (λ js. route_in bs r ∷ js) (routes_same bs rs)

pub set_same : (s : RouteSet) → set_json s ≡ list_of (handler_items s.handler ++ clauses_in s.blocks s.clauses ++ routes_in s.blocks s.routes)
unfolding set_json
set_same s =
    ap (λ js. list_of (handler_items s.handler ++ js ++ routes_json (un_routes s.blocks s.routes))) (clauses_same s.blocks s.clauses)
    ∙ ap (λ js. list_of (handler_items s.handler ++ clauses_in s.blocks s.clauses ++ js)) (routes_same s.blocks s.routes)

-- for the code that prints blocks
pub ruleset opened = (block_there, block_beyond, seen_behind, seen_before)
