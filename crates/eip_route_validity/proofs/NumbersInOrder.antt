-- What holds of the numbers in steps and of the blocks nested in them, where it holds step behind step and block in block: an induction over
-- steps that fit, to be used for each such fact.
use Rattle.std.proofs.Common.{ℕ, ◌+◌, ◌<◌, List, [], ◌∷◌, ◌++◌, length, ◌≡◌, sym, subst, All, arith}
use Rattle.std.proofs.lemmas.List.Elements.{All-head, All-tail}
use Rattle.eip_route.proofs.Filled.{leaf_numbers}
use Rattle.eip_route.specs.Faults.{steps_numbers, clauses_numbers, routes_numbers, outer_numbers}
use Rattle.eip_route.specs.Nest.{NestedStep, NestedSteps, NestedGroups, NestedLast, NestedClause, NestedRoute, NestedSet, leaf, holds, none, more, no_group, group, no_last, last, FlatSteps, headed, number_of, flat_steps, flat_step, flat_groups, flat_last, flat_block, flat_clauses, flat_routes, flat_set, last_number, step_numbers}
use Rattle.eip_route.specs.declared.route.Block.{Block}
use Rattle.eip_route.specs.declared.route.Names.{Names}
use Rattle.eip_route.specs.declared.step.Step.{Step}
use Rattle.eip_route_validity.proofs.Frames.{frame_numbers}
use Rattle.eip_route_validity.proofs.GoodSteps.{bare_leaf}
use Rattle.eip_route_validity.specs.Fit.{StepsFit, StepFits, GroupsFit, LastFits, BlockFits, ClauseFits, RouteFits, SetFits}

-- P d k ns bs: of the numbers ns and the blocks bs, of which the first has the number k, inside d blocks
pub record Closed (P : ℕ → ℕ → List ℕ → List Block → Type 0) : Type 0 where
  pub nothing : (d k : ℕ) → P d k [] []
  pub behind : (d k : ℕ) (ms ns : List ℕ) (xs ys : List Block) → P d k ms xs → P d (k + length xs) ns ys → P d k (ms ++ ns) (xs ++ ys)
  pub block : (d k : ℕ) (ss : List Step) (bs : List Block) → d < 16 → P (d + 1) (k + 1) (steps_numbers ss) bs → P d k (k ∷ []) (record { steps = ss } ∷ bs)

zero_sum : (k : ℕ) → k ≡ 0 + k
zero_sum k = omega arith

module _ (P : ℕ → ℕ → List ℕ → List Block → Type 0) (c : Closed P) (n : Names) where
  in_block : (d k : ℕ) (r : FlatSteps) → d < 16 → P (d + 1) (k + 1) (steps_numbers r.steps) r.blocks → P d k (k ∷ []) (headed r)
  in_block d k r l h = c.block d k r.steps r.blocks l h

  -- ---- steps

  mutual
    in_steps : (d k : ℕ) (ss : NestedSteps) → StepsFit n d ss → P d k (steps_numbers (flat_steps k ss).steps) (flat_steps k ss).blocks
    in_steps d k none h = c.nothing d k
    in_steps d k (more s ss) h =
        let after = k + length (flat_step k s).blocks in
        c.behind d k (step_numbers (flat_step k s).step) (steps_numbers (flat_steps after ss).steps) (flat_step k s).blocks (flat_steps after ss).blocks (in_step d k s h.0) (in_steps d after ss h.1)

    in_step : (d k : ℕ) (s : NestedStep) → StepFits n d s → P d k (step_numbers (flat_step k s).step) (flat_step k s).blocks
    in_step d k (leaf s) h = subst (λ ns. P d k ns []) (sym (leaf_numbers s (bare_leaf n s h))) (c.nothing d k)
    in_step d k (holds f gs) h = subst (λ ns. P d k ns (flat_groups k gs).blocks) (sym (frame_numbers n k f gs h.0)) (in_groups d k gs h.1)

    in_groups : (d k : ℕ) (gs : NestedGroups) → GroupsFit n d gs → P d k (flat_groups k gs).numbers (flat_groups k gs).blocks
    in_groups d k no_group h = c.nothing d k
    in_groups d k (group ss gs) h =
        let first = flat_block k ss in
        let after = k + length first in
        c.behind d k (k ∷ []) (flat_groups after gs).numbers first (flat_groups after gs).blocks (in_block d k (flat_steps (k + 1) ss) h.0.0 (in_steps (d + 1) (k + 1) ss h.0.1)) (in_groups d after gs h.1)

  in_last : (d k : ℕ) (l : NestedLast) → LastFits n d l → P d k (last_number (number_of k (flat_last k l))) (flat_last k l)
  in_last d k no_last h = c.nothing d k
  in_last d k (last ss) h = in_block d k (flat_steps (k + 1) ss) h.0 (in_steps (d + 1) (k + 1) ss h.1)

  -- ---- the set

  in_clauses : (k : ℕ) (cs : List NestedClause) → All (ClauseFits n) cs → P 0 k (clauses_numbers (flat_clauses k cs).clauses) (flat_clauses k cs).blocks
  in_clauses k [] h = c.nothing 0 k
  in_clauses k (x ∷ xs) h =
      let first = flat_last k x.steps in
      let after = k + length first in
      c.behind 0 k (last_number (number_of k first)) (clauses_numbers (flat_clauses after xs).clauses) first (flat_clauses after xs).blocks (in_last 0 k x.steps (All-head (ClauseFits n) x xs h).steps) (in_clauses after xs (All-tail (ClauseFits n) x xs h))

  in_routes : (k : ℕ) (rs : List NestedRoute) → All (RouteFits n) rs → P 0 k (routes_numbers (flat_routes k rs).routes) (flat_routes k rs).blocks
  in_routes k [] h = c.nothing 0 k
  in_routes k (x ∷ xs) h =
      let fits : BlockFits n 0 x.steps = (All-head (RouteFits n) x xs h).steps in
      let first = flat_block k x.steps in
      let after = k + length first in
      c.behind 0 k (k ∷ []) (routes_numbers (flat_routes after xs).routes) first (flat_routes after xs).blocks (in_block 0 k (flat_steps (k + 1) x.steps) fits.0 (in_steps 1 (k + 1) x.steps fits.1)) (in_routes after xs (All-tail (RouteFits n) x xs h))

  pub in_set : (x : NestedSet) → SetFits n x → P 0 0 (outer_numbers (flat_set n x)) (flat_set n x).blocks
  in_set x h =
      let cs = flat_clauses 0 x.clauses in
      let rs = flat_routes (length cs.blocks) x.routes in
      c.behind 0 0 (clauses_numbers cs.clauses) (routes_numbers rs.routes) cs.blocks rs.blocks (in_clauses 0 x.clauses h.clauses) (subst (λ k. P 0 k (routes_numbers rs.routes) rs.blocks) (zero_sum (length cs.blocks)) (in_routes (length cs.blocks) x.routes h.routes))
