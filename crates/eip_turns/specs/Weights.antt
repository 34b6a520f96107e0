-- How many turns a block can take before it asks, at most: a measure for the cursor.
use Rattle.std.specs.Prelude.{ℕ, suc, ◌+◌, cond, eqb, ltb, List, [], ◌∷◌, Option, Some, None}
use Rattle.eip_route.specs.declared.step.Check.{Check}
use Rattle.eip_route.specs.declared.step.Step.{Step}
use Rattle.eip_route.specs.declared.step.Step.TheVariants as step
use Rattle.eip_route.specs.declared.route.Block.{Block}
use Rattle.eip_route.specs.declared.route.RouteSet.{RouteSet}

abbrev pub weight_of_option : (ℕ → ℕ) → Option ℕ → ℕ
weight_of_option n None = 0
weight_of_option n (Some j) = n j

abbrev pub weight_of_cases : (ℕ → ℕ) → List (Check × ℕ) → ℕ
weight_of_cases n [] = 0
weight_of_cases n (x ∷ xs) = n x.1 + weight_of_cases n xs

-- the blocks that a step may run itself; parts are exchanges of their own
abbrev pub nested_weight : (ℕ → ℕ) → Step → ℕ
nested_weight n (step.Choice cases otherwise) = weight_of_cases n cases + weight_of_option n otherwise
nested_weight n (step.Filter check j) = n j
nested_weight n (step.Idempotent key repository skip eager remove j) = n j
nested_weight n _ = 0

-- a step, with h for the handling of its faults
abbrev pub step_weight : (h : ℕ) → (ℕ → ℕ) → Step → ℕ
step_weight h n s = 2 + h + nested_weight n s

abbrev pub steps_weight : (h : ℕ) → (ℕ → ℕ) → List Step → ℕ
steps_weight h n [] = 1
steps_weight h n (s ∷ ss) = step_weight h n s + steps_weight h n ss

unfoldable pub blocks_weight : (h here : ℕ) → List Block → ℕ → ℕ
blocks_weight h here [] j = 1
blocks_weight h here (b ∷ bs) j =
    cond (eqb j here) (steps_weight h (λ i. blocks_weight h (suc here) bs i) b.steps) (blocks_weight h (suc here) bs j)

abbrev pub block_weight : RouteSet → (h : ℕ) → ℕ → ℕ
block_weight set h b = blocks_weight h 0 set.blocks b

-- of the blocks that block b may run
abbrev pub nested_block : RouteSet → (h : ℕ) → ℕ → ℕ → ℕ
nested_block set h b j = cond (ltb b j) (block_weight set h j) 1
