use Rattle.std.proofs.Common.{◌≡◌, ℕ, ◌+◌, ◌*◌, drop}
use Rattle.eip_route.specs.Faults.{first_some, found, steps_numbers}
use Rattle.eip_route.specs.Nest.{case_numbers, catch_numbers}
use Rattle.eip_route.specs.declared.nesting.Wanted.{Wanted}
use Rattle.eip_route.specs.declared.nesting.Wanted.TheVariants.{Bad, Deep}
use Rattle.eip_route.proofs.nesting.+find.Given as goal

abbrev left_to : Wanted → ℕ
left_to (Bad least) = 0
left_to (Deep left) = left

abbrev pub decreases-find : goal.decreases-find
decreases-find l = left_to l.wanted * 8

abbrev pub decreases-find_in_branches : goal.decreases-find_in_branches
decreases-find_in_branches l = left_to l.wanted * 8 + 1

abbrev pub decreases-find_in_cases : goal.decreases-find_in_cases
decreases-find_in_cases l = left_to l.wanted * 8 + 1

abbrev pub decreases-find_in_catches : goal.decreases-find_in_catches
decreases-find_in_catches l = left_to l.wanted * 8 + 1

abbrev pub decreases-find_in_last : goal.decreases-find_in_last
decreases-find_in_last l = left_to l.wanted * 8 + 1

abbrev pub decreases-find_in_try : goal.decreases-find_in_try
decreases-find_in_try l = left_to l.wanted * 8 + 2

abbrev pub decreases-find_in_step : goal.decreases-find_in_step
decreases-find_in_step l = left_to l.wanted * 8 + 3

abbrev pub decreases-find_in_steps : goal.decreases-find_in_steps
decreases-find_in_steps l = left_to l.wanted * 8 + 4

abbrev pub invariant-find_in_branches-loop-block : goal.invariant-find_in_branches-loop-block
invariant-find_in_branches-loop-block l = first_some (found l.blocks l.wanted) l.branches ≡ first_some (found l.blocks l.wanted) (drop l.block-index l.branches)

abbrev pub invariant-find_in_cases-loop-block : goal.invariant-find_in_cases-loop-block
invariant-find_in_cases-loop-block l = first_some (found l.blocks l.wanted) (case_numbers l.cases) ≡ first_some (found l.blocks l.wanted) (case_numbers (drop l.block-index l.cases))

abbrev pub invariant-find_in_catches-loop-catch : goal.invariant-find_in_catches-loop-catch
invariant-find_in_catches-loop-catch l = first_some (found l.blocks l.wanted) (catch_numbers l.catches) ≡ first_some (found l.blocks l.wanted) (catch_numbers (drop l.catch-index l.catches))

abbrev pub invariant-find_in_steps-loop-step : goal.invariant-find_in_steps-loop-step
invariant-find_in_steps-loop-step l = first_some (found l.blocks l.wanted) (steps_numbers l.steps) ≡ first_some (found l.blocks l.wanted) (steps_numbers (drop l.step-index l.steps))
