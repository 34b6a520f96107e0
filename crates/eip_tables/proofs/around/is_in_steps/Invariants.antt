use Rattle.std.proofs.Common.{◌≡◌, eqb, drop}
use Rattle.std.specs.List.{list_any}
use Rattle.eip_route.specs.Faults.{steps_numbers}
use Rattle.eip_tables.proofs.around.is_in_steps.Given as goal

abbrev pub invariant-loop-step : goal.invariant-loop-step
invariant-loop-step l = list_any (λ i. eqb i l.number) (steps_numbers l.steps) ≡ list_any (λ i. eqb i l.number) (steps_numbers (drop l.step-index l.steps))
