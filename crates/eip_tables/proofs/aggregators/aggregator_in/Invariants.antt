use Rattle.std.proofs.Common.{◌≡◌, drop}
use Rattle.eip_plan.specs.Plan.{aggregator_in}
use Rattle.eip_tables.proofs.aggregators.aggregator_in.Given as goal

abbrev pub invariant-loop-step : goal.invariant-loop-step
invariant-loop-step l = aggregator_in l.block l.steps ≡ aggregator_in l.block (drop l.step-index l.steps)
