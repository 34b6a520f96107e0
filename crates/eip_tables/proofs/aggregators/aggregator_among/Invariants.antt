use Rattle.std.proofs.Common.{◌≡◌, drop}
use Rattle.eip_plan.specs.Plan.{aggregator_among}
use Rattle.eip_tables.proofs.aggregators.aggregator_among.Given as goal

abbrev pub invariant-loop-found_in : goal.invariant-loop-found_in
invariant-loop-found_in l = aggregator_among l.block l.blocks ≡ aggregator_among l.block (drop l.found_in-index l.blocks)
