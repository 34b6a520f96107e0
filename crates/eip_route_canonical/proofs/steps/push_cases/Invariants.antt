use Rattle.std.proofs.Common.{◌≡◌, ◌++◌, drop}
use Rattle.eip_route.specs.Nest.{case_numbers}
use Rattle.eip_route_canonical.proofs.steps.push_cases.Given as goal

abbrev pub invariant-loop-block : goal.invariant-loop-block
invariant-loop-block l = l.numbers.items ++ case_numbers (drop l.block-index l.cases) ≡ l.fn.numbers.items ++ case_numbers l.cases
