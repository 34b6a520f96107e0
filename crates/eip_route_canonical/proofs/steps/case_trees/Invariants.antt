use Rattle.std.proofs.Common.{◌≡◌, ◌++◌, drop}
use Rattle.eip_route.specs.Nest.{checks_of, past}
use Rattle.eip_route_canonical.specs.Canonical.{cases_json}
use Rattle.eip_route_canonical.specs.Trees.{values_of, left}
use Rattle.eip_route_canonical.proofs.steps.case_trees.Given as goal

abbrev pub invariant-loop-check : goal.invariant-loop-check
invariant-loop-check l = record {
  so_far : values_of l.items.items ++ cases_json (checks_of (drop l.check-index l.cases)) (left l.groups) ≡ cases_json (checks_of l.cases) (left l.fn.groups);
  rest : past (checks_of (drop l.check-index l.cases)) (left l.groups) ≡ past (checks_of l.cases) (left l.fn.groups);
}
