use Rattle.std.proofs.Common.{◌≡◌, ◌++◌, drop}
use Rattle.eip_route.specs.Nest.{catchings_of, past}
use Rattle.eip_route_canonical.specs.Canonical.{catches_json}
use Rattle.eip_route_canonical.specs.Trees.{values_of, left}
use Rattle.eip_route_canonical.proofs.steps.catch_trees.Given as goal

abbrev pub invariant-loop-catch : goal.invariant-loop-catch
invariant-loop-catch l = record {
  so_far : values_of l.items.items ++ catches_json (catchings_of (drop l.catch-index l.catches)) (left l.groups) ≡ catches_json (catchings_of l.catches) (left l.fn.groups);
  rest : past (catchings_of (drop l.catch-index l.catches)) (left l.groups) ≡ past (catchings_of l.catches) (left l.fn.groups);
}
