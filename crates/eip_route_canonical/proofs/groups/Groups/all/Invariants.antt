use Rattle.std.proofs.Common.{◌≡◌, ◌++◌, deque_len}
use Rattle.eip_route_canonical.specs.Canonical.{all_json}
use Rattle.eip_route_canonical.specs.Trees.{values_of, groups_of}
use Rattle.eip_route_canonical.proofs.groups.Groups.all.Given as goal

abbrev pub invariant-loop-steps : goal.invariant-loop-steps
invariant-loop-steps l = values_of l.items.items ++ all_json (groups_of l.groups.items) ≡ all_json (groups_of l.fn.self.groups.items)

abbrev pub decreases-loop-steps : goal.decreases-loop-steps
decreases-loop-steps l = deque_len l.groups
