use Rattle.std.proofs.Common.{arith, ap, ◌∙◌}
use Rattle.eip_route_canonical.proofs.Loops.{none_taken}
use Rattle.eip_route_canonical.proofs.Objects.{list_tree}
use Rattle.eip_route_canonical.specs.Canonical.{list_of}
use Rattle.eip_route_canonical.specs.Trees.{values_of}
use Rattle.eip_route_canonical.proofs.groups.Groups.all.Goals as goal

pub returns : goal.returns
returns c =
    list_tree c.of.result ∙ (ap (λ ts. list_of (values_of ts)) c.of.ensures
    ∙ ap list_of (none_taken c.loop-steps.items.items c.loop-steps.groups.items _ c.loop-steps.invariant (omega (arith, c.in_default.ensures.cases))))
