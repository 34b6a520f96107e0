use Rattle.std.proofs.Common.{arith, ap, ◌∙◌}
use Rattle.std.proofs.lemmas.Grind.{common_steps}
use Rattle.eip_route_canonical.proofs.Loops.{all_catches, catch_pushed, catch_passed}
use Rattle.eip_route_canonical.proofs.Objects.{list_tree}
use Rattle.eip_route_canonical.specs.Canonical.{list_of}
use Rattle.eip_route_canonical.specs.Trees.{values_of, left}
use Rattle.eip_route_canonical.proofs.steps.catch_trees.Goals as goal

pub loop-catch-preserved : goal.loop-catch-preserved
loop-catch-preserved c = record {
  so_far = catch_pushed c.args.catches.now c.loop-catch.catch-index _ _ _ _ c.catch-item.result (left c.loop-catch.groups) _ _ c.loop-catch.invariant.so_far (grind (arith, common_steps)) c.in_ok-push.ensures.items c.in_ok-tree.ensures
      c.next_list-steps.ensures.steps c.next_list-steps.ensures.rest;
  rest = catch_passed c.args.catches.now c.loop-catch.catch-index c.catch-item.result (left c.loop-catch.groups) _ _ c.loop-catch.invariant.rest (grind (arith, common_steps)) c.next_list-steps.ensures.rest;
}

pub returns-clause-trees : goal.returns-clause-trees
returns-clause-trees c =
    list_tree c.of.result ∙ (ap (λ ts. list_of (values_of ts)) c.of.ensures
    ∙ ap list_of (all_catches c.args.catches.now c.loop-catch.catch-index c.loop-catch.items.items (left c.loop-catch.groups) _ c.loop-catch.invariant.so_far c.loop-catch-test.false))
