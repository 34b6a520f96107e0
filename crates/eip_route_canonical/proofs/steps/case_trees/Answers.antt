use Rattle.std.proofs.Common.{arith, ap, ◌∙◌}
use Rattle.std.proofs.lemmas.Grind.{common_steps}
use Rattle.eip_route_canonical.proofs.Loops.{all_cases, case_pushed, case_passed}
use Rattle.eip_route_canonical.proofs.Objects.{list_tree}
use Rattle.eip_route_canonical.specs.Canonical.{list_of}
use Rattle.eip_route_canonical.specs.Trees.{values_of, left}
use Rattle.eip_route_canonical.proofs.steps.case_trees.Goals as goal

pub loop-check-preserved : goal.loop-check-preserved
loop-check-preserved c = record {
  so_far = case_pushed c.args.cases.now c.loop-check.check-index _ _ _ _ c.loop-check-item.result (left c.loop-check.groups) _ _ c.loop-check.invariant.so_far (grind (arith, common_steps)) c.in_ok-push.ensures.items c.in_ok-tree.ensures
      c.next_list-steps.ensures.steps c.next_list-steps.ensures.rest;
  rest = case_passed c.args.cases.now c.loop-check.check-index c.loop-check-item.result (left c.loop-check.groups) _ _ c.loop-check.invariant.rest (grind (arith, common_steps)) c.next_list-steps.ensures.rest;
}

pub returns-clause-trees : goal.returns-clause-trees
returns-clause-trees c =
    list_tree c.of.result ∙ (ap (λ ts. list_of (values_of ts)) c.of.ensures
    ∙ ap list_of (all_cases c.args.cases.now c.loop-check.check-index c.loop-check.items.items (left c.loop-check.groups) _ c.loop-check.invariant.so_far c.loop-check-test.false))
