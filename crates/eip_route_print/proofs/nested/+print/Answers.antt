use Rattle.std.proofs.Common.{arith, refl}
use Rattle.std.proofs.lemmas.Grind.{common_steps}
use Rattle.eip_route_canonical.proofs.Loops.{pushed, none_pushed}
use Rattle.eip_route_print.proofs.Opened.{block_beyond}
use Rattle.eip_route_print.specs.Seen.{step_in, steps_in}
use Rattle.eip_route_print.proofs.nested.+print.Goals as goal

pub push_block-returns-else-number-blocks : goal.push_block-returns-else-number-blocks
push_block-returns-else-number-blocks t c =
    none_pushed c.args.items.now.items _ (block_beyond c.args.blocks.now c.args.block c.if-number-blocks.false)

pub push_steps-loop-step-preserved : goal.push_steps-loop-step-preserved
push_steps-loop-step-preserved t c =
    pushed (steps_in c.args.blocks.now c.args.block) (step_in c.args.blocks.now c.args.block) c.args.steps.now c.loop-step.step-index _ _ _ c.step-item.result _
    (λ y ys. refl) c.loop-step.invariant (grind (arith, common_steps)) c.in_ok-push.ensures.items c.in_ok-tree.ensures
