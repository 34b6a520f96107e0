use Rattle.std.proofs.Common.{arith, ◌∙◌, refl}
use Rattle.eip_progress.specs.declared.frame.Frame.TheVariants.{Rest}
use Rattle.eip_turns.proofs.Falling.{stack_push, block_frame}
use Rattle.eip_turns.proofs.Turning.{behind_push_at}
use Rattle.eip_turns.proofs.turns.turn_handles.Goals as goal

pub returns-in_ok-push_block-in-Some-clause-means : goal.returns-in_ok-push_block-in-Some-clause-means
returns-in_ok-push_block-in-Some-clause-means c = λ set m A.
    behind_push_at set c.push.new.self.items c.push_block.new.stack.items (Rest c.args.context c.in-Some.block 0) _ c.in_ok-push_block-in-Some.ensures
    ∙ (behind_push_at set c.args.stack.now.items c.push.new.self.items c.args.frame _ c.in_ok-push.ensures.items
    ∙ rw c.in-Some.is refl)

pub returns-in_ok-push_block-in-Some-clause-falls : goal.returns-in_ok-push_block-in-Some-clause-falls
returns-in_ok-push_block-in-Some-clause-falls c = λ set.
    rw c.in-Some.is (omega (
      arith,
      block_frame set c.args.context c.in-Some.block,
      stack_push set c.push.new.self.items c.push_block.new.stack.items (Rest c.args.context c.in-Some.block 0) c.in_ok-push_block-in-Some.ensures,
      stack_push set c.args.stack.now.items c.push.new.self.items c.args.frame c.in_ok-push.ensures.items,
    ))

pub returns-in-None-clause-means : goal.returns-in-None-clause-means
returns-in-None-clause-means c = λ set m A.
    behind_push_at set c.args.stack.now.items c.push.new.self.items c.args.frame _ c.in_ok-push.ensures.items ∙ rw c.in-None.is refl

pub returns-in-None-clause-falls : goal.returns-in-None-clause-falls
returns-in-None-clause-falls c = λ set. omega (arith, stack_push set c.args.stack.now.items c.push.new.self.items c.args.frame c.in_ok-push.ensures.items)
