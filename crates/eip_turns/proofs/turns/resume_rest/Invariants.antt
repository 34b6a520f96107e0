use Rattle.std.proofs.Common.{◌≡◌, ◌≤◌, List}
use Rattle.eip_frames.specs.declared.answer.Answer.{Answer as Reply}
use Rattle.eip_progress.specs.declared.frame.Frame.TheVariants.{Rest}
use Rattle.eip_progress.specs.Rest.{rest_of_block}
use Rattle.eip_turns.specs.Falls.{frame_weight}
use Rattle.eip_turns.proofs.turns.resume_rest.Given as goal

abbrev pub invariant-loop-next : goal.invariant-loop-next
invariant-loop-next l = record {
  stack : l.stack.items ≡ l.initial.stack.items;
  means : (A : List Reply) → rest_of_block l.set l.context l.block l.index l.message A ≡ rest_of_block l.set l.context l.block l.initial.index l.initial.message A;
  falls : frame_weight l.set (Rest l.context l.block l.index) ≤ frame_weight l.set (Rest l.context l.block l.initial.index);
}

abbrev pub decreases-loop-next : goal.decreases-loop-next
decreases-loop-next l = frame_weight l.set (Rest l.context l.block l.index)
