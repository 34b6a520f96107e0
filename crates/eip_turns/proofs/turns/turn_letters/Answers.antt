use Rattle.std.proofs.Common.{arith, ◌∙◌, ap}
use Rattle.eip_meaning.specs.Outcomes.{Outcome, followed}
use Rattle.eip_progress.specs.declared.frame.Frame.TheVariants.{Letter}
use Rattle.eip_progress.specs.Rest.{behind_all, frame_mean}
use Rattle.eip_turns.proofs.Falling.{stack_push}
use Rattle.eip_turns.proofs.Turning.{behind_push_at}
use Rattle.eip_turns.proofs.turns.turn_letters.Goals as goal

pub returns-clause-means : goal.returns-clause-means
returns-clause-means c = λ whole A.
    behind_push_at c.args.set.now c.args.stack.now.items c.push.new.self.items Letter _ c.in_ok-push.ensures.items
    ∙ ap (λ (o : Outcome). behind_all c.args.set.now c.args.stack.now.items (followed o (λ m A'. frame_mean c.args.set.now Letter m A'))) (c.in_ok-course.ensures.means whole A)

pub returns-clause-falls : goal.returns-clause-falls
returns-clause-falls c = omega (arith, c.in_ok-course.ensures.falls, stack_push c.args.set.now c.args.stack.now.items c.push.new.self.items Letter c.in_ok-push.ensures.items)
