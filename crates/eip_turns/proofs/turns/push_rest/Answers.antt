use Rattle.std.proofs.Common.{arith, ap}
use Rattle.eip_progress.specs.declared.frame.Frame.TheVariants.{Rest}
use Rattle.eip_progress.specs.Rest.{behind_all}
use Rattle.eip_turns.proofs.Falling.{stack_push}
use Rattle.eip_turns.proofs.Turning.{rest_over, behind_push_at}
use Rattle.eip_turns.proofs.turns.push_rest.Goals as goal

pub returns-in_ok-push-in-Some-clause-means : goal.returns-in_ok-push-in-Some-clause-means
returns-in_ok-push-in-Some-clause-means c = λ o.
    behind_push_at c.args.set.now c.args.stack.now.items _ (Rest c.args.context c.args.block c.args.index) o c.in_ok-push-in-Some.ensures.items

pub returns-in_ok-push-in-Some-clause-falls : goal.returns-in_ok-push-in-Some-clause-falls
returns-in_ok-push-in-Some-clause-falls c =
    omega (arith, stack_push c.args.set.now c.args.stack.now.items c.push.new.self.items (Rest c.args.context c.args.block c.args.index) c.in_ok-push-in-Some.ensures.items)

pub returns-in-None-clause-means : goal.returns-in-None-clause-means
returns-in-None-clause-means c = λ o. ap (behind_all c.args.set.now c.args.stack.now.items) (rest_over c.args.set.now c.args.context c.args.block c.args.index o c.in-None.ensures)
