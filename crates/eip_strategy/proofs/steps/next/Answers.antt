use Rattle.std.proofs.Common.{sym, subst}
use Rattle.eip_exchange.specs.declared.message.Message.{Message}
use Rattle.eip_strategy.specs.Answers.{Answer, Says}
use Rattle.eip_strategy.specs.Growing.{grown}
use Rattle.eip_strategy.proofs.InPlace.{taken_old}
use Rattle.eip_strategy.proofs.steps.next.Goals as goal

pub returns-in_default : goal.returns-in_default
returns-in_default c =
    subst (λ (w : Answer Message). Says grown c.grown.result w) (sym (taken_old c.args.strategy.now (grown c.args.so_far) c.args.new.now c.in_default.not-Latest)) c.grown.ensures
