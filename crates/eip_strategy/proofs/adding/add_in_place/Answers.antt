use Rattle.eip_exchange.specs.declared.message.Message.{Message}
use Rattle.std.proofs.Common.{Some, sym, subst}
use Rattle.eip_strategy.specs.Answers.{Answer, Says}
use Rattle.eip_strategy.proofs.InPlace.{added_old, added_batch, added_latest, added_sum, says_ready}
use Rattle.eip_strategy.proofs.adding.add_in_place.Goals as goal

pub returns-in-Latest-clause-says : goal.returns-in-Latest-clause-says
returns-in-Latest-clause-says c =
    subst (λ (w : Answer Message). Says (λ _. c.become_latest.new.so_far) c.become_latest.result w) (sym (added_latest c.args.strategy.now c.args.so_far.now c.args.new.now c.in-Latest.is)) c.become_latest.ensures.says

pub returns-in-Latest-clause-ready : goal.returns-in-Latest-clause-ready
returns-in-Latest-clause-ready c =
    says_ready c.args.strategy.now c.args.so_far.now c.args.new.now c.become_latest.new.so_far c.become_latest.result
    (subst (λ (w : Answer Message). Says (λ _. c.become_latest.new.so_far) c.become_latest.result w) (sym (added_latest c.args.strategy.now c.args.so_far.now c.args.new.now c.in-Latest.is)) c.become_latest.ensures.says)

pub returns-in_default-clause-says : goal.returns-in_default-clause-says
returns-in_default-clause-says c =
    subst (λ (w : Answer Message). Says (λ _. c.grow_body.new.so_far) c.grow_body.result w) (sym (added_old c.args.strategy.now c.args.so_far.now c.args.new.now c.in_default.not-Batch c.in_default.not-Latest)) c.grow_body.ensures.says

pub returns-in_default-clause-ready : goal.returns-in_default-clause-ready
returns-in_default-clause-ready c =
    says_ready c.args.strategy.now c.args.so_far.now c.args.new.now c.grow_body.new.so_far c.grow_body.result
    (subst (λ (w : Answer Message). Says (λ _. c.grow_body.new.so_far) c.grow_body.result w) (sym (added_old c.args.strategy.now c.args.so_far.now c.args.new.now c.in_default.not-Batch c.in_default.not-Latest)) c.grow_body.ensures.says)

pub returns-in-Batch-clause-says : goal.returns-in-Batch-clause-says
returns-in-Batch-clause-says c =
    subst (λ (w : Answer Message). Says (λ _. c.pack_in_place.new.so_far) c.pack_in_place.result w) (sym (added_batch c.args.strategy.now (Some c.args.so_far.now) c.args.new.now c.in-Batch.is)) c.pack_in_place.ensures.says

pub returns-in-Batch-clause-ready : goal.returns-in-Batch-clause-ready
returns-in-Batch-clause-ready c =
    says_ready c.args.strategy.now c.args.so_far.now c.args.new.now c.pack_in_place.new.so_far c.pack_in_place.result
    (subst (λ (w : Answer Message). Says (λ _. c.pack_in_place.new.so_far) c.pack_in_place.result w) (sym (added_batch c.args.strategy.now (Some c.args.so_far.now) c.args.new.now c.in-Batch.is)) c.pack_in_place.ensures.says)

pub returns-in-Sum-clause-says : goal.returns-in-Sum-clause-says
returns-in-Sum-clause-says c =
    subst (λ (w : Answer Message). Says (λ _. c.become_sum.new.so_far) c.become_sum.result w) (sym (added_sum c.args.strategy.now c.args.so_far.now c.args.new.now c.in-Sum.is)) c.become_sum.ensures.says

pub returns-in-Sum-clause-ready : goal.returns-in-Sum-clause-ready
returns-in-Sum-clause-ready c =
    says_ready c.args.strategy.now c.args.so_far.now c.args.new.now c.become_sum.new.so_far c.become_sum.result
    (subst (λ (w : Answer Message). Says (λ _. c.become_sum.new.so_far) c.become_sum.result w) (sym (added_sum c.args.strategy.now c.args.so_far.now c.args.new.now c.in-Sum.is)) c.become_sum.ensures.says)
