use Rattle.std.proofs.Common.{◌≡◌, Ok, rules}
use Rattle.eip_strategy.specs.Adding.{added}
use Rattle.eip_strategy.proofs.Says.{ready_after}
use Rattle.eip_strategy.proofs.adding.add.Goals as goal

pub returns-clause-ready : goal.returns-clause-ready
returns-clause-ready c =
    let says : added c.args.strategy.now c.args.old c.args.new.now ≡ Ok c.into_message.result = search rules in
    ready_after c.args.strategy.now c.args.old c.args.new.now c.into_message.result says
