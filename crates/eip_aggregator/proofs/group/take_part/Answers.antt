use Rattle.std.proofs.Common.{ap, ◌∙◌}
use Rattle.eip_exchange.specs.declared.message.Message.{Message}
use Rattle.eip_aggregator.specs.Arrivals.{labels}
use Rattle.eip_aggregator.proofs.Growing.{takes_is}
use Rattle.eip_aggregator.proofs.group.take_part.Goals as goal

pub returns-in-Ok-clause-ok : goal.returns-in-Ok-clause-ok
returns-in-Ok-clause-ok c =
    takes_is c.args.setting.now.strategy c.args.count c.args.key.now c.args.message.now c.args.part.now c.take_in.new.message c.replace-unlabelled.new.dest
    (c.replace-unlabelled.ensures.after ∙ c.in_ok-properties.ensures ∙ ap (λ (m : Message). labels c.args.count c.args.key.now m.properties) c.kept-kept.ensures) c.in_ok-undo.ensures.ok
