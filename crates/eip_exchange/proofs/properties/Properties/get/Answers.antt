use Rattle.std.proofs.Common.{ap, ◌∙◌}
use Rattle.std.specs.Prelude.{bytes_eq}
use Rattle.eip_exchange.specs.Pairs.{get_property}
use Rattle.eip_exchange.specs.Places.{value_at}
use Rattle.eip_exchange.proofs.Places.{value_at-place}
use Rattle.eip_exchange.proofs.properties.Properties.get.Goals as goal

pub returns : goal.returns
returns c =
    c.value.ensures ∙ ap (λ o. value_at o c.self.inside.pairs) c.find.ensures.place ∙ value_at-place bytes_eq c.args.name.now c.self.inside.pairs
    ∙ ap (get_property c.args.name.now) c.self.view_is
