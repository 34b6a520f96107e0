use Rattle.std.proofs.Common.{ap, ◌∙◌}
use Rattle.eip_exchange.specs.Headers.{same_name, get_header}
use Rattle.eip_exchange.specs.Places.{value_at}
use Rattle.eip_exchange.proofs.Places.{value_at-place}
use Rattle.eip_exchange.proofs.headers.Headers.get.Goals as goal

pub returns : goal.returns
returns c =
    c.value.ensures ∙ ap (λ o. value_at o c.self.inside.pairs) c.find.ensures.place ∙ value_at-place same_name c.args.name.now c.self.inside.pairs
    ∙ ap (get_header c.args.name.now) c.self.view_is
