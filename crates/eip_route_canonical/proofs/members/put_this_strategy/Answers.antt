use Rattle.std.proofs.Common.{◌++◌, ◌∙◌, ap}
use Rattle.std.specs.Prelude.{codes}
use Rattle.eip_text.specs.Json.{word}
use Rattle.eip_route_canonical.specs.Canonical.{one}
use Rattle.eip_route_canonical.specs.Trees.{made}
use Rattle.eip_route_canonical.proofs.members.put_this_strategy.Goals as goal

pub returns : goal.returns
returns c = c.in_ok-put_text.ensures ∙ ap (λ t. made c.args.object.now ++ one (codes "aggregationStrategy") (word t)) c.in_ok-text.ensures
