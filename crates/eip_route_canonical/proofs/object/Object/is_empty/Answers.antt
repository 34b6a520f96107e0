use Rattle.std.proofs.Common.{◌∙◌, rules}
use Rattle.eip_route_canonical.proofs.Objects.{none_made}
use Rattle.eip_route_canonical.proofs.object.Object.is_empty.Goals as goal

pub returns : goal.returns
returns c = c.is_empty.ensures ∙ none_made c.args.self.now.members.items _ (search rules)
