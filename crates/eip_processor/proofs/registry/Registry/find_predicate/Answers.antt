use Rattle.std.proofs.Common.{ap, ◌∙◌}
use Rattle.eip_keyed.specs.Keyed.{found}
use Rattle.eip_processor.proofs.registry.Registry.find_predicate.Goals as goal

pub returns : goal.returns
returns g c = c.value_of.ensures ∙ ap (found c.args.name.now) c.as_slice.ensures.value
