use Rattle.std.proofs.Common.{ap, sym, ◌∙◌}
use Rattle.std.specs.Option.{option_map}
use Rattle.eip_keyed.specs.Keyed.{found}
use Rattle.eip_processor.proofs.Registering.{not-missing}
use Rattle.eip_processor.proofs.registered.RegistryRegistered.process.Goals as goal

pub unreachable-requires : goal.unreachable-requires
unreachable-requires g c =
    not-missing c.args.name.now c.args.self.now.processors.items c.requires.there
    (ap (found c.args.name.now) (sym c.as_slice.ensures.value) ∙ (sym c.value_of.ensures ∙ ap (option_map (λ p. p.now)) c.in_default.is))
