use Rattle.std.proofs.Common.{ap, sym, ◌∙◌}
use Rattle.std.specs.Option.{option_map}
use Rattle.eip_keyed.specs.Keyed.{found}
use Rattle.eip_processor.proofs.Registering.{not-missing, of-the}
use Rattle.eip_processor.proofs.registered.RegistryRegistered.test.Goals as goal

pub unreachable-requires : goal.unreachable-requires
unreachable-requires g c =
    not-missing c.args.name.now c.args.self.now.predicates.items c.requires.there
    (ap (found c.args.name.now) (sym c.as_slice.ensures.value) ∙ (sym c.value_of.ensures ∙ ap (option_map (λ p. p.now)) c.in_default.is))

pub returns : goal.returns
returns g c =
    record {
      related =
          of-the (found c.args.name.now c.args.self.now.predicates.items) c.in-Some.predicate.now _
          (ap (found c.args.name.now) (sym c.as_slice.ensures.value) ∙ (sym c.value_of.ensures ∙ ap (option_map (λ p. p.now)) c.in-Some.is))
          c.passes.ensures;
    }
