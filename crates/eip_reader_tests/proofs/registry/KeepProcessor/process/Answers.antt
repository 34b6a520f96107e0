use Rattle.std.proofs.Common.{IsTrue, refl, sym, subst}
use Rattle.eip_text.specs.Names.{is_name}
use Rattle.eip_exchange.specs.declared.end.Fault.{Fault}
use Rattle.eip_reader_tests.proofs.registry.KeepProcessor.process.Goals as goal

pub returns-in-Ok-clause-named : goal.returns-in-Ok-clause-named
unfolding is_name
returns-in-Ok-clause-named c = subst (λ (f : Fault). IsTrue (is_name f.kind)) (sym c.in-Ok.ensures) refl
