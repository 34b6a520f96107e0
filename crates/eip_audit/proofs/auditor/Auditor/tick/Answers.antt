use Rattle.std.proofs.Common.{refl}
use Rattle.eip_ledger.specs.declared.entry.Kind.TheVariants.{Tick}
use Rattle.eip_audit.proofs.Entering.{enters-none}
use Rattle.eip_audit.proofs.auditor.Auditor.tick.Goals as goal

pub returns : goal.returns
returns c =
    enters-none c.args.self.now _ c.args.worker (Tick c.args.now)
    c.in_ok-tick.ensures.adds c.tick.ensures.legal (λ x. refl) (λ u was. refl) refl refl c.requires.holds
