use Rattle.std.proofs.Common.{ap, is_err, refl}
use Rattle.eip_ledger.specs.declared.entry.Kind.TheVariants.{Starve}
use Rattle.eip_shared.specs.declared.looks.Look.TheVariants.{Did}
use Rattle.eip_shared.proofs.Looking.{looks-behind, looks-did, looks-inner}
use Rattle.eip_shared.proofs.next.run_inner.Goals as goal

pub returns-in-Ok-Did-clause-looks : goal.returns-in-Ok-Did-clause-looks
returns-in-Ok-Did-clause-looks c =
    looks-inner c.args.hub.now c.inner.new.self c.args.worker c.args.number c.inner.result (ap is_err c.in-Ok-Did.is)
    c.inner.ensures.did c.inner.ensures.outside c.inner.ensures.exact

pub returns-in-Ok-Outside-clause-looks : goal.returns-in-Ok-Outside-clause-looks
returns-in-Ok-Outside-clause-looks c =
    looks-inner c.args.hub.now c.inner.new.self c.args.worker c.args.number c.inner.result (ap is_err c.in-Ok-Outside.is)
    c.inner.ensures.did c.inner.ensures.outside c.inner.ensures.exact

pub returns-in-Err-clause-looks : goal.returns-in-Err-clause-looks
returns-in-Err-clause-looks c =
    looks-behind c.args.hub.now c.inner.new.self c.starve.new.self c.args.worker Did c.in-Err.ensures.err
    (looks-did c.inner.new.self c.starve.new.self c.args.worker (Starve c.args.number) c.starve.ensures.adds tt (refl, refl) refl)
