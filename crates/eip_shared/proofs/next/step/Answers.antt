use Rattle.std.proofs.Common.{[], ◌∷◌, is_some, refl, sym, ap, subst, ◌∙◌}
use Rattle.eip_ledger.specs.declared.entry.Kind.TheVariants.{Pull}
use Rattle.eip_hub.specs.View.{AddsNone}
use Rattle.eip_shared.specs.Deeds.{silent}
use Rattle.eip_shared.specs.declared.looks.Look.TheVariants as look
use Rattle.eip_shared.proofs.Doing.{does-none, does-one}
use Rattle.eip_shared.proofs.Looking.{looks-behind, looks-started, none-given, none-same, pulled-now, unlooked-ready}
use Rattle.eip_shared.proofs.next.step.Goals as goal

pub returns-then-is_some-clause-looks : goal.returns-then-is_some-clause-looks
returns-then-is_some-clause-looks c = (
  [],
  does-none c.args.hub.now c.args.hub.now c.args.worker (none-same c.args.hub.now),
  tt,
  ap is_some (sym c.stop.ensures.stop) ∙ (sym c.is_some.ensures ∙ c.if-is_some.true),
  refl,
)

pub returns-then-is_err-clause-looks : goal.returns-then-is_err-clause-looks
returns-then-is_err-clause-looks c = ([], does-none c.args.hub.now c.reserve.new.self c.args.worker c.reserve.ensures.none, tt, tt, refl)

pub returns-then-not-below_limit-clause-looks : goal.returns-then-not-below_limit-clause-looks
returns-then-not-below_limit-clause-looks c = ([], does-none c.args.hub.now c.reserve.new.self c.args.worker c.reserve.ensures.none, tt, tt, refl)

pub run_inner-requires-clause-ready : goal.run_inner-requires-clause-ready
run_inner-requires-clause-ready c =
    unlooked-ready _ c.reserve.new.self.journal.past c.reserve.new.self.outside c.in-Some.number (sym c.unlooked.ensures ∙ c.in-Some.is)

pub returns-then-is_some-2-clause-looks : goal.returns-then-is_some-2-clause-looks
returns-then-is_some-2-clause-looks c =
    looks-behind c.args.hub.now c.reserve.new.self c.start.new.self c.args.worker look.Did c.reserve.ensures.none
    (looks-started c.reserve.new.self c.start.new.self c.args.worker c.start.result c.start.ensures.starts (sym c.is_some-2.ensures ∙ c.if-is_some-2.true))

pub returns-in-Some-pull_owned-clause-looks : goal.returns-in-Some-pull_owned-clause-looks
returns-in-Some-pull_owned-clause-looks c =
    let pulled = c.in-Some-pull_owned.ensures in
    let started = none-given c.start.result c.start.ensures.none (sym c.is_some-2.ensures ∙ c.if-is_some-2.false) in
    let none = subst (λ v. AddsNone c.args.hub.now v) (sym started) c.reserve.ensures.none in
    looks-behind c.args.hub.now c.start.new.self c.pull_owned.new.self c.args.worker (look.Pull c.in-Some-pull_owned.source) none (
      silent (Pull c.in-Some-pull_owned.source) ∷ [],
      does-one c.start.new.self c.pull_owned.new.self c.args.worker (Pull c.in-Some-pull_owned.source) pulled.enters.adds pulled.owner,
      ((refl, refl), tt),
      pulled-now c.start.new.self c.pull_owned.new.self c.args.worker c.in-Some-pull_owned.source pulled.enters.adds pulled.may.0 pulled.owner,
      refl,
    )
