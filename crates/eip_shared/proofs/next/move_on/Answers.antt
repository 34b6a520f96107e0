use Rattle.std.proofs.Common.{[], refl, sym, subst, ◌∙◌}
use Rattle.eip_hub.specs.View.{AddsNone}
use Rattle.eip_ledger.specs.declared.entry.Kind.TheVariants.{Force, Tick}
use Rattle.eip_shared.proofs.Doing.{does-none}
use Rattle.eip_shared.proofs.Looking.{looks-behind, looks-did, none-same}
use Rattle.eip_shared.specs.declared.looks.Look.TheVariants.{Did}
use Rattle.eip_shared.proofs.next.move_on.Goals as goal

pub returns-in_default-clause-looks : goal.returns-in_default-clause-looks
returns-in_default-clause-looks c = ([], does-none c.args.hub.now c.tick.new.self c.args.worker c.in_default.ensures.err, tt, tt, refl)

pub returns-then-ticked-clause-looks : goal.returns-then-ticked-clause-looks
returns-then-ticked-clause-looks c =
    let ticked = c.in-Ok.ensures.ticked c.if-ticked.true in
    looks-did c.args.hub.now c.tick.new.self c.args.worker (Tick ticked.0) ticked.2 tt (refl, refl) refl

pub returns-in-Ok-true-clause-looks : goal.returns-in-Ok-true-clause-looks
returns-in-Ok-true-clause-looks c =
    let forced = c.in-Ok-true.ensures.forced c.in-Ok-true.field-0-test in
    looks-behind c.args.hub.now c.tick.new.self c.force.new.self c.args.worker Did
    (subst (λ v. AddsNone c.args.hub.now v) (sym (c.in-Ok.ensures.none c.if-ticked.false)) (none-same c.args.hub.now))
    (looks-did c.tick.new.self c.force.new.self c.args.worker Force forced.1 tt (refl, refl) refl)

pub returns-in-Ok-false-clause-looks : goal.returns-in-Ok-false-clause-looks
returns-in-Ok-false-clause-looks c =
    let same = c.in-Ok-false.ensures.none c.in-Ok-false.field-0-test ∙ c.in-Ok.ensures.none c.if-ticked.false in
    ([], does-none c.args.hub.now c.force.new.self c.args.worker (subst (λ v. AddsNone c.args.hub.now v) (sym same) (none-same c.args.hub.now)), tt, tt, refl)

pub returns-in-Err-clause-looks : goal.returns-in-Err-clause-looks
returns-in-Err-clause-looks c = (
  [],
  does-none c.args.hub.now c.force.new.self c.args.worker
      (subst (λ v. AddsNone v c.force.new.self) (c.in-Ok.ensures.none c.if-ticked.false) c.in-Err.ensures.err),
  tt,
  tt,
  refl,
)
