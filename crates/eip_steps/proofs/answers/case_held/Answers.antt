use Rattle.std.proofs.Common.{◌≡◌, ℕ, ◌+◌, suc, IfOk, drop, refl, subst, arith}
use Rattle.std.proofs.lemmas.Option.{slice_get_past}
use Rattle.eip_progress.specs.FirstTry.{choice_tried}
use Rattle.eip_parts.specs.Effects.{tried_of}
use Rattle.eip_steps.proofs.Within.{some_within}
use Rattle.eip_steps.proofs.answers.case_held.Goals as goal

pub returns-else-holds : goal.returns-else-holds
returns-else-holds c =
    let p = some_within c.args.cases.now c.args.index c.if-index-cases.true in
    let next : c.args.index + 1 ≡ suc c.args.index = omega arith in
    rw (p.1, c.if-holds.false)
    (subst (λ (n : ℕ). IfOk c.choose.result (λ e. tried_of e c.args.message.now ≡ choice_tried c.args.set.now c.args.context n (drop n c.args.cases.now) c.args.otherwise c.args.message.now)) next c.choose.ensures)

pub returns-else-index-cases : goal.returns-else-index-cases
returns-else-index-cases c = rw (slice_get_past c.args.cases.now c.args.index c.if-index-cases.false) refl
