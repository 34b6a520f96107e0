use Rattle.std.proofs.Common.{◌∙◌, ap, sym, arith}
use Rattle.std.specs.Prelude.{None}
use Rattle.eip_meaning.specs.Outcomes.{Outcome, followed}
use Rattle.eip_parts.specs.Effects.{tried_of}
use Rattle.eip_parts.specs.declared.effect.Effect.{Effect}
use Rattle.eip_progress.specs.declared.frame.Task.TheVariants.{Step}
use Rattle.eip_progress.specs.Rest.{behind_all, rest_of_block, guarded_mean, tried_mean}
use Rattle.eip_turns.proofs.Trying.{asks_kept}
use Rattle.eip_turns.proofs.turns.behind_step.Goals as goal

pub returns-in-Asks-clause-means : goal.returns-in-Asks-clause-means
returns-in-Asks-clause-means c = λ whole m A h.
    let k = rw c.in-Asks.is at h in
    c.in_ok-push_rest.ensures.means _
    ∙ ap (λ (o : Outcome). behind_all c.args.set.now c.args.stack.now.items (followed o (λ m' A'. rest_of_block c.args.set.now c.args.context c.args.block c.args.next m' A')))
    (asks_kept c.args.set.now whole c.args.context (Step c.args.block c.args.index) 1000 None c.in-Asks.asking c.args.message.now m A k.0 k.1
    ∙ ap (λ (t : Effect). guarded_mean c.args.set.now whole c.args.context (Step c.args.block c.args.index) 1000 m (tried_mean c.args.set.now whole c.args.context (Step c.args.block c.args.index) (tried_of t c.args.message.now) A)) (sym c.in-Asks.is))

pub returns-in-Asks-clause-falls : goal.returns-in-Asks-clause-falls
returns-in-Asks-clause-falls c = omega (arith, c.in_ok-push_rest.ensures.falls)

pub returns-in_ok-course-in_default-clause-means : goal.returns-in_ok-course-in_default-clause-means
returns-in_ok-course-in_default-clause-means c = λ whole m A h.
    c.in_ok-push_rest.ensures.means _
    ∙ ap (λ (o : Outcome). behind_all c.args.set.now c.args.stack.now.items (followed o (λ m' A'. rest_of_block c.args.set.now c.args.context c.args.block c.args.next m' A'))) (c.in_ok-course-in_default.ensures.means whole m A h)

pub returns-in_ok-course-in_default-clause-falls : goal.returns-in_ok-course-in_default-clause-falls
returns-in_ok-course-in_default-clause-falls c = omega (arith, c.in_ok-push_rest.ensures.falls, c.in_ok-course-in_default.ensures.falls)
