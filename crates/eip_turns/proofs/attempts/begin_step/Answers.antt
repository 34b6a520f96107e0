use Rattle.std.proofs.Common.{arith, ◌∙◌}
use Rattle.eip_parts.specs.Effects.{tried_of}
use Rattle.eip_turns.proofs.Falling.{weighs_first}
use Rattle.eip_turns.proofs.Keeping.{keeps_first}
use Rattle.eip_turns.proofs.Trying.{step_begun, no_step_begun, has_kept}
use Rattle.eip_turns.proofs.attempts.begin_step.Goals as goal

pub returns-in_ok-course-in-Some-clause-means : goal.returns-in_ok-course-in-Some-clause-means
returns-in_ok-course-in-Some-clause-means c = λ whole A.
    c.in_ok-course-in-Some.ensures.means whole c.args.message.now A
    (has_kept c.in_ok-kept.kept c.args.left (tried_of c.in_ok-effect-in-Some.effect c.try_step.new.message) c.hold.new.message c.args.message.now
    (rw c.in_ok-effect-in-Some.ensures (keeps_first c.hold.new.message c.args.set.now c.args.context c.in-Some.step.now)) c.in_ok-kept.ensures.kept c.in_ok-kept.ensures.tried)
    ∙ rw c.in_ok-effect-in-Some.ensures (step_begun c.args.set.now whole c.args.context c.args.block c.args.index c.in-Some.step.now c.args.left c.args.message.now c.hold.new.message A c.in-Some.ensures c.in_ok-kept.ensures.tried)

pub returns-in_ok-course-in-Some-clause-falls : goal.returns-in_ok-course-in-Some-clause-falls
returns-in_ok-course-in-Some-clause-falls c =
    let q = rw c.in_ok-effect-in-Some.ensures at c.in_ok-course-in-Some.ensures.falls in
    rw c.in-Some.ensures (omega (arith, q, weighs_first c.args.set.now c.args.context c.args.block c.args.index c.in-Some.step.now c.hold.new.message))

pub returns-in-None-clause-means : goal.returns-in-None-clause-means
returns-in-None-clause-means c = λ whole A.
    no_step_begun c.args.set.now whole c.args.context c.args.block c.args.index c.args.left c.args.message.now c.hold.new.message A c.in-None.ensures c.in_ok-kept.ensures.tried
