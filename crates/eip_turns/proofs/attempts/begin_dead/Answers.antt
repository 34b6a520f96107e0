use Rattle.std.proofs.Common.{arith, ◌∙◌}
use Rattle.eip_parts.specs.Effects.{tried_of}
use Rattle.eip_progress.specs.declared.frame.Task.TheVariants.{Dead}
use Rattle.eip_turns.specs.Falls.{handling_in}
use Rattle.eip_turns.proofs.Falling.{weighs_to}
use Rattle.eip_turns.proofs.Keeping.{keeps_to}
use Rattle.eip_turns.proofs.Trying.{dead_begun, no_dead_begun, has_kept}
use Rattle.eip_turns.proofs.attempts.begin_dead.Goals as goal

pub returns-in_ok-course-in-Some-clause-means : goal.returns-in_ok-course-in-Some-clause-means
returns-in_ok-course-in-Some-clause-means c = λ whole A.
    c.in_ok-course-in-Some.ensures.means whole c.args.message.now A
    (has_kept c.in_ok-kept.kept c.args.left (tried_of c.in_ok-effect-in-Some.effect c.hold.new.message) c.hold.new.message c.args.message.now
    (rw c.in_ok-effect-in-Some.ensures (keeps_to c.hold.new.message c.args.set.now c.args.context c.in-Some.uri)) c.in_ok-kept.ensures.kept c.in_ok-kept.ensures.tried)
    ∙ rw c.in_ok-effect-in-Some.ensures (dead_begun c.args.set.now whole c.args.context c.in-Some.uri c.args.left c.args.message.now c.hold.new.message A c.in-Some.is c.in_ok-kept.ensures.tried)

pub returns-in_ok-course-in-Some-clause-falls : goal.returns-in_ok-course-in-Some-clause-falls
returns-in_ok-course-in-Some-clause-falls c =
    let q = rw c.in_ok-effect-in-Some.ensures at c.in_ok-course-in-Some.ensures.falls in
    omega (arith, q, weighs_to c.args.set.now c.args.context Dead c.in-Some.uri c.hold.new.message (handling_in c.args.set.now c.args.context) (omega arith))

pub returns-in-None-clause-means : goal.returns-in-None-clause-means
returns-in-None-clause-means c = λ whole A. no_dead_begun c.args.set.now whole c.args.context c.args.left c.args.message.now c.hold.new.message A c.in-None.is c.in_ok-kept.ensures.tried
