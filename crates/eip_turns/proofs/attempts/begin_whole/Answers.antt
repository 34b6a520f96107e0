use Rattle.std.proofs.Common.{◌∙◌}
use Rattle.eip_parts.specs.Effects.{tried_of}
use Rattle.eip_turns.proofs.Keeping.{keeps_to}
use Rattle.eip_turns.proofs.Trying.{whole_begun, no_whole_begun, has_kept}
use Rattle.eip_turns.proofs.attempts.begin_whole.Goals as goal

pub returns-in_ok-course-in-Some : goal.returns-in_ok-course-in-Some
returns-in_ok-course-in-Some c = λ A.
    c.in_ok-course-in-Some.ensures.means c.args.whole.now c.args.message.now A
    (has_kept c.in_ok-kept.kept c.args.left (tried_of c.in_ok-effect-in-Some.effect c.hold.new.message) c.hold.new.message c.args.message.now
    (rw (c.in_ok-effect-in-Some.ensures, c.get.ensures) (keeps_to c.hold.new.message c.args.set.now c.args.context c.in-Some.uri)) c.in_ok-kept.ensures.kept c.in_ok-kept.ensures.tried)
    ∙ rw (c.in_ok-effect-in-Some.ensures, c.get.ensures) (whole_begun c.args.set.now c.args.whole.now c.args.context c.in-Some.uri c.args.left c.args.message.now c.hold.new.message A c.in-Some.is c.in_ok-kept.ensures.tried)

pub returns-in-None : goal.returns-in-None
returns-in-None c = λ A. no_whole_begun c.args.set.now c.args.whole.now c.args.context c.args.left c.args.message.now c.hold.new.message A c.in-None.is c.in_ok-kept.ensures.tried
