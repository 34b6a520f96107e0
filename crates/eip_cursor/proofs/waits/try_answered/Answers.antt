use Rattle.std.proofs.Common.{◌∷◌, ◌∙◌, ap}
use Rattle.eip_exchange.specs.declared.message.Message.{Message}
use Rattle.eip_parts.specs.Effects.{tried_of}
use Rattle.eip_progress.specs.Rest.{guarded_mean, asking_mean}
use Rattle.eip_turns.proofs.Trying.{has_kept}
use Rattle.eip_cursor.proofs.waits.try_answered.Goals as goal

pub returns : goal.returns
returns c = λ A.
    c.in_ok-course.ensures.means c.args.whole.now c.args.message.now A
    (has_kept c.in_ok-kept.kept c.args.left (tried_of c.in_ok-effect.effect c.answered.new.message) c.hold.new.message c.args.message.now c.in_ok-effect.ensures.keeps c.in_ok-kept.ensures.kept c.in_ok-kept.ensures.tried)
    ∙ ap (guarded_mean c.args.set.now c.args.whole.now c.args.context c.args.task c.args.left c.args.message.now)
    (c.in_ok-effect.ensures.means A
    ∙ ap (λ (n : Message). asking_mean c.args.set.now c.args.whole.now c.args.context c.args.task c.args.asking.now.progress c.args.asking.now.request c.args.asking.now.index n (c.args.answer.now ∷ A)) c.in_ok-kept.ensures.tried)
