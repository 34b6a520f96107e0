use Rattle.std.proofs.Common.{◌∙◌, refl}
use Rattle.eip_cursor.proofs.Following.{if-ok}
use Rattle.eip_cursor.proofs.cursor.first_turns.Goals as goal

pub returns-clause-rest : goal.returns-clause-rest
returns-clause-rest c =
    if-ok c.run.result _ _ (λ x means commit item A. means commit item c.args.context c.begun.new.whole A ∙ rw (c.in_ok-course.ensures A) refl) c.run.ensures.means
