use Rattle.std.proofs.Common.{◌∙◌, ap, refl}
use Rattle.eip_meaning.specs.Meaning.{item_of}
use Rattle.eip_progress.specs.declared.cursor.State.{State}
use Rattle.eip_progress.specs.Rest.{rest, rest_of}
use Rattle.eip_cursor.proofs.Fitting.{fits_wait}
use Rattle.eip_cursor.proofs.Following.{not_starting}
use Rattle.eip_cursor.proofs.cursor.answered.Goals as goal

pub on_answer-requires-clause-fits : goal.on_answer-requires-clause-fits
unfolding rest
on_answer-requires-clause-fits c =
    let h = rw c.in-Runs.is at c.requires.fits in
    fits_wait c.args.set.now c.args.cursor.now.commit (item_of c.args.cursor.now.origin) c.args.cursor.now.context c.args.cursor.now.whole c.args.cursor.now.stack.items c.in-Runs.wait c.args.answer.now h

pub returns-in_ok-course-in-Runs-2-clause-rest : goal.returns-in_ok-course-in-Runs-2-clause-rest
unfolding rest
returns-in_ok-course-in-Runs-2-clause-rest c = λ A.
    ap (λ (s : State). rest_of c.args.set.now c.args.cursor.now.commit (item_of c.args.cursor.now.origin) c.args.cursor.now.context c.in_ok-whole.whole c.run.new.stack.items s A) c.into_state.ensures
    ∙ c.in_ok-course-in-Runs-2.ensures.means c.args.cursor.now.commit (item_of c.args.cursor.now.origin) c.args.cursor.now.context c.in_ok-whole.whole A
    ∙ rw (c.in_ok-stack.ensures, c.deref.ensures.value, c.in_ok-course-in-Runs.ensures A, c.in_ok-whole.ensures, c.in-Runs.is) refl

pub returns-in_ok-course-in-Runs-2-clause-later : goal.returns-in_ok-course-in-Runs-2-clause-later
returns-in_ok-course-in-Runs-2-clause-later c = rw c.into_state.ensures (not_starting c.in_ok-course-in-Runs-2.course c.run.new.message c.in_ok-course-in-Runs-2.ensures.last)
