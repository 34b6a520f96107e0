use Rattle.std.proofs.Common.{◌∙◌, ap, refl}
use Rattle.eip_meaning.specs.Meaning.{item_of}
use Rattle.eip_progress.specs.declared.cursor.State.{State}
use Rattle.eip_progress.specs.Rest.{rest, rest_of}
use Rattle.eip_cursor.proofs.Following.{not_starting}
use Rattle.eip_cursor.proofs.cursor.opened.Goals as goal

pub returns-clause-rest : goal.returns-clause-rest
unfolding rest
returns-clause-rest c = λ A.
    ap (λ (s : State). rest_of c.args.set.now c.args.cursor.now.commit (item_of c.args.cursor.now.origin) c.args.cursor.now.context c.first_turns.new.whole c.first_turns.new.stack.items s A) c.into_state.ensures
    ∙ c.in_ok-course.ensures.rest c.args.cursor.now.commit (item_of c.args.cursor.now.origin) A
    ∙ rw (c.in_ok-stack.ensures, c.deref.ensures.value, c.in_ok-message.ensures, c.in-Starting.is) refl

pub returns-clause-later : goal.returns-clause-later
returns-clause-later c = rw c.into_state.ensures (not_starting c.in_ok-course.course c.first_turns.new.message c.in_ok-course.ensures.last)
