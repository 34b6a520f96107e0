use Rattle.std.proofs.Common.{[], ◌∙◌, ap, refl}
use Rattle.eip_meaning.specs.Meaning.{item_of}
use Rattle.eip_progress.specs.declared.cursor.State.{State}
use Rattle.eip_progress.specs.Rest.{rest, rest_of, asked_at, IsFirst}
use Rattle.eip_cursor.specs.Follows.{begins}
use Rattle.eip_cursor.proofs.Following.{not_over, not_starting}
use Rattle.eip_cursor.proofs.going.begin.Goals as goal

pub ask-requires-clause-later : goal.ask-requires-clause-later
ask-requires-clause-later c = rw c.into_state-state.ensures (not_starting c.in_ok-course.course c.first_turns.new.message c.in_ok-course.ensures.last)

pub ask-requires-clause-lives : goal.ask-requires-clause-lives
ask-requires-clause-lives c =
    not_over c.args.set.now c.is_told_origin-commit.result (item_of c.args.origin) c.args.context c.first_turns.new.whole c.first_turns.new.stack.items c.into_state-state.result (begins c.args.set.now c.args.context c.args.origin c.args.work.now c.args.message [])
    (ap (λ (s : State). rest_of c.args.set.now c.is_told_origin-commit.result (item_of c.args.origin) c.args.context c.first_turns.new.whole c.first_turns.new.stack.items s []) c.into_state-state.ensures
    ∙ c.in_ok-course.ensures.rest c.is_told_origin-commit.result (item_of c.args.origin) []
    ∙ rw (c.is_told_origin-commit.ensures, c.new-stack.ensures.items) refl) c.requires.lives

pub returns-clause-ok : goal.returns-clause-ok
unfolding rest asked_at IsFirst
returns-clause-ok c = record {
  cursor = _;
  request = c.in_ok-ask.ensures.ok.0;
  placed = c.put_in.ensures;
  asks = c.in_ok-ask.ensures.ok.1;
  means = λ A.
      ap (λ (s : State). rest_of c.args.set.now c.is_told_origin-commit.result (item_of c.args.origin) c.args.context c.first_turns.new.whole c.first_turns.new.stack.items s A) c.into_state-state.ensures
      ∙ c.in_ok-course.ensures.rest c.is_told_origin-commit.result (item_of c.args.origin) A
      ∙ rw (c.is_told_origin-commit.ensures, c.new-stack.ensures.items) refl;
  fate = c.in_ok-ask.ensures.ok.2 c.args.set.now (item_of c.args.origin) c.args.context c.first_turns.new.whole c.first_turns.new.stack.items;
  later = rw c.into_state-state.ensures (not_starting c.in_ok-course.course c.first_turns.new.message c.in_ok-course.ensures.last);
}
