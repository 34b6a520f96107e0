use Rattle.std.proofs.Common.{◌≡◌, List, ◌+◌}
use Rattle.std.specs.Prelude.{Option}
use Rattle.eip_uri.specs.declared.uri.Uri.{Uri}
use Rattle.eip_frames.specs.declared.answer.Answer.{Answer as Reply}
use Rattle.eip_progress.specs.Rest.{now_mean, behind_all}
use Rattle.eip_turns.specs.Courses.{now_of}
use Rattle.eip_turns.specs.Falls.{stack_weight, now_weight}
use Rattle.eip_turns.proofs.turns.run.Given as goal

abbrev pub invariant-loop-course : goal.invariant-loop-course
invariant-loop-course l = (whole : Option Uri) (A : List Reply) →
    behind_all l.set l.stack.items (now_mean l.set whole (now_of l.course l.message) A)
    ≡ behind_all l.set l.initial.stack.items (now_mean l.set whole (now_of l.initial.course l.initial.message) A)

abbrev pub decreases-loop-course : goal.decreases-loop-course
decreases-loop-course l = stack_weight l.set l.stack.items + now_weight l.set (now_of l.course l.message)
