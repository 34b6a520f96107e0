use Rattle.std.proofs.Common.{rules, arith, ◌∙◌, ap, sym}
use Rattle.eip_meaning.specs.Contexts.{place_in}
use Rattle.eip_meaning.specs.Meaning.{finished}
use Rattle.eip_meaning.specs.Outcomes.{Goes}
use Rattle.eip_turns.specs.Courses.{IsLast}
use Rattle.eip_turns.proofs.Falling.{stack_push, block_frame}
use Rattle.eip_turns.proofs.Turning.{behind_push_at, last_as}
use Rattle.eip_turns.proofs.turns.run.Goals as goal

pub loop-course-preserved-in-Some : goal.loop-course-preserved-in-Some
loop-course-preserved-in-Some c = λ whole A.
    c.in_ok-course-in-Some.ensures.means whole A
    ∙ (sym (behind_push_at c.args.set.now c.pop.new.self.items c.loop-course.stack.items c.in-Some.frame (Goes c.loop-course.message A) c.in-Some.ensures.items)
    ∙ (rw c.in-Goes.is at c.loop-course.invariant whole A))

pub loop-course-smaller-in-Some : goal.loop-course-smaller-in-Some
loop-course-smaller-in-Some c =
    omega (arith, c.in_ok-course-in-Some.ensures.falls, stack_push c.args.set.now c.pop.new.self.items c.loop-course.stack.items c.in-Some.frame c.in-Some.ensures.items)

pub loop-course-smaller-in-Enters : goal.loop-course-smaller-in-Enters
loop-course-smaller-in-Enters c =
    rw c.in-Enters.is (omega (arith, c.in_ok-course-in-Enters.ensures.falls, block_frame c.args.set.now c.in-Enters.context c.in-Enters.block))

pub returns-in_default-clause-means : goal.returns-in_default-clause-means
returns-in_default-clause-means c = λ commit item d whole A.
    let l : IsLast c.loop-course.course = search rules in
    last_as c.args.set.now commit item d whole c.loop-course.stack.items c.loop-course.course c.loop-course.message A l
    ∙ ap (finished commit item (place_in d 0)) (c.loop-course.invariant whole A)
