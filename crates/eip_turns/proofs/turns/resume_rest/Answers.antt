use Rattle.std.proofs.Common.{arith, refl, ◌∙◌, ap, drop}
use Rattle.std.specs.Prelude.{None, slice_get}
use Rattle.eip_meaning.specs.Meaning.{steps_of}
use Rattle.eip_parts.specs.Effects.{tried_of}
use Rattle.eip_progress.specs.Rest.{behind_all}
use Rattle.eip_turns.specs.Weights.{nested_block}
use Rattle.eip_turns.specs.Falls.{handling_in}
use Rattle.eip_turns.proofs.Falling.{steps_weight-pos, rest_falls}
use Rattle.eip_turns.proofs.Firsts.{kept_as, weighs_as, first_goes, first_leaves}
use Rattle.eip_turns.proofs.Turning.{rest_none}
use Rattle.eip_turns.proofs.turns.resume_rest.Goals as goal

pub loop-next-init : goal.loop-next-init
loop-next-init c = record { stack = refl; means = λ A. refl; falls = omega arith }

pub loop-next-preserved : goal.loop-next-preserved
loop-next-preserved c = record {
  stack = c.loop-next.invariant.stack;
  means = λ A.
      rw c.in-Some.ensures.0
      (first_goes c.args.set.now None c.args.context c.args.block c.loop-next.index c.loop-next.message A c.in-Some.ensures.1 c.first_try.new.message (rw c.in-Goes.is at c.in_ok-effect.ensures))
      ∙ c.loop-next.invariant.means A;
  falls = rw c.in-Some.ensures.0 (omega (arith, c.loop-next.invariant.falls, rest_falls c.args.set.now c.args.context c.args.block c.loop-next.index c.in-Some.ensures.1));
}

pub loop-next-smaller : goal.loop-next-smaller
loop-next-smaller c = rw c.in-Some.ensures.0 (omega (arith, rest_falls c.args.set.now c.args.context c.args.block c.loop-next.index c.in-Some.ensures.1))

pub returns-clause-means : goal.returns-clause-means
returns-clause-means c = λ whole A.
    rw c.loop-next.invariant.stack
    (ap (behind_all c.args.set.now c.args.stack.now.items)
    (rest_none c.args.set.now c.args.context c.args.block c.loop-next.index c.loop-next.message A c.in_default.ensures ∙ c.loop-next.invariant.means A))

pub returns-clause-falls : goal.returns-clause-falls
returns-clause-falls c =
    rw c.loop-next.invariant.stack
    (omega (
      arith,
      c.loop-next.invariant.falls,
      steps_weight-pos (handling_in c.args.set.now c.args.context) (nested_block c.args.set.now (handling_in c.args.set.now c.args.context) c.args.block) (drop c.loop-next.index (steps_of c.args.set.now c.args.block)),
    ))

pub returns-in_default-2 : goal.returns-in_default-2
returns-in_default-2 c =
    let t = tried_of c.in_ok-effect.effect c.first_try.new.message in
    let w = weighs_as c.args.set.now c.args.context c.args.block c.loop-next.index (slice_get (steps_of c.args.set.now c.args.block) c.loop-next.index) c.loop-next.message t c.in_ok-effect.ensures in
    let p = rw (c.in-Some.ensures.0, c.loop-next.invariant.stack) at c.in_ok-course-in_default-2.ensures.falls in
    record {
      means = λ whole A.
          c.in_ok-course-in_default-2.ensures.means whole c.loop-next.message A (kept_as c.args.set.now c.args.context (slice_get (steps_of c.args.set.now c.args.block) c.loop-next.index) c.loop-next.message t c.in_ok-effect.ensures)
          ∙ (first_leaves c.args.set.now whole c.args.context c.args.block c.loop-next.index c.loop-next.message A c.in-Some.ensures.1 c.args.stack.now.items c.loop-next.stack.items c.in-Some.next t c.loop-next.invariant.stack c.in-Some.ensures.0 c.in_ok-effect.ensures
          ∙ ap (behind_all c.args.set.now c.args.stack.now.items) (c.loop-next.invariant.means A));
      falls = omega (arith, p, w, c.loop-next.invariant.falls, rest_falls c.args.set.now c.args.context c.args.block c.loop-next.index c.in-Some.ensures.1);
    }
