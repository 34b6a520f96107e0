use Rattle.std.proofs.Common.{refl, ◌∙◌}
use Rattle.eip_worker.proofs.Following.{ready-on}
use Rattle.eip_worker.proofs.Stepping.{served-look, served-on}
use Rattle.eip_worker.proofs.serving.work.Goals as goal

pub loop-init : goal.loop-init
loop-init g c = record {
  can_next = tt;
  is_finite = tt;
  own = c.look-at.ensures.own;
  seat = refl;
  sources = refl;
  served = λ start ready.
      let saw = c.look-at.ensures.saw start ready.works in
      (served-look c.look-at.result.1 (c.look-at.ensures.works start ready.works) saw, saw.3);
}

pub make_step-at-requires-clause-ready : goal.make_step-at-requires-clause-ready
make_step-at-requires-clause-ready g c κs within =
    let ready = c.requires.ready in
    let before = c.loop.invariant.served ready.0 ready.1 in
    (ready.0, rw c.loop.invariant.sources (ready-on ready.1 before.0), before.1)

pub loop-preserved : goal.loop-preserved
loop-preserved g c = record {
  can_next = tt;
  is_finite = tt;
  own = c.make_step-at.ensures.own ∙ c.loop.invariant.own;
  seat = c.make_step-at.ensures.same.0 ∙ c.loop.invariant.seat;
  sources = c.make_step-at.ensures.same.1 ∙ c.loop.invariant.sources;
  served = λ start ready.
      served-on c.loop.at.1 c.make_step-at.result.1 ready (c.loop.invariant.served start ready)
      (λ now stands. c.make_step-at.ensures.served start (rw c.loop.invariant.sources now) stands);
}
