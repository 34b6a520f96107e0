use denote.Param.Send.{sendable}
use Rattle.std.proofs.Common.{◌≡◌, sym, ◌∙◌}
use Rattle.eip_exchange.specs.declared.birth.Origin.TheVariants.{Group}
use Rattle.eip_turnstile.specs.Seats.{knows}
use Rattle.eip_shared.proofs.Sending.{run-send}
use Rattle.eip_worker.proofs.Following.{served-call, served-pull}
use Rattle.eip_worker.proofs.Stepping.{served-look, served-turn, call-askable, call-known, pull-inlet, pull-known, served-unpulled}
use Rattle.eip_worker.proofs.serving.make_step.Goals as goal
use Rattle.eip_worker.proofs.serving.make_step.Goals.{in-Call, in-Pull}

pub call-requires-clause-outside : goal.call-requires-clause-outside
call-requires-clause-outside g c κs within = (rw c.in-Call.is at c.requires.ready.2).outside

pub call-requires-clause-askable : goal.call-requires-clause-askable
call-requires-clause-askable g c κs within =
    let ready = c.requires.ready in
    let took = rw c.in-Call.is at ready.2 in
    (took.from, took.told, call-askable ready.0 (knows c.args.at.0) _ _ _ _ c.in-Call.ticket c.in-Call.told ready.1 took)

pub pull-outcome-requires-after_bounds : goal.pull-outcome-requires-after_bounds
pull-outcome-requires-after_bounds g c κs within =
    let ready = c.requires.ready in
    pull-inlet ready.0 (knows c.args.at.0) _ _ _ _ _ ready.1 (rw c.in-Pull.is at ready.2)

pub is_free-requires-send-V : goal.is_free-requires-send-V
is_free-requires-send-V g c κs = search (run-send, sendable) depth 12

pub enter-requires-clause-may : goal.enter-requires-clause-may
enter-requires-clause-may g c =
    let start = c.requires.ready.0 in
    let ready = c.requires.ready.1 in
    let seat = knows c.args.at.0 in
    let sources = c.args.worker.now.sources in
    elim c.match-what.branch [
      | in-Call w ↦
          let took = rw w.in-Call.is at c.requires.ready.2 in
          let some = sym w.outcome-is ∙ c.in-Some.is in
          let is : w.call.result ≡ c.in-Some.outcome = cc some in
          let called = rw is at w.call.ensures took.from took.told (call-askable start seat _ _ _ _ w.in-Call.ticket w.in-Call.told ready took) in
          (start, ready.works, (took.from, call-known start seat sources _ _ _ _ _ w.in-Call.ticket w.in-Call.told c.in-Some.outcome took called))
      | in-Pull w ↦
          let pulled = rw w.in-Pull.is at c.requires.ready.2 in
          let is = sym w.outcome-is ∙ c.in-Some.is in
          let came = rw is at w.pull-outcome.ensures.came in
          (start, ready.works, (Group 0, pull-known start seat sources _ _ (Group 0) w.in-Pull.source c.in-Some.outcome pulled came))
    ]

pub returns-in_default-clause-served : goal.returns-in_default-clause-served
returns-in_default-clause-served g c start ready stands =
    let saw = c.look.ensures.saw start ready.works in
    (served-look c.look.result.1 (c.look.ensures.works start ready.works) saw, saw.3)

pub returns-in-Some-clause-served : goal.returns-in-Some-clause-served
returns-in-Some-clause-served g c start ready stands =
    let seat = knows c.args.at.0 in
    let sources = c.args.worker.now.sources in
    let after = c.enter.ensures.works start ready.works in
    elim c.match-what.branch [
      | in-Call w ↦
          let took = rw w.in-Call.is at stands in
          let some = sym w.outcome-is ∙ c.in-Some.is in
          let is : w.call.result ≡ c.in-Some.outcome = cc some in
          let called = rw is at w.call.ensures took.from took.told (call-askable start seat _ _ _ _ w.in-Call.ticket w.in-Call.told ready took) in
          let known = call-known start seat sources _ _ _ _ _ w.in-Call.ticket w.in-Call.told c.in-Some.outcome took called in
          rw w.worker-is (served-turn c.enter.result.1 (c.enter.ensures.saw start took.from ready.works known) after
          (λ v works turned. served-call sources took.from w.in-Call.ticket c.in-Some.outcome ready.routes works called turned))
      | in-Pull w ↦
          let pulled = rw w.in-Pull.is at stands in
          let is = sym w.outcome-is ∙ c.in-Some.is in
          let came = rw is at w.pull-outcome.ensures.came in
          let known = pull-known start seat sources _ _ (Group 0) w.in-Pull.source c.in-Some.outcome pulled came in
          rw w.worker-is (served-turn c.enter.result.1 (c.enter.ensures.saw start (Group 0) ready.works known) after
          (λ v works turned. served-pull sources (Group 0) w.in-Pull.source c.in-Some.outcome ready.routes works came turned))
    ]

pub returns-in-None-clause-served : goal.returns-in-None-clause-served
returns-in-None-clause-served g c start ready stands =
    elim c.match-what.branch [
      | in-Call w ↦ let some = sym w.outcome-is ∙ c.in-None.is in absurd (cc some)
      | in-Pull w ↦
          let is = sym w.outcome-is ∙ c.in-None.is in
          rw w.worker-is (served-unpulled _ ready.works (rw is at w.pull-outcome.ensures.none), tt)
    ]
