use Rattle.eip_core.proofs.Acts.{rests-below}
use Rattle.eip_core.proofs.Serving.{taken, drains-taken, drains-answered, answered-fits, acts-answered, drains-given_up, acts-given_up}
use Rattle.eip_core.proofs.Turns.{still-runs}
use Rattle.eip_core.proofs.drain.serve.Goals as goal

pub unreachable-requires : goal.unreachable-requires
unreachable-requires g c =
    let none = c.in_default.ensures.exact (rests-below c.args.hub.now c.requires.chosen.rests) in
    let known = rw none at c.requires.known in
    cc known

pub answer_of-requires-clause-can_run : goal.answer_of-requires-clause-can_run
answer_of-requires-clause-can_run g c =
    let t = taken c.requires.chosen c.requires.known c.in-Some.ensures.may.0 c.in-Some.ensures.least c.in-Some.ensures.enters.adds c.in-Some.ensures.place c.in-Some.ensures.asked c.take.ensures.legal in
    still-runs {r = g.R.Registered.view c.args.registry.now} (drains-taken _ _ t) c.requires.can_run

pub settle-requires-clause-fits : goal.settle-requires-clause-fits
settle-requires-clause-fits g c =
    let t = taken c.requires.chosen c.requires.known c.in-Some.ensures.may.0 c.in-Some.ensures.least c.in-Some.ensures.enters.adds c.in-Some.ensures.place c.in-Some.ensures.asked c.take.ensures.legal in
    answered-fits _ t c.in-Ok.ensures

pub returns-in-Ok-clause-drains : goal.returns-in-Ok-clause-drains
returns-in-Ok-clause-drains g c =
    let t = taken c.requires.chosen c.requires.known c.in-Some.ensures.may.0 c.in-Some.ensures.least c.in-Some.ensures.enters.adds c.in-Some.ensures.place c.in-Some.ensures.asked c.take.ensures.legal in
    drains-answered _ t (rw c.in-Some.ensures.worker at c.settle.ensures.adds) c.in-Ok.ensures

pub returns-in-Ok-clause-acts : goal.returns-in-Ok-clause-acts
returns-in-Ok-clause-acts g c =
    let t = taken c.requires.chosen c.requires.known c.in-Some.ensures.may.0 c.in-Some.ensures.least c.in-Some.ensures.enters.adds c.in-Some.ensures.place c.in-Some.ensures.asked c.take.ensures.legal in
    acts-answered _ t (rw c.in-Some.ensures.worker at c.settle.ensures.adds) c.settle.ensures.legal

pub returns-in-Err-clause-drains : goal.returns-in-Err-clause-drains
returns-in-Err-clause-drains g c =
    let t = taken c.requires.chosen c.requires.known c.in-Some.ensures.may.0 c.in-Some.ensures.least c.in-Some.ensures.enters.adds c.in-Some.ensures.place c.in-Some.ensures.asked c.take.ensures.legal in
    drains-given_up t (rw c.in-Some.ensures.worker at c.give_up.ensures.adds) c.in-Err.ensures

pub returns-in-Err-clause-acts : goal.returns-in-Err-clause-acts
returns-in-Err-clause-acts g c =
    let t = taken c.requires.chosen c.requires.known c.in-Some.ensures.may.0 c.in-Some.ensures.least c.in-Some.ensures.enters.adds c.in-Some.ensures.place c.in-Some.ensures.asked c.take.ensures.legal in
    acts-given_up t (rw c.in-Some.ensures.worker at c.give_up.ensures.adds) c.give_up.ensures.legal
