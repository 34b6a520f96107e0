use Rattle.std.proofs.Common.{refl}
use Rattle.eip_core.proofs.Acts.{rests-below, chosen-ready, chosen-none, not-outside, drains-inner, acts-inner, drains-starved, acts-starved}
use Rattle.eip_core.proofs.Serving.{among-with}
use Rattle.eip_core.proofs.drain.run_ready.Goals as goal

pub inner-requires-clause-ready : goal.inner-requires-clause-ready
inner-requires-clause-ready g c =
    let h = c.requires.chosen in
    chosen-ready h

pub inner-requires-clause-below : goal.inner-requires-clause-below
inner-requires-clause-below g c = rests-below c.args.hub.now c.requires.chosen.rests

pub starve-requires-clause-ready : goal.starve-requires-clause-ready
starve-requires-clause-ready g c =
    let h = c.requires.chosen in
    chosen-ready (chosen-none c.in-Err.ensures.err h)

pub returns-in-Ok-Did-clause-drains : goal.returns-in-Ok-Did-clause-drains
returns-in-Ok-Did-clause-drains g c =
    let h = c.requires.chosen in
    let did = (rw c.in-Ok-Did.field-0-is at c.in-Ok-Did.ensures.did) refl in
    drains-inner did.0 _ _ h did.1 (not-outside _ (rw c.in-Ok-Did.field-0-is at c.in-Ok-Did.ensures.exact))

pub returns-in-Ok-Did-clause-acts : goal.returns-in-Ok-Did-clause-acts
returns-in-Ok-Did-clause-acts g c =
    let h = c.requires.chosen in
    let did = (rw c.in-Ok-Did.field-0-is at c.in-Ok-Did.ensures.did) refl in
    acts-inner did.0 h did.1 c.inner.ensures.legal

pub returns-in-Err-clause-drains : goal.returns-in-Err-clause-drains
returns-in-Err-clause-drains g c =
    let h = c.requires.chosen in
    drains-starved _ _ h c.in-Err.ensures.err c.starve.ensures.adds

pub returns-in-Err-clause-acts : goal.returns-in-Err-clause-acts
returns-in-Err-clause-acts g c =
    let h = c.requires.chosen in
    acts-starved h c.in-Err.ensures.err c.starve.ensures.adds c.starve.ensures.legal

pub serve-requires-clause-known : goal.serve-requires-clause-known
serve-requires-clause-known g c = rw (rw c.in-Ok-Outside.field-0-is at c.in-Ok-Outside.ensures.listed) (among-with c.args.number c.args.hub.now.outside)
