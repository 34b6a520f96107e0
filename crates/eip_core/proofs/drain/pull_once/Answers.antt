use Rattle.eip_core.proofs.Acts.{pulled, pulled-out, drains-pull, drains-pulled, acts-pulled, ends-accept, ends-refuse, ends-source_end, ends-source_fault, no-acts}
use Rattle.eip_core.proofs.Compose.{drains-still}
use Rattle.eip_endpoint.proofs.LaneLaws.{LanesGrew-none}
use Rattle.eip_core.proofs.Handed.{runs-inlets}
use Rattle.eip_core.proofs.drain.pull_once.Goals as goal

pub pull_source-requires : goal.pull_source-requires
pull_source-requires g c =
    rw (c.set.ensures, c.in-Some.ensures.enters.adds.same.set) (runs-inlets c.requires.can_run c.in-Some.source c.in-Some.ensures.may.0)

pub move_on-requires-clause-no_source : goal.move_on-requires-clause-no_source
move_on-requires-clause-no_source g c = rw c.in_default.ensures.none c.in_default.ensures.exact

pub accept-requires-clause-may : goal.accept-requires-clause-may
accept-requires-clause-may g c =
    let p = pulled c.requires.rests c.requires.nobody c.requires.no_queue c.in-Some.ensures.may c.in-Some.ensures.least c.in-Some.ensures.enters.adds c.pull.ensures.legal in
    let o = pulled-out p in
    (o.0, o.1, (rw c.in-Ok-Item.field-0-is at c.in-Ok-Item.ensures.fair).no_properties)

pub refuse-requires-clause-may : goal.refuse-requires-clause-may
refuse-requires-clause-may g c =
    let p = pulled c.requires.rests c.requires.nobody c.requires.no_queue c.in-Some.ensures.may c.in-Some.ensures.least c.in-Some.ensures.enters.adds c.pull.ensures.legal in
    pulled-out p

pub source_end-requires-clause-may : goal.source_end-requires-clause-may
source_end-requires-clause-may g c =
    let p = pulled c.requires.rests c.requires.nobody c.requires.no_queue c.in-Some.ensures.may c.in-Some.ensures.least c.in-Some.ensures.enters.adds c.pull.ensures.legal in
    pulled-out p

pub source_fault-requires-clause-may : goal.source_fault-requires-clause-may
source_fault-requires-clause-may g c =
    let p = pulled c.requires.rests c.requires.nobody c.requires.no_queue c.in-Some.ensures.may c.in-Some.ensures.least c.in-Some.ensures.enters.adds c.pull.ensures.legal in
    pulled-out p

pub returns-in-Ok-Item-clause-acts : goal.returns-in-Ok-Item-clause-acts
returns-in-Ok-Item-clause-acts g c =
    let p = pulled c.requires.rests c.requires.nobody c.requires.no_queue c.in-Some.ensures.may c.in-Some.ensures.least c.in-Some.ensures.enters.adds c.pull.ensures.legal in
    acts-pulled _ _ p c.accept.ensures.adds c.accept.ensures.legal (ends-accept c.in-Some.source c.in-Ok-Item.item c.in-Ok-Item.message)

pub returns-in-Ok-Refused-clause-acts : goal.returns-in-Ok-Refused-clause-acts
returns-in-Ok-Refused-clause-acts g c =
    let p = pulled c.requires.rests c.requires.nobody c.requires.no_queue c.in-Some.ensures.may c.in-Some.ensures.least c.in-Some.ensures.enters.adds c.pull.ensures.legal in
    acts-pulled _ _ p c.refuse.ensures.adds c.refuse.ensures.legal (ends-refuse c.in-Some.source c.in-Ok-Refused.item c.refused.result)

pub returns-in-Ok-End-clause-acts : goal.returns-in-Ok-End-clause-acts
returns-in-Ok-End-clause-acts g c =
    let p = pulled c.requires.rests c.requires.nobody c.requires.no_queue c.in-Some.ensures.may c.in-Some.ensures.least c.in-Some.ensures.enters.adds c.pull.ensures.legal in
    acts-pulled _ _ p c.source_end.ensures.adds c.source_end.ensures.legal (ends-source_end c.in-Some.source)

pub returns-in-Err-Failed-clause-acts : goal.returns-in-Err-Failed-clause-acts
returns-in-Err-Failed-clause-acts g c =
    let p = pulled c.requires.rests c.requires.nobody c.requires.no_queue c.in-Some.ensures.may c.in-Some.ensures.least c.in-Some.ensures.enters.adds c.pull.ensures.legal in
    acts-pulled _ _ p c.source_fault.ensures.adds c.source_fault.ensures.legal (ends-source_fault c.in-Some.source)

pub returns-in-Ok-Item-clause-drains : goal.returns-in-Ok-Item-clause-drains
returns-in-Ok-Item-clause-drains g c =
    let p = pulled c.requires.rests c.requires.nobody c.requires.no_queue c.in-Some.ensures.may c.in-Some.ensures.least c.in-Some.ensures.enters.adds c.pull.ensures.legal in
    drains-pulled _ _ _ _ _ p c.accept.ensures.adds (ends-accept c.in-Some.source c.in-Ok-Item.item c.in-Ok-Item.message)
    (rw (← c.set.ensures) (rw c.in-Ok-Item.field-0-is at c.in-Ok-Item.ensures.grew))

pub returns-in-Ok-Refused-clause-drains : goal.returns-in-Ok-Refused-clause-drains
returns-in-Ok-Refused-clause-drains g c =
    let p = pulled c.requires.rests c.requires.nobody c.requires.no_queue c.in-Some.ensures.may c.in-Some.ensures.least c.in-Some.ensures.enters.adds c.pull.ensures.legal in
    drains-pulled _ _ _ _ _ p c.refuse.ensures.adds (ends-refuse c.in-Some.source c.in-Ok-Refused.item c.refused.result)
    (rw (c.refused.ensures, ← c.set.ensures) (rw c.in-Ok-Refused.field-0-is at c.in-Ok-Refused.ensures.grew))

pub returns-in-Ok-End-clause-drains : goal.returns-in-Ok-End-clause-drains
returns-in-Ok-End-clause-drains g c =
    let p = pulled c.requires.rests c.requires.nobody c.requires.no_queue c.in-Some.ensures.may c.in-Some.ensures.least c.in-Some.ensures.enters.adds c.pull.ensures.legal in
    drains-pulled _ _ _ _ _ p c.source_end.ensures.adds (ends-source_end c.in-Some.source)
    (rw (← c.set.ensures) (rw c.in-Ok-End.field-0-is at c.in-Ok-End.ensures.grew))

pub returns-in-Err-Failed-clause-drains : goal.returns-in-Err-Failed-clause-drains
returns-in-Err-Failed-clause-drains g c =
    let p = pulled c.requires.rests c.requires.nobody c.requires.no_queue c.in-Some.ensures.may c.in-Some.ensures.least c.in-Some.ensures.enters.adds c.pull.ensures.legal in
    drains-pulled _ _ _ _ _ p c.source_fault.ensures.adds (ends-source_fault c.in-Some.source)
    (rw (← c.set.ensures) (rw c.in-Err-Failed.field-0-is at c.in-Err-Failed.ensures.grew))

pub returns-in-Err-NoMemory-clause-drains : goal.returns-in-Err-NoMemory-clause-drains
returns-in-Err-NoMemory-clause-drains g c =
    let p = pulled c.requires.rests c.requires.nobody c.requires.no_queue c.in-Some.ensures.may c.in-Some.ensures.least c.in-Some.ensures.enters.adds c.pull.ensures.legal in
    drains-still (drains-pull _ _ p) (LanesGrew-none 0 _) (rw (no-acts _ _) at (rw c.in-Err-NoMemory.field-0-is at c.in-Err-NoMemory.ensures.grew))
