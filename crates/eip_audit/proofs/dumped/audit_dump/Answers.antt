use Rattle.std.proofs.Common.{length, refl}
use Rattle.eip_dump.specs.Dump.{first_text}
use Rattle.eip_audit.proofs.Walk.{audited, left_behind}
use Rattle.eip_audit.proofs.dumped.audit_dump.Goals as goal

pub returns : goal.returns
returns c =
    let split = rw c.as_slice.ensures.value at c.in_ok-first.ensures.1 in
    let left = left_behind (first_text c.in_ok-first.first) c.in_ok-first.rest.now c.args.bytes.items (length c.in_ok-first.rest.now) split refl in
    let judged = rw (c.leave.ensures, c.new-lines.ensures, left) at c.verdict_on-verdict.ensures in
    audited c.args.set c.in_ok-auditor.auditor.books c.in_ok-first.first c.args.bytes.items c.in_ok-first.rest.now c.verdict_on-verdict.result split c.in_ok-first.ensures.0 c.in_ok-auditor.ensures.set c.in_ok-auditor.ensures.workers
    c.in_ok-auditor.ensures.turns judged
