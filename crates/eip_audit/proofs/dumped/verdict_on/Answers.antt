use Rattle.std.proofs.Common.{rules, ◌<◌, ◌^◌}
use Rattle.eip_dump.proofs.ReadLines.{shorter}
use Rattle.eip_dump.specs.Lines.{entry_text}
use Rattle.eip_audit.proofs.Walk.{walk_on, walked_wrong, left_behind}
use Rattle.eip_audit.proofs.dumped.verdict_on.Goals as goal

pub loop-rest-smaller : goal.loop-rest-smaller
loop-rest-smaller c =
    let read = rw c.in-Some.is at c.in_ok-entry.ensures in
    let left = left_behind (entry_text c.in-Some.entry) read.0 c.loop-rest.rest c.in-Some.left read.2.2 read.1 in
    rw (c.leave.ensures, left) (shorter c.loop-rest.rest read.0 c.in-Some.entry read.2.2)

pub loop-rest-preserved : goal.loop-rest-preserved
loop-rest-preserved c =
    let read = rw c.in-Some.is at c.in_ok-entry.ensures in
    let left = left_behind (entry_text c.in-Some.entry) read.0 c.loop-rest.rest c.in-Some.left read.2.2 read.1 in
    rw (c.leave.ensures, left) (walk_on _ _ _ c.args.count c.args.lines c.loop-rest.rest read.0 c.loop-rest.entries c.loop-rest.auditor _ c.loop-rest.found _ c.in-Some.entry c.loop-rest.invariant read.2 c.in_ok-found.ensures)

pub returns-in-Some-found : goal.returns-in-Some-found
returns-in-Some-found c =
    let last = rw c.in_default.is at c.in_ok-entry.ensures in
    let fits : c.loop-rest.entries < 2 ^ 64 = search rules in
    let walked = rw c.in-Some-found.is at c.loop-rest.invariant in
    walked_wrong _ _ _ c.args.count c.args.lines c.loop-rest.rest c.loop-rest.entries c.loop-rest.auditor fits last c.in-Some-found.verdict walked
