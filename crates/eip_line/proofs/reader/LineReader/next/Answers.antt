use Rattle.std.proofs.Common.{◌<◌, ◌≤◌, arith}
use Rattle.eip_line.specs.Lines.{line_length}
use Rattle.eip_line.proofs.ReaderLaws.{known-ended, known-last, next-endless, still-short}
use Rattle.eip_line.proofs.reader.LineReader.next.Goals as goal

pub returns-then-end-bytes-clause-took : goal.returns-then-end-bytes-clause-took
returns-then-end-bytes-clause-took g c =
    known-ended _ _ c.in-Ok.end c.args.self.now.buffer c.gather.new.self c.gather.ensures.gathered.more c.give_ended.new.self.buffer _ _ _
    c.gather.ensures.gathered.behind c.gather.ensures.gathered.consumed c.in-Ok.ensures.gathered.enough.first c.if-end-ge-LONGEST.false
    (rw c.bytes.ensures at c.if-end-bytes.true) c.give_ended.ensures.took

pub returns-clause-took : goal.returns-clause-took
returns-clause-took g c =
    known-last _ _ c.in-Ok.end c.args.self.now.buffer c.gather.new.self c.gather.ensures.gathered.more c.give_last.new.self.buffer _ _ _
    c.gather.ensures.gathered.behind c.gather.ensures.gathered.consumed c.in-Ok.ensures.gathered.enough.first c.in-Ok.ensures.gathered.enough.all c.if-end-ge-LONGEST.false
    (rw c.bytes.ensures at c.if-end-bytes.false) c.give_last.ensures.took

pub returns-then-end-ge-LONGEST-clause-ready : goal.returns-then-end-ge-LONGEST-clause-ready
returns-then-end-ge-LONGEST-clause-ready g c = λ line.
    let short : c.in-Ok.end < 1048576 =
    still-short c.args.self.now.buffer c.gather.ensures.gathered.more c.gather.new.self c.in-Ok.end
    c.gather.ensures.gathered.behind c.in-Ok.ensures.gathered.enough.first line in
    absurd (omega (arith, short, c.if-end-ge-LONGEST.true))

pub returns-then-end-ge-LONGEST-clause-endless : goal.returns-then-end-ge-LONGEST-clause-endless
returns-then-end-ge-LONGEST-clause-endless g c = λ _.
    let long : 1048576 ≤ line_length c.gather.new.self = omega (arith, c.in-Ok.ensures.gathered.enough.first, c.if-end-ge-LONGEST.true) in
    next-endless c.gather.new.self long
