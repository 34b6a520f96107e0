use Rattle.std.proofs.Common.{length, refl, arith}
use Rattle.std.proofs.lemmas.Option.{slice_get_read}
use Rattle.eip_audit.proofs.Judged.{judged-more, judged-wrong, judged-all}
use Rattle.eip_audit.proofs.whole.verdict_by.Goals as goal

pub loop-index-init : goal.loop-index-init
loop-index-init c = record { set_is = refl; workers = c.requires.workers; turns = c.requires.turns; past = c.requires.past; holds = c.requires.holds }

pub loop-index-preserved : goal.loop-index-preserved
loop-index-preserved c =
    let at = slice_get_read c.entries-entries.result.now (length c.entries-entries.result.now) c.loop-index.index c.index-entries-index.result refl c.loop-index-test.true c.index-entries-index.is in
    let told = rw c.if-not-kept.false at c.in_ok-kept.ensures in
    judged-more c.args.auditor.now.books.set c.args.journal.now c.entries-entries.result.now c.loop-index.index c.loop-index.auditor c.loop-index.invariant c.index-entries-index.result at c.judge.new.self told

pub judge-requires : goal.judge-requires
judge-requires c = record { holds = c.loop-index.invariant.holds }

pub returns-then-not-kept : goal.returns-then-not-kept
returns-then-not-kept c =
    let at = slice_get_read c.entries-entries.result.now (length c.entries-entries.result.now) c.loop-index.index c.index-entries-index.result refl c.loop-index-test.true c.index-entries-index.is in
    let told = rw c.if-not-kept.true at c.in_ok-kept.ensures in
    let wrong = judged-wrong c.args.auditor.now.books.set c.args.journal.now c.entries-entries.result.now c.loop-index.index c.loop-index.auditor c.loop-index.invariant c.index-entries-index.result at c.entries-entries.ensures told in
    rw c.rule_of.ensures wrong

pub returns : goal.returns
returns c =
    judged-all c.args.auditor.now.books.set c.args.journal.now c.entries-entries.result.now c.loop-index.index c.loop-index.auditor c.loop-index.invariant c.entries-entries.ensures (omega (arith, c.loop-index-test.false))
