use Rattle.std.proofs.Common.{ap, arith}
use Rattle.eip_ledger.specs.View.{JournalView}
use Rattle.eip_audit.proofs.Entering.{judged-entry}
use Rattle.eip_audit.proofs.auditor.Auditor.judge.Goals as goal

pub returns-then-entry-workers : goal.returns-then-entry-workers
returns-then-entry-workers c = λ keeps.
    let many = ap (λ (j : JournalView). j.workers) c.journal.ensures.journal in
    let is = c.workers-workers.ensures in
    let worker = keeps.0 in
    omega (arith, worker, many, is, c.if-entry-workers.true)

pub returns : goal.returns
returns c = judged-entry c.args.self.now c.judge_kind.new.self c.args.entry.now c.judge_kind.result c.judge_kind.ensures
