use Rattle.eip_audit.proofs.Judged.{HasJudged}
use Rattle.eip_audit.proofs.whole.verdict_by.Given as goal

abbrev pub invariant-loop-index : goal.invariant-loop-index
invariant-loop-index l = HasJudged l.fn.auditor.books.set l.journal l.entries l.index l.auditor
