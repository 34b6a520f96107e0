use Rattle.std.proofs.Common.{length}
use Rattle.eip_audit.proofs.Walk.{Walked}
use Rattle.eip_audit.proofs.dumped.verdict_on.Given as goal

abbrev pub invariant-loop-rest : goal.invariant-loop-rest
invariant-loop-rest l = Walked l.fn.auditor.books.set l.fn.auditor.books.journal.workers l.fn.auditor.books.journal.turns l.count l.fn.lines l.rest l.entries l.auditor l.found

abbrev pub decreases-loop-rest : goal.decreases-loop-rest
decreases-loop-rest l = length l.rest
