use Rattle.std.proofs.Common.{◌≡◌, drop}
use Rattle.eip_route.specs.Faults.{both}
use Rattle.eip_route.proofs.fault.handled_and_continued.Given as goal

abbrev pub invariant-loop-clause : goal.invariant-loop-clause
invariant-loop-clause l = both 0 l.clauses ≡ both l.index (drop l.clause-index l.clauses)
