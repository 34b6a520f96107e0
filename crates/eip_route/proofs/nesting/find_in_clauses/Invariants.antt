use Rattle.std.proofs.Common.{◌≡◌, drop}
use Rattle.eip_route.specs.Faults.{first_some, found, clauses_numbers}
use Rattle.eip_route.proofs.nesting.find_in_clauses.Given as goal

abbrev pub invariant-loop-clause : goal.invariant-loop-clause
invariant-loop-clause l = first_some (found l.blocks l.wanted) (clauses_numbers l.clauses) ≡ first_some (found l.blocks l.wanted) (clauses_numbers (drop l.clause-index l.clauses))
