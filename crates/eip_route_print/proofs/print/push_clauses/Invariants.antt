use Rattle.std.proofs.Common.{◌≡◌, ◌++◌, drop}
use Rattle.eip_route_print.specs.Seen.{clauses_in}
use Rattle.eip_route_canonical.specs.Trees.{values_of}
use Rattle.eip_route_print.proofs.print.push_clauses.Given as goal

abbrev pub invariant-loop-clause : goal.invariant-loop-clause
invariant-loop-clause l = values_of l.items.items ++ clauses_in l.blocks (drop l.clause-index l.clauses) ≡ values_of l.fn.items.items ++ clauses_in l.blocks l.clauses
