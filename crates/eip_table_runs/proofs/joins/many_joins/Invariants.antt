use Rattle.eip_table_runs.specs.Backwards.{AreBegun}
use Rattle.eip_table_runs.proofs.joins.many_joins.Given as goal

abbrev pub invariant-loop-at : goal.invariant-loop-at
invariant-loop-at l = AreBegun l.at l.joins
