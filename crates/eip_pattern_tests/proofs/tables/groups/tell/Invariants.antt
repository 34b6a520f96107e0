use Rattle.eip_table_runs.specs.Arriving.{AreOf}
use Rattle.eip_pattern_tests.proofs.tables.groups.tell.Given as goal

abbrev pub invariant-loop-call : goal.invariant-loop-call
invariant-loop-call l = AreOf l.setting l.most l.groups
