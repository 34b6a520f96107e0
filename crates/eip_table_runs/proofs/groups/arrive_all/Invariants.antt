use Rattle.std.proofs.Common.{◌+◌}
use Rattle.eip_table_runs.specs.Arriving.{AreOf}
use Rattle.eip_table_runs.proofs.groups.arrive_all.Given as goal

abbrev pub invariant-loop-at : goal.invariant-loop-at
invariant-loop-at l = AreOf l.fn.setting (l.fn.most + l.at) l.groups
