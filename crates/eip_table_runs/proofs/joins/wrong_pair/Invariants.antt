use Rattle.std.proofs.Common.{List}
use Rattle.eip_join.specs.Parts.{Call, Stands}
use Rattle.eip_table_runs.proofs.joins.wrong_pair.Given as goal

abbrev pub invariant-loop-turn : goal.invariant-loop-turn
invariant-loop-turn l = (calls : List Call) × Stands calls l.joins
