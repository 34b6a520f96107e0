use Rattle.std.proofs.Common.{◌≡◌, ℕ, List, length}
use Rattle.eip_seda.specs.Consuming.{Call, Stands}
use Rattle.eip_table_runs.proofs.queues.many_waiting.Given as goal

abbrev pub invariant-loop-number : goal.invariant-loop-number
invariant-loop-number l = record {
  as_many : length l.queues ≡ 4;
  stands : (limits : List (ℕ × ℕ)) × ((calls : List Call) × Stands limits calls l.queues);
}
