use Rattle.std.proofs.Common.{◌≡◌, ℕ, List, length}
use Rattle.eip_seda.specs.Consuming.{Call, Stands}
use Rattle.eip_table_runs.proofs.queues.out_of_turn.Given as goal

abbrev pub invariant-loop-turn : goal.invariant-loop-turn
invariant-loop-turn l = record {
  as_many : length l.queues ≡ 4;
  stands : (limits : List (ℕ × ℕ)) × ((calls : List Call) × Stands limits calls l.queues);
}
