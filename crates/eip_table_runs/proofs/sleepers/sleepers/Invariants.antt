use Rattle.std.proofs.Common.{◌≡◌, ℕ, ◌<◌, List, None}
use Rattle.eip_redelivery.specs.Sleep.{Call, Stands, sleeps}
use Rattle.eip_table_runs.proofs.sleepers.sleepers.Given as goal

abbrev pub invariant-loop-at : goal.invariant-loop-at
invariant-loop-at l = (calls : List Call) × Stands calls l.retries × ((x : ℕ) → l.at < x → sleeps calls x ≡ None)
