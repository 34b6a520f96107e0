-- A table of the groups of one aggregator.
use Rattle.std.specs.Prelude.{ℕ, ◌≤◌, List, length}
use Rattle.eip_route.specs.declared.step.Aggregate.{Aggregate}
use Rattle.eip_aggregator.specs.Arrivals.{Call}
use Rattle.eip_aggregator.specs.Tables.{Table, Stands}

-- it stands for so many calls at most, in which each aggregator was set so
pub record AreOf (a : Aggregate) (most : ℕ) (t : Table) : Type 0 where
  pub calls : List Call
  pub stands : Stands (λ block. a) calls t
  pub few : length calls ≤ most
