-- How an exchange comes to its aggregator, and what comes of it.
use Rattle.std.specs.Prelude.{ℕ, ◌≡◌, ◌<◌, List, ◌∷◌, Option, Some, None, Ok, Err, length}
use Rattle.eip_exchange.specs.declared.message.Message.{Message}
use Rattle.eip_route.specs.declared.route.RouteSet.{RouteSet}
use Rattle.eip_frames.specs.declared.request.Request.TheVariants.{Arrive}
use Rattle.eip_aggregator.specs.Arrivals.{Call, Came}
use Rattle.eip_aggregator.specs.Tables as tables
use Rattle.eip_aggregator.specs.Tables.{Table, added_at, answer_at}
use Rattle.eip_aggregator.specs.declared.closed.Arrived.{Arrived}
use Rattle.eip_aggregator.specs.declared.closed.Closed.{Closed}
use Rattle.eip_strategy.specs.declared.fault.StrategyFault.{StrategyFault}
use Rattle.eip_meaning.specs.Parts.{fault_of_strategy}
use Rattle.eip_tables.specs.Row.{Row}
use Rattle.eip_tables.specs.Groups.{settings, coming}
use Rattle.eip_rows.specs.declared.coming.Coming.{Coming}
use Rattle.eip_rows.specs.declared.coming.Coming.TheVariants.{Open, Shut, Unfit}

-- an exchange that asks an aggregator to take its message
pub record IsComing (r : Row) : Type 0 where
  pub aggregator : ℕ
  pub key : List ℕ
  pub message : Message
  pub asks : r.request ≡ Some (Arrive aggregator key message)

-- the table stands for calls, fewer than there are moments, by the settings of the set's aggregators
pub record IsToldOf (set : RouteSet) (t : Table) : Type 0 where
  pub calls : List Call
  pub stands : tables.Stands (settings set) calls t
  pub few : length calls < 18446744073709551615

-- the strategy could add it, and this is its group with what became of it
pub record Joins (set : RouteSet) (r : Row) (a : ℕ) (key : List ℕ) (m : Message) (number clock : ℕ) (old new : Table) (answer : Arrived) : Type 0 where
  pub came : (calls : List Call) → tables.Stands (settings set) calls old → tables.Stands (settings set) (Came (a, key) (coming set number clock r m) ∷ calls) new
  pub adds : (calls : List Call) → tables.Stands (settings set) calls old → (sum : Message) × (added_at (settings set) calls (a, key) (coming set number clock r m) ≡ Ok sum)
  pub answers : (calls : List Call) → tables.Stands (settings set) calls old → answer ≡ answer_at (settings set) calls (a, key) (coming set number clock r m)

-- the strategy could not add it
pub record IsUnfit (set : RouteSet) (r : Row) (a : ℕ) (key : List ℕ) (m : Message) (number clock : ℕ) (old : Table) (f : StrategyFault) : Type 0 where
  pub says : (calls : List Call) → tables.Stands (settings set) calls old → added_at (settings set) calls (a, key) (coming set number clock r m) ≡ Err f

-- an answered arrival as it is told
abbrev pub outcome_by : ℕ → Option Closed → Coming
outcome_by group None = Open group
outcome_by group (Some closed) = Shut closed

abbrev pub outcome : Arrived → Coming
outcome r = outcome_by r.group r.closed

abbrev pub Comes : RouteSet → Row → ℕ → List ℕ → Message → (number clock : ℕ) → (old new : Table) → Coming → Type 0
Comes set r a key m number clock old new (Open group) = Joins set r a key m number clock old new (record { group = group; closed = None })
Comes set r a key m number clock old new (Shut closed) = (group : ℕ) × Joins set r a key m number clock old new (record { group = group; closed = Some closed })
Comes set r a key m number clock old new (Unfit fault) = (f : StrategyFault) × (fault ≡ fault_of_strategy f) × IsUnfit set r a key m number clock old f × (new ≡ old)

abbrev pub ComesTo : RouteSet → Row → (number clock : ℕ) → (old new : Table) → Coming → Type 0
ComesTo set r number clock old new came = (a : ℕ) (key : List ℕ) (m : Message) → r.request ≡ Some (Arrive a key m) → Comes set r a key m number clock old new came
