-- How a table of sleepers stands for a history and for the rows, and whom a tick wakes.
use Rattle.std.specs.Prelude.{ℕ, ◌≡◌, ◌+◌, min, nat_lt, cond, List, map, Option, Some, None}
use Rattle.eip_route.specs.declared.route.RouteSet.{RouteSet}
use Rattle.eip_redelivery.specs.Sleep as sleep
use Rattle.eip_redelivery.specs.Sleep.{Call}
use Rattle.eip_history.specs.Own.{Past, numbered}
use Rattle.eip_history.specs.TableWords.{sleeps}
use Rattle.eip_plan.specs.Plan.{plan_of}
use Rattle.eip_tables.specs.Row.{Row}
use Rattle.eip_tables.specs.Moves.{woken}
use Rattle.eip_tables.specs.State.{State, state_of}
use Rattle.eip_tables.specs.State as state

-- the moment that so many ticks from now are, at most the last one
abbrev pub due_moment : (now ticks : ℕ) → ℕ
due_moment now ticks = min (now + ticks) 18446744073709551615

-- the sooner of two moments, where there are any
abbrev pub sooner : Option ℕ → Option ℕ → Option ℕ
sooner None o = o
sooner (Some a) None = Some a
sooner (Some a) (Some b) = Some (min a b)

-- the table stands for a list of calls by which the same exchanges sleep, each until the same moment
pub record SleepersStand (set : RouteSet) (past : Past) (sleepers : List (ℕ × ℕ)) : Type 0 where
  pub calls : List Call
  pub stands : sleep.Stands calls sleepers
  pub moments : (x : ℕ) → sleep.sleeps calls x ≡ sleeps (plan_of set) past x

-- ---- rows

-- until when an exchange sleeps, as its row tells it
abbrev pub state_due : State → Option ℕ
state_due (state.Asleep c i due) = Some due
state_due _ = None

abbrev pub row_due : Row → Option ℕ
row_due r = state_due (state_of r)

abbrev pub due_in : Option Row → Option ℕ
due_in (Some r) = row_due r
due_in None = None

-- until when the exchange with a number sleeps
abbrev pub due_at : List Row → ℕ → Option ℕ
due_at rows x = due_in (numbered rows x)

-- the table stands for a list of calls by which those sleep whose rows tell it
pub record SleepersTold (rows : List Row) (sleepers : List (ℕ × ℕ)) : Type 0 where
  pub calls : List Call
  pub stands : sleep.Stands calls sleepers
  pub moments : (x : ℕ) → sleep.sleeps calls x ≡ due_at rows x

-- at a tick whoever sleeps until a moment that is not beyond it wakes
abbrev pub roused_by : (now : ℕ) → State → Row → Row
roused_by now (state.Asleep c i due) r = cond (nat_lt now due) r (woken r)
roused_by now _ r = r

abbrev pub roused : (now : ℕ) → Row → Row
roused now r = roused_by now (state_of r) r

abbrev pub roused_rows : (now : ℕ) → List Row → List Row
roused_rows now rows = map (roused now) rows
