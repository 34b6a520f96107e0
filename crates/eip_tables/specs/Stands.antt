-- The tables of the books, and the history that they stand for.
use Rattle.std.specs.Prelude.{ℕ, ◌≡◌, List, Option}
use Rattle.eip_route.specs.declared.route.RouteSet.{RouteSet}
use Rattle.eip_ledger.specs.declared.place.Note.{Note}
use Rattle.eip_history.specs.Own.{Past, clock, turns}
use Rattle.eip_history.specs.Births.{births}
use Rattle.eip_history.specs.Place.{pulls_out}
use Rattle.eip_history.specs.Rules.{IsLegal}
use Rattle.eip_history.specs.Stop.{first_fault}
use Rattle.eip_history.specs.Tables.{Related}
use Rattle.eip_history.specs.Texts.{notes}
use Rattle.eip_plan.specs.Plan.{plan_of}
use Rattle.eip_plan.specs.Simple.{AnswersSimply}
use Rattle.eip_seda.specs.Consuming.{QueueView}
use Rattle.eip_join.specs.Parts.{Open}
use Rattle.eip_aggregator.specs.Tables.{Table}
use Rattle.eip_idempotent.specs.Keys.{Table as KeyTable}
use Rattle.eip_tables.specs.Row.{Row}
use Rattle.eip_tables.specs.declared.row.SourceState.{SourceState}
use Rattle.eip_tables.specs.Numbers.{row_numbers, row_count}
use Rattle.eip_tables.specs.Queues.{QueuesStand}
use Rattle.eip_tables.specs.Joins.{JoinsStand}
use Rattle.eip_tables.specs.Sleepers.{SleepersStand}
use Rattle.eip_tables.specs.Groups.{GroupsStand}
use Rattle.eip_tables.specs.Keys.{KeysStand}
use Rattle.eip_tables.specs.Rows.{RowStands, SourcesStand, row_ready, row_held, row_live}

pub record Tables : Type 0 where
  -- one for each exchange, by number from 1
  pub rows : List Row
  -- the numbers of the Ready exchanges, the least first
  pub ready : List ℕ
  -- one for each route
  pub sources : List SourceState
  pub turns : ℕ
  -- the first source that failed
  pub fault : Option ℕ
  -- the lines of the log
  pub notes : List Note
  -- how many exchanges are in hand
  pub taken : ℕ
  -- how many sources have been pulled without an answer yet
  pub pulled : ℕ
  -- how many exchanges have not ended
  pub live : ℕ
  -- one for each route
  pub queues : List QueueView
  -- the open joins, by the number of the parent
  pub joins : List (ℕ × Open)
  -- the moment of the last tick
  pub clock : ℕ
  -- who sleeps, by moment and number
  pub sleepers : List (ℕ × ℕ)
  -- the open groups of the aggregators
  pub groups : Table
  -- who claimed and who holds each key
  pub keys : KeyTable

-- the tables stand for the history of a set, a fact for each table
pub record Stands (set : RouteSet) (workers limit : ℕ) (past : Past) (t : Tables) : Type 0 where
  pub legal : IsLegal (plan_of set) workers limit past
  -- nothing but requests whose answers the tables know is answered
  pub simple : AnswersSimply past
  pub rows : Related (RowStands set past) (births (plan_of set) past) t.rows
  pub ready : t.ready ≡ row_numbers row_ready 1 t.rows
  pub sources : SourcesStand (plan_of set) past t.sources
  pub turns : t.turns ≡ turns past
  pub fault : t.fault ≡ first_fault past
  pub notes : t.notes ≡ notes (plan_of set) past
  pub taken : t.taken ≡ row_count row_held t.rows
  pub pulled : t.pulled ≡ pulls_out (plan_of set) past
  pub live : t.live ≡ row_count row_live t.rows
  pub queues : QueuesStand set past t.queues
  pub joins : JoinsStand set past t.joins
  pub clock : t.clock ≡ clock past
  pub sleepers : SleepersStand set past t.sleepers
  pub groups : GroupsStand set past t.groups
  pub keys : KeysStand set past t.keys
