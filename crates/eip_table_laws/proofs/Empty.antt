-- The tables before the first entry.
use Rattle.std.proofs.Common.{◌≡◌, ◌≤◌, ℕ, zero, suc, false, List, [], length, None, refl, sym}
use Rattle.std.proofs.lemmas.List.{append-nil}
use Rattle.eip_route.specs.declared.route.RouteSet.{RouteSet}
use Rattle.eip_history.specs.Own.{turns, clock, source_state, numbers_below}
use Rattle.eip_history.specs.Births.{story}
use Rattle.eip_history.specs.Place.{pulls_out}
use Rattle.eip_history.specs.Rules.{KeepsRules, served}
use Rattle.eip_history.specs.Stop.{first_fault}
use Rattle.eip_plan.specs.Plan.{plan_of}
use Rattle.eip_tables.specs.declared.row.SourceState.{SourceState}
use Rattle.eip_seda.specs.Consuming as seda
use Rattle.eip_seda.specs.Consuming.{QueueView}
use Rattle.eip_redelivery.specs.Sleep as sleep
use Rattle.eip_join.specs.Parts as join
use Rattle.eip_join.specs.Parts.{Open}
use Rattle.eip_aggregator.specs.Tables as tables
use Rattle.eip_aggregator.specs.Tables.{Table}
use Rattle.eip_idempotent.specs.Keys as repo
use Rattle.eip_idempotent.specs.Keys.{Table as KeyTable}
use Rattle.eip_tables.specs.Queues.{limits}
use Rattle.eip_tables.specs.Groups.{settings}
use Rattle.eip_tables.specs.Rows.{SourcesStand}
use Rattle.eip_table_laws.proofs.QueueCalls.{queues-none}
use Rattle.eip_table_laws.proofs.JoinsKept.{joins-none}
use Rattle.eip_table_laws.proofs.SleepersKept.{sleepers-none}
use Rattle.eip_table_laws.proofs.GroupsKept.{groups-none}
use Rattle.eip_table_laws.proofs.KeysKept.{keys-none}
use Rattle.eip_tables.specs.Stands.{Stands}

nobody-below : (n : ℕ) → length (numbers_below (λ t. false) n) ≡ 0
nobody-below n = none n
  where
    none : (n : ℕ) → length (numbers_below (λ t. false) n) ≡ 0
    none zero = refl
    none (suc n) = rw append-nil (none n)

pub first-tables : (set : RouteSet) (workers limit : ℕ) (sources : List SourceState) (queues : List QueueView) (joins : List (ℕ × Open)) (sleepers : List (ℕ × ℕ)) (groups : Table) (keys : KeyTable) → workers ≤ 16 → 1 ≤ limit → limit ≤ 1000000 → SourcesStand (plan_of set) [] sources → seda.Stands (limits set) [] queues → join.Stands [] joins → sleep.Stands [] sleepers → tables.Stands (settings set) [] groups → repo.Stands [] keys
    → Stands set workers limit [] (record { rows = []; ready = []; sources = sources; turns = 0; fault = None; notes = []; taken = 0; pulled = 0; live = 0; queues = queues; joins = joins; clock = 0; sleepers = sleepers; groups = groups; keys = keys })
unfolding KeepsRules story turns clock first_fault served pulls_out source_state
first-tables set workers limit sources queues joins sleepers groups keys few some most h empty closed awake none free = record {
  legal = record { few_workers = few; some_turns = some; few_turns = most; entries = tt };
  simple = tt;
  rows = tt;
  ready = refl;
  sources = h;
  turns = refl;
  fault = refl;
  notes = refl;
  taken = refl;
  pulled = sym (nobody-below (plan_of set).routes);
  live = refl;
  queues = queues-none set queues empty;
  joins = joins-none set joins closed;
  clock = refl;
  sleepers = sleepers-none set sleepers awake;
  groups = groups-none set groups none;
  keys = keys-none set keys free;
}
