-- What is always true of a journal of a valid set that keeps the rules.
use Rattle.std.specs.Prelude.{ℕ, ◌≡◌, true, false, List, [], ◌∷◌, Some, Ok, is_some, length, map, take}
use Rattle.eip_exchange.specs.declared.birth.Care.TheVariants.{Full}
use Rattle.eip_exchange.specs.declared.message.Message.{Message}
use Rattle.eip_exchange.specs.declared.setting.How.TheVariants.{Batch}
use Rattle.eip_exchange.specs.declared.setting.Key.{Key}
use Rattle.eip_exchange.specs.declared.setting.Strategy.TheVariants as strategy
use Rattle.eip_frames.specs.declared.answer.Completion.{Completion}
use Rattle.eip_splitter.specs.Batches.{AreHeld, IsBatchOf}
use Rattle.eip_route.specs.Valid.{IsValid}
use Rattle.eip_route.specs.declared.route.RouteSet.{RouteSet}
use Rattle.eip_route.specs.declared.step.Aggregate.{Aggregate}
use Rattle.eip_route.specs.declared.step.Fan.{Fan}
use Rattle.eip_route.specs.declared.step.Step.TheVariants.{Split}
use Rattle.eip_history.specs.Own.{Past, numbered, own, starved}
use Rattle.eip_history.specs.Groups.{Arrival, Group}
use Rattle.eip_history.specs.Births.{births, groups, group_birth}
use Rattle.eip_history.specs.Place.{ended}
use Rattle.eip_history.specs.Rules.{KeepsRules}
use Rattle.eip_meaning.specs.FanOuts.{cut}
use Rattle.eip_meaning.specs.Meaning.{steps_of}
use Rattle.eip_meaning.specs.Parts.{block_seed}
use Rattle.eip_plan.specs.Plan.{plan_of, aggregator_among}
use Rattle.eip_plan_laws.specs.Parts.{parts_asked}

-- the messages of a group's arrivals, in order
abbrev pub arrived_messages : Group → List Message
arrived_messages g = map (λ (p : Arrival). p.message) g.parts

-- a closed group of a resequencer. Its exchange has one step, the split of the batch, whose parts are the messages of the group's arrivals in the
-- order of their keys; the first parts that the exchange has asked for are the first of these, in this order, and all of them once it has ended, but
-- for one that was starved
pub record IsResequenced (set : RouteSet) (past : Past) (g : Group) (c : Completion) : Type 0 where
  pub exchange : ℕ
  pub born : numbered (births (plan_of set) past) exchange ≡ Some (group_birth (plan_of set) exchange c g)
  pub key : Key
  pub fan : Fan
  pub block : ℕ
  pub step : steps_of set g.aggregator ≡ Split (Batch key) fan block ∷ []
  pub parts : List Message
  pub cut_is : cut (Batch key) (group_birth (plan_of set) exchange c g).message ≡ Ok parts
  pub batch : IsBatchOf key (arrived_messages g) (Ok parts)
  pub first : take (length parts) (parts_asked (plan_of set) past exchange)
      ≡ take (length (parts_asked (plan_of set) past exchange)) (map (block_seed Full block) parts)
  pub all : is_some (ended (plan_of set) past exchange) ≡ true → starved (own exchange past) ≡ false
      → take (length parts) (parts_asked (plan_of set) past exchange) ≡ map (block_seed Full block) parts

-- each closed group of an aggregator that gathers batches is resequenced, where its arrivals have headers and properties as a message holds them
abbrev pub BatchesResequenced : Type 0
BatchesResequenced = (set : RouteSet) (workers limit : ℕ) (past : Past) (n : ℕ) (g : Group) (c : Completion) (a : Aggregate) → IsValid set
    → KeepsRules (plan_of set) workers limit past → numbered (groups (plan_of set) past) n ≡ Some g → g.closed ≡ Some c
    → aggregator_among g.aggregator set.blocks ≡ Some a → a.strategy ≡ strategy.Batch → AreHeld (arrived_messages g) → IsResequenced set past g c
