-- The plan of a route set: what its journals are read by.
use Rattle.std.specs.Prelude.{ℕ, suc, Bool, false, cond, eqb, List, [], ◌∷◌, Option, Some, None, is_some, unwrap_or, length, slice_get, max, Result, Ok, Err}
use Rattle.std.specs.List.{list_any, position}
use Rattle.eip_exchange.specs.declared.message.Message.{Message}
use Rattle.eip_exchange.specs.declared.setting.Strategy.TheVariants.{Latest}
use Rattle.eip_strategy.specs.Adding.{added}
use Rattle.eip_strategy.specs.declared.fault.StrategyFault.{StrategyFault}
use Rattle.eip_simple_read.specs.declared.tree.Predicate.{Predicate}
use Rattle.eip_simple.specs.Holding.{predicate_holds}
use Rattle.eip_uri.specs.Inlets.{inlet_of}
use Rattle.eip_uri.specs.declared.uri.Uri.{Uri}
use Rattle.eip_uri.specs.declared.uri.Uri.TheVariants as uri
use Rattle.eip_route.specs.Faults.{steps_numbers}
use Rattle.eip_route.specs.declared.step.Aggregate.{Aggregate}
use Rattle.eip_route.specs.declared.step.Expr.TheVariants.{Constant}
use Rattle.eip_route.specs.declared.step.Step.{Step}
use Rattle.eip_route.specs.declared.step.Step.TheVariants as step
use Rattle.eip_route.specs.declared.route.Block.{Block}
use Rattle.eip_route.specs.declared.route.Route.{Route}
use Rattle.eip_route.specs.declared.route.RouteSet.{RouteSet}
use Rattle.eip_meaning.specs.Values.{id_of}
use Rattle.eip_meaning.specs.Sends.{is_queue}
use Rattle.eip_meaning.specs.Parts.{fault_of_strategy}
use Rattle.eip_meaning.specs.Meaning.{mean}
use Rattle.eip_history.specs.Plan.{Plan, QueueRule, GroupRule, Added, Gives, Faults}

-- ---- routes

abbrev pub is_source_route : Option Route → Bool
is_source_route None = false
is_source_route (Some r) = is_some (inlet_of r.from)

abbrev pub block_of_route : Option Route → ℕ
block_of_route None = 0
block_of_route (Some r) = r.block

-- ---- queues

-- a queue of which nothing is said
abbrev pub plain_queue : QueueRule
plain_queue = record { size = 1000; consumers = 1 }

-- a queue has a consumer at least
abbrev pub queue_rule : Uri → QueueRule
queue_rule (uri.Seda name size consumers discard) = record { size = size; consumers = max 1 consumers }
queue_rule _ = plain_queue

abbrev pub queue_of_route : Option Route → QueueRule
queue_of_route None = plain_queue
queue_of_route (Some r) = queue_rule r.from

-- ---- groups

-- the aggregator of a step, where it runs the block a
abbrev pub aggregator_of : ℕ → Step → Option Aggregate
aggregator_of a (step.Aggregate g) = cond (eqb g.block a) (Some g) None
aggregator_of a _ = None

abbrev pub or_aggregator : Option Aggregate → Option Aggregate → Option Aggregate
or_aggregator None o = o
or_aggregator (Some g) o = Some g

abbrev pub aggregator_in : ℕ → List Step → Option Aggregate
aggregator_in a [] = None
aggregator_in a (s ∷ ss) = or_aggregator (aggregator_of a s) (aggregator_in a ss)

abbrev pub aggregator_among : ℕ → List Block → Option Aggregate
aggregator_among a [] = None
aggregator_among a (b ∷ bs) = or_aggregator (aggregator_in a b.steps) (aggregator_among a bs)

-- is this the number of a block that stands in a step of this block
abbrev pub stands_in : ℕ → Block → Bool
stands_in c b = list_any (λ i. eqb i c) (steps_numbers b.steps)

-- the outermost block around a block among these, the first of which has the number `here`, or the block itself: a block stands only
-- in blocks with lesser numbers
abbrev pub outermost : (here : ℕ) → List Block → ℕ → ℕ
outermost here [] a = a
outermost here (b ∷ bs) a = cond (stands_in (outermost (suc here) bs a) b) here (outermost (suc here) bs a)

-- the route in whose blocks block a stands; one of a clause's blocks is the first route's
abbrev pub route_around : RouteSet → ℕ → ℕ
route_around set a = unwrap_or (position (λ r. eqb r.block (outermost 0 set.blocks a)) set.routes) 0

abbrev pub added_one : Result Message StrategyFault → Added
added_one (Ok m) = Gives m
added_one (Err f) = Faults (fault_of_strategy f)

-- a predicate closes a group as the exchange with this number shows its message in this route
abbrev pub closed_by : RouteSet → Option Predicate → ℕ → ℕ → Message → Bool
closed_by set None number route m = false
closed_by set (Some p) number route m = predicate_holds p (record { message = m; number = number; route = id_of set route })

-- an aggregator of which nothing is said: each message takes the place of those before it, and nothing closes its groups
abbrev pub plain_aggregate : ℕ → Aggregate
plain_aggregate a = record { key = Constant []; strategy = Latest; predicate = None; size = None; timeout = None; force = false; block = a }

-- the setting of the aggregator whose groups run block a
abbrev pub setting_of : RouteSet → ℕ → Aggregate
setting_of set a = unwrap_or (aggregator_among a set.blocks) (plain_aggregate a)

abbrev pub group_rule : RouteSet → ℕ → Aggregate → GroupRule
group_rule set a g = record {
  size = g.size;
  timeout = g.timeout;
  force = g.force;
  closes = λ number route m. closed_by set g.predicate number route m;
  add = λ old m. added_one (added g.strategy old m);
  route = route_around set a;
}

unfoldable pub plan_of : RouteSet → Plan
plan_of set = record {
  mean = mean set;
  routes = length set.routes;
  is_source = λ r. is_source_route (slice_get set.routes r);
  is_queue = λ r. is_queue set r;
  block_of = λ r. block_of_route (slice_get set.routes r);
  queue = λ r. queue_of_route (slice_get set.routes r);
  group = λ a. group_rule set a (setting_of set a);
}
