-- How a table of queues stands for a history: it stands for a list of calls by which the same exchanges wait, and as many are at work.
use Rattle.std.specs.Prelude.{ℕ, ◌≡◌, ◌<◌, ◌≤◌, List, ◌∷◌, length, map}
use Rattle.eip_route.specs.declared.route.Route.{Route}
use Rattle.eip_route.specs.declared.route.RouteSet.{RouteSet}
use Rattle.eip_seda.specs.Consuming as seda
use Rattle.eip_seda.specs.Consuming.{Call, Ended, QueueView}
use Rattle.eip_history.specs.Plan.{QueueRule}
use Rattle.eip_history.specs.Own.{Past}
use Rattle.eip_history.specs.Place.{waiting, busy}
use Rattle.eip_plan.specs.Plan.{plan_of, queue_rule}
use Rattle.eip_tables.specs.declared.row.Born.{Born}
use Rattle.eip_tables.specs.declared.row.Born.TheVariants as born

abbrev pub limit_of : QueueRule → ℕ × ℕ
limit_of q = (q.size, q.consumers)

-- how many may wait in the queue of each route, and how many may be at work on it, by the index of the route
abbrev pub limits : RouteSet → List (ℕ × ℕ)
limits set = map (λ (r : Route). limit_of (queue_rule r.from)) set.routes

pub record QueuesStand (set : RouteSet) (past : Past) (queues : List QueueView) : Type 0 where
  pub calls : List Call
  pub stands : seda.Stands (limits set) calls queues
  pub waits : (q : ℕ) → seda.waiting calls q ≡ waiting (plan_of set) past q
  pub works : (q : ℕ) → seda.busy calls q ≡ busy (plan_of set) past q
  -- no more wait than may
  pub room : (q : ℕ) → length (waiting (plan_of set) past q) ≤ ((plan_of set).queue q).size

-- who came through a queue is at work on it until it ends
abbrev pub MayLeave : Born → List QueueView → Type 0
MayLeave (born.Copy q) queues = (q < length queues) × (0 < seda.busy_at queues q)
MayLeave _ queues = Unit {0}

-- where an exchange came through a queue, one of its consumers is free again
abbrev pub Leaves : Born → List QueueView → List QueueView → Type 0
Leaves (born.Copy q) old new = (limits : List (ℕ × ℕ)) (calls : List Call) → seda.Stands limits calls old → seda.Stands limits (Ended q ∷ calls) new
Leaves _ old new = new ≡ old
