-- What a worker's seat knows of a run that is shared, and what a turn of it does.
use Rattle.std.specs.Prelude.{ℕ, ◌≡◌, ◌≤◌, List, ◌++◌, Some}
use Rattle.eip_exchange.specs.declared.birth.Origin.{Origin}
use Rattle.eip_frames.specs.declared.request.Request.{Request}
use Rattle.eip_history.specs.Own.{Past}
use Rattle.eip_history.specs.Rules.{IsLegal}
use Rattle.eip_plan.specs.Plan.{plan_of}
use Rattle.eip_outlets.specs.Outlets.{outlets}
use Rattle.eip_turnstile.specs.Rule.{entries_by, StartsWith}
use Rattle.eip_turnstile.specs.declared.view.View.{View}
use Rattle.eip_shared.specs.Deeds.{past_of}
use Rattle.eip_shared.specs.Shared.{IsHeld, MayEnterAt}
use Rattle.eip_shared.specs.declared.beginning.Beginning.{Beginning}
use Rattle.eip_shared.specs.declared.deed.Deed.{Deed}
use Rattle.eip_shared.specs.declared.outcome.Outcome.{Outcome}

-- the journal as far as a seat has seen it
abbrev pub past_seen : Beginning → View Deed Beginning → Past
past_seen start v = past_of v.seen ++ start.past

-- the seat of a worker from 1 on, in a run that began so: it has seen its own deeds, and the journal as it saw it is legal
pub record IsAtWork (start : Beginning) (v : View Deed Beginning) : Type 0 where
  pub based : v.base ≡ Some start
  pub some : 1 ≤ v.number
  pub within : v.number ≤ start.workers
  pub own : entries_by v.number v.seen ≡ v.mine
  pub legal : IsLegal (plan_of start.set) start.workers start.turns (past_seen start v)

-- a turn in which a worker did exactly this: behind what its seat had seen, others may have done more
pub record Turned (old new : View Deed Beginning) (ds : List Deed) : Type 0 where
  pub mine : new.mine ≡ old.mine ++ ds
  pub seen : StartsWith new.seen old.seen
  pub number : new.number ≡ old.number
  pub base : new.base ≡ old.base
  pub made : new.made ≡ old.made
  pub olds : new.olds ≡ old.olds

-- an exchange is in the worker's hand and asks this, as the seat knows
abbrev pub Holds : Beginning → View Deed Beginning → ℕ → Origin → Request → Type 0
Holds start v x from q = IsHeld (plan_of start.set) (outlets start.set) start.workers (past_seen start v) v.number x from q

-- the worker may enter this, as the seat knows
abbrev pub Knows : Beginning → View Deed Beginning → Origin → Outcome → Type 0
Knows start v from o = MayEnterAt (plan_of start.set) (outlets start.set) start.workers (past_seen start v) v.number from o
