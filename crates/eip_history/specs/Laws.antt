-- What the history needs to know of the meaning and of a valid set.
use Rattle.std.specs.Prelude.{ℕ, ◌≡◌, ◌<◌, ◌≤◌, Bool, true, List, [], ◌∷◌, Option, Some, None}
use Rattle.eip_exchange.specs.declared.message.Message.{Message}
use Rattle.eip_exchange.specs.declared.birth.Birth.{Birth}
use Rattle.eip_frames.specs.declared.request.At.{At}
use Rattle.eip_frames.specs.declared.answer.Answer.{Answer as Reply}
use Rattle.eip_frames.specs.declared.request.Request.TheVariants.{Offer, Join}
use Rattle.eip_frames.specs.declared.answer.Answer.TheVariants.{Born}
use Rattle.eip_frames.specs.Fate.{AsksNext}
use Rattle.eip_history.specs.Plan.{Plan}
use Rattle.eip_history.specs.Place.{end_of}

-- a route of the set that reads from a queue
abbrev pub IsQueue : Plan → ℕ → Type 0
IsQueue s q = (q < s.routes) × (s.is_queue q ≡ true)

-- the last element, or none
abbrev pub last_of : {A : Type 0} → List A → Option A
last_of [] = None
last_of (x ∷ []) = Some x
last_of (x ∷ (y ∷ ys)) = last_of (y ∷ ys)

-- no exchange ends before it is asked anything; a queue that is offered to is one of the set's; a join comes right behind its parts' births; each queue has a consumer
pub record PlanLaws (s : Plan) : Type 0 where
  pub starts : (b : Birth) → end_of (s.mean b []) ≡ None
  pub offers : (b : Birth) (given : List Reply) (q : ℕ) (discard : Bool) (m : Message) (p : At) → s.mean b given ≡ AsksNext (Offer q discard m) p → IsQueue s q
  pub joins : (b : Birth) (given : List Reply) (first count : ℕ) (p : At) → s.mean b given ≡ AsksNext (Join first count) p
      → last_of given ≡ Some (Born first count)
  pub consumers : (q : ℕ) → 1 ≤ (s.queue q).consumers
