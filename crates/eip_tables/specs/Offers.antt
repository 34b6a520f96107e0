-- What an exchange offers to a queue.
use Rattle.std.specs.Prelude.{ℕ, ◌≡◌, ◌+◌, ◌-◌, Bool, true, false, List, Option, Some, None, slice_get}
use Rattle.eip_exchange.specs.declared.birth.Birth.{Birth}
use Rattle.eip_exchange.specs.declared.birth.Origin.TheVariants as from
use Rattle.eip_exchange.specs.declared.birth.Work.TheVariants.{Block}
use Rattle.eip_exchange.specs.declared.birth.Care.TheVariants.{Full}
use Rattle.eip_exchange.specs.declared.message.Message.{Message}
use Rattle.eip_route.specs.declared.route.RouteSet.{RouteSet}
use Rattle.eip_frames.specs.declared.answer.Answer.{Answer as Reply}
use Rattle.eip_frames.specs.declared.answer.Answer.TheVariants as reply
use Rattle.eip_frames.specs.declared.request.Request.{Request}
use Rattle.eip_frames.specs.declared.request.Request.TheVariants as request
use Rattle.eip_plan.specs.Plan.{plan_of}
use Rattle.eip_tables.specs.declared.row.Born.{Born}
use Rattle.eip_tables.specs.declared.row.Born.TheVariants as born

-- the queue that is offered to, and whether a full one drops the copy
abbrev pub offer_asked : Option Request → Option (ℕ × Bool)
offer_asked (Some (request.Offer q discard m)) = Some (q, discard)
offer_asked _ = None

abbrev pub offered_message : Option Request → Option Message
offered_message (Some (request.Offer q discard m)) = Some m
offered_message _ = None

-- how many hops an exchange has, as its row tells it: that of an item has none
abbrev pub hops_by : Born → Option Birth → ℕ
hops_by (born.Item i) kept = 0
hops_by _ (Some b) = b.hops
hops_by _ None = 0

-- the copy that an exchange with so many hops puts into a queue
abbrev pub copy_birth : RouteSet → (number queue hops : ℕ) → Message → Birth
copy_birth set number queue hops m = record {
  number = number;
  origin = from.Queue queue;
  work = Block ((plan_of set).block_of queue);
  hops = hops + 1;
  depth = 0;
  route = queue;
  care = Full;
  message = m;
}

-- what the sender to a full queue of this size is answered
abbrev pub refusal : Bool → ℕ → Reply
refusal true size = reply.Dropped
refusal false size = reply.Full size

-- it asks to put a copy into a queue
pub record AsksOffer (known : List (Option Request)) (x : ℕ) : Type 0 where
  pub queue : ℕ
  pub discard : Bool
  pub message : Message
  pub asks : slice_get known (x - 1) ≡ Some (Some (request.Offer queue discard message))

-- it asks to run the block of a route
pub record AsksCall (known : List (Option Request)) (x : ℕ) : Type 0 where
  pub route : ℕ
  pub asks : slice_get known (x - 1) ≡ Some (Some (request.Call route))
