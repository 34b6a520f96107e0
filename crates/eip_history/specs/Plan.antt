-- What the history takes from a route set: the meaning, the queues' and the aggregators' numbers.
use Rattle.std.specs.Prelude.{ℕ, Bool, List, Option}
use Rattle.eip_exchange.specs.declared.message.Message.{Message}
use Rattle.eip_exchange.specs.declared.end.Fault.{Fault}
use Rattle.eip_exchange.specs.declared.birth.Birth.{Birth}
use Rattle.eip_frames.specs.declared.answer.Answer.{Answer as Reply}
use Rattle.eip_frames.specs.Fate.{Fate}

-- what an aggregator's strategy makes of the message so far and one more: a message, or a fault
pub data Added : Type 0 where
  Gives : Message → Added
  Faults : Fault → Added

-- how many copies may wait in a queue, and how many may be at work on it at one time
pub record QueueRule : Type 0 where
  pub size : ℕ
  pub consumers : ℕ

-- when an aggregator's group closes, how its message grows, and the route that its exchange runs in
pub record GroupRule : Type 0 where
  pub size : Option ℕ
  pub timeout : Option ℕ
  pub force : Bool
  pub closes : ℕ → ℕ → Message → Bool
  pub add : Option Message → Message → Added
  pub route : ℕ

-- the meaning of a birth after a list of answers, the routes by index, and what queues and aggregators ask for
pub record Plan : Type 0 where
  pub mean : Birth → List Reply → Fate
  pub routes : ℕ
  pub is_source : ℕ → Bool
  pub is_queue : ℕ → Bool
  pub block_of : ℕ → ℕ
  pub queue : ℕ → QueueRule
  pub group : ℕ → GroupRule
