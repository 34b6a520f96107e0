-- What Simple sees of an exchange.
use Rattle.std.specs.Prelude.{ℕ, List}
use Rattle.eip_exchange.specs.declared.message.Message.{Message}
use Rattle.eip_simple.specs.declared.view.View.{View}

-- an exchange's message, its number, and the id of the route whose steps run
pub record Seen : Type 0 where
  pub message : Message
  pub number : ℕ
  pub route : List ℕ

-- the same as a view lends it
abbrev pub seen : View → Seen
seen v = record { message = v.message.now; number = v.number; route = v.route.now }
