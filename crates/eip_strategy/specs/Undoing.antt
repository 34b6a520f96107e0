-- How a message that took a new one in is made as it was before.
use Rattle.std.specs.Prelude.{◌≡◌, ◌<◌, ◌≤◌, ◌-◌, ℕ, List, [], ◌∷◌, ◌++◌, length, take}
use Rattle.std.specs.Str.{IsUtf8}
use Rattle.eip_exchange.specs.declared.message.Message.{Message}
use Rattle.eip_exchange.specs.declared.setting.Strategy.{Strategy}
use Rattle.eip_exchange.specs.declared.setting.Strategy.TheVariants.{Grouped}
use Rattle.eip_strategy.specs.declared.undo.Undo.{Undo}
use Rattle.eip_strategy.specs.declared.undo.Undo.TheVariants.{Cut, Reclose, Body, Whole}

-- the message as it was
abbrev pub undone : Undo → Message → Message
undone (Cut n) m = record m { body = take n m.body }
undone (Reclose n) m = record m { body = take n m.body ++ 93 ∷ [] }
undone (Body body) m = record m { body = body }
undone (Whole old) m = old

-- the first n bytes are a text
abbrev pub IsStart : ℕ → List ℕ → Type 0
IsStart n text = (n ≤ length text) × IsUtf8 (take n text)

-- and not the whole of it
abbrev pub IsOpenStart : ℕ → List ℕ → Type 0
IsOpenStart n text = (n < length text) × IsUtf8 (take n text)

-- a body that is cut is cut between characters
abbrev pub CanUndo : Undo → List ℕ → Type 0
CanUndo (Cut n) body = IsStart n body
CanUndo (Reclose n) body = IsOpenStart n body
CanUndo (Body text) body = Unit {0}
CanUndo (Whole old) body = Unit {0}

-- the new message is made the old one again
pub record Undoes (u : Undo) (old new : Message) : Type 0 where
  pub can : CanUndo u new.body
  pub same : undone u new ≡ old

-- where a body stays or grows
abbrev pub undo_of : Strategy → List ℕ → Undo
undo_of Grouped body = Reclose (length body - 1)
undo_of s body = Cut (length body)
