-- How far an exchange is, with what belongs to it, as its row tells it.
use Rattle.std.specs.Prelude.{ℕ, ◌-◌, Bool, false, not, cond, List, Option, Some, None, slice_get}
use Rattle.eip_exchange.specs.declared.end.Fault.{Fault}
use Rattle.eip_frames.specs.declared.request.Request.{Request}
use Rattle.eip_frames.specs.Fits.{is_outside}
use Rattle.eip_progress.specs.declared.cursor.Cursor.{Cursor}
use Rattle.eip_tables.specs.declared.row.Stage.{Stage}
use Rattle.eip_tables.specs.declared.row.Stage.TheVariants as stage
use Rattle.eip_tables.specs.Row.{Row}
use Rattle.eip_tables.specs.Closing.{Closing}
use Rattle.eip_tables.specs.Closing as closing

pub data State : Type 0 where
  Queued : State
  New : State
  Asks : Cursor → Request → State
  Held : Cursor → ℕ → State
  Joining : Cursor → ℕ → State
  Asleep : Cursor → ℕ → (due : ℕ) → State
  Answered : Cursor → ℕ → State
  Ended : Closing → State
  -- a row that stands for nothing
  Broken : State

abbrev pub state_by : Stage → Option Cursor → Option Request → Option Fault → State
state_by stage.Queued c q f = Queued
state_by stage.New c q f = New
state_by stage.Asks (Some c) (Some q) f = Asks c q
state_by (stage.Held w) (Some c) q f = Held c w
state_by (stage.Joining i) (Some c) q f = Joining c i
state_by (stage.Asleep i due) (Some c) q f = Asleep c i due
state_by (stage.Answered i) (Some c) q f = Answered c i
state_by stage.Completed c q f = Ended closing.Completed
state_by stage.Handled c q f = Ended closing.Handled
state_by stage.Failed c q (Some f) = Ended (closing.Failed f)
state_by stage.Starved c q f = Ended closing.Starved
state_by stage.NotCommitted c q f = Ended closing.NotCommitted
state_by _ c q f = Broken

abbrev pub state_of : Row → State
state_of r = state_by r.stage r.cursor r.request r.fault

-- what an exchange is known to ask
abbrev pub known_in : State → Option Request
known_in (Asks c q) = Some q
known_in _ = None

abbrev pub known_of : Row → Option Request
known_of r = known_in (state_of r)

-- a stage at which a request waits for its answer, and the request is one of the outside
abbrev pub asks_outside : Stage → Option Request → Bool
asks_outside stage.Asks (Some q) = is_outside q
asks_outside _ _ = false

abbrev pub row_outside : Row → Bool
row_outside r = asks_outside r.stage r.request

abbrev pub is_outside_row : Option Row → Bool
is_outside_row (Some r) = row_outside r
is_outside_row None = false

-- whether the exchange with a number is known to ask somebody outside
abbrev pub outside_at : List Row → ℕ → Bool
outside_at rows x = is_outside_row (slice_get rows (x - 1))

-- known to ask somebody outside, or not, as it is wanted
abbrev pub is_wanted : Bool → Bool → Bool
is_wanted outside known = cond outside known (not known)
