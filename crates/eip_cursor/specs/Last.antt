-- The end of an exchange behind the answer to its last step.
use Rattle.std.specs.Prelude.{◌≡◌, List, ◌∷◌}
use Rattle.eip_exchange.specs.declared.message.Message.{Message}
use Rattle.eip_exchange.specs.declared.end.End.TheVariants.{Completed}
use Rattle.eip_route.specs.declared.route.RouteSet.{RouteSet}
use Rattle.eip_frames.specs.declared.answer.Answer.{Answer as Reply}
use Rattle.eip_meaning.specs.Contexts.{place_in}
use Rattle.eip_meaning.specs.Meaning.{item_of, finish_by}
use Rattle.eip_progress.specs.declared.frame.Wait.{Wait}
use Rattle.eip_progress.specs.declared.frame.Wait.TheVariants as wait
use Rattle.eip_progress.specs.declared.cursor.State.{State}
use Rattle.eip_progress.specs.declared.cursor.State.TheVariants as state
use Rattle.eip_progress.specs.declared.cursor.Cursor.{Cursor}
use Rattle.eip_progress.specs.Rest.{rest}

-- the message that waits, as it stood at the step
abbrev pub message_of : Wait → Message
message_of (wait.Trying c t left m x) = m
message_of (wait.Sleeping c t left ticks m) = m

abbrev pub HoldsMessage : State → Message → Type 0
HoldsMessage (state.Starting w m) x = ⊥
HoldsMessage (state.Runs w) x = message_of w ≡ x
HoldsMessage (state.Finishing e m) x = ⊥
HoldsMessage (state.Over e m) x = ⊥

-- behind this answer the exchange ends with the message that waits
abbrev pub EndsWith : RouteSet → Cursor → Reply → Message → Type 0
EndsWith set k a m = HoldsMessage k.state m × ((A : List Reply) → rest set k (a ∷ A) ≡ finish_by k.commit (item_of k.origin) (place_in k.context 0) Completed m A)
