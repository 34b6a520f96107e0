-- What is to be done next with a message that lies in its place.
use Rattle.eip_exchange.specs.declared.message.Message.{Message}
use Rattle.eip_exchange.specs.declared.end.End.TheVariants.{Completed}
use Rattle.eip_progress.specs.declared.frame.Wait.TheVariants as wait
use Rattle.eip_progress.specs.declared.frame.Now.{Now}
use Rattle.eip_progress.specs.declared.frame.Now.TheVariants as now
use Rattle.eip_progress.specs.declared.cursor.State.{State}
use Rattle.eip_progress.specs.declared.cursor.State.TheVariants as state
use Rattle.eip_turns.specs.declared.course.Course.{Course}
use Rattle.eip_turns.specs.declared.course.Course.TheVariants as course

abbrev pub now_of : Course → Message → Now
now_of course.Goes m = now.Goes m
now_of (course.Stops e) m = now.Stops e m
now_of (course.Asks c t left x) m = now.Waits (wait.Trying c t left m x)
now_of (course.Sleeps c t left ticks) m = now.Waits (wait.Sleeping c t left ticks m)
now_of (course.Enters c b) m = now.Enters c b m
now_of (course.Handles handled continued f c b) m = now.Handles handled continued f c b m
now_of (course.Letters c) m = now.Letters c m

-- no turn comes before the next request or the end
abbrev pub IsLast : Course → Type 0
IsLast course.Goes = ⊥
IsLast (course.Stops e) = Unit {0}
IsLast (course.Asks c t left x) = Unit {0}
IsLast (course.Sleeps c t left ticks) = Unit {0}
IsLast (course.Enters c b) = ⊥
IsLast (course.Handles handled continued f c b) = ⊥
IsLast (course.Letters c) = ⊥

-- the state in which an exchange stands whose turns are done
abbrev pub state_of : Course → Message → State
state_of course.Goes m = state.Over Completed m
state_of (course.Stops e) m = state.Finishing e m
state_of (course.Asks c t left x) m = state.Runs (wait.Trying c t left m x)
state_of (course.Sleeps c t left ticks) m = state.Runs (wait.Sleeping c t left ticks m)
state_of (course.Enters c b) m = state.Over Completed m
state_of (course.Handles handled continued f c b) m = state.Over Completed m
state_of (course.Letters c) m = state.Over Completed m
