-- How a row moves on.
use Rattle.std.specs.Prelude.{ℕ, List, [], Option, Some, None, codes}
use Rattle.eip_exchange.specs.Ends.{fault}
use Rattle.eip_exchange.specs.declared.message.Message.{Message}
use Rattle.eip_exchange.specs.declared.end.Ended.{Ended}
use Rattle.eip_exchange.specs.declared.end.End.{End}
use Rattle.eip_exchange.specs.declared.end.End.TheVariants as end
use Rattle.eip_exchange.specs.declared.end.Fault.{Fault}
use Rattle.eip_progress.specs.declared.cursor.Cursor.{Cursor}
use Rattle.eip_frames.specs.declared.request.Request.{Request}
use Rattle.eip_frames.specs.declared.request.Request.TheVariants as request
use Rattle.eip_frames.specs.declared.answer.Answer.{Answer as Reply}
use Rattle.eip_frames.specs.declared.answer.Answer.TheVariants as reply
use Rattle.eip_frames.specs.declared.answer.Completion.{Completion}
use Rattle.eip_exchange.specs.declared.birth.Birth.{Birth}
use Rattle.eip_tables.specs.declared.row.Born.{Born}
use Rattle.eip_tables.specs.declared.row.Born.TheVariants as born
use Rattle.eip_tables.specs.declared.row.Stage.{Stage}
use Rattle.eip_tables.specs.declared.row.Stage.TheVariants as stage
use Rattle.eip_tables.specs.Row.{Row}

-- the exchange of an accepted item
abbrev pub new_row : ℕ → Row
new_row i = record { born = born.Item i; stage = stage.New; birth = None; cursor = None; request = None; fault = None }

-- a copy in a queue
abbrev pub copy_row : ℕ → Birth → Row
copy_row q b = record { born = born.Copy q; stage = stage.Queued; birth = Some b; cursor = None; request = None; fault = None }

-- what an exchange that is starved fails with
abbrev pub starving : Fault
starving = fault (codes "OutOfMemory") []

-- a part; the fault that it would fail with if it were starved is there from its birth on, since its parent is told of that end without memory
abbrev pub part_row : (parent index : ℕ) → Birth → Row
part_row parent index b =
    record { born = born.Part parent index; stage = stage.New; birth = Some b; cursor = None; request = None; fault = Some starving }

-- the exchange of a group that closed by a cause
abbrev pub grouped_row : ℕ → Completion → Birth → Row
grouped_row group cause b = record { born = born.Group group cause; stage = stage.New; birth = Some b; cursor = None; request = None; fault = None }

-- a copy has left its queue
abbrev pub started : Row → Row
started r = record r { stage = stage.New }

abbrev pub begun : Cursor → Request → Row → Row
begun c q r = record r { stage = stage.Asks; cursor = Some c; request = Some q }

abbrev pub answered : ℕ → Row → Row
answered i r = record r { stage = stage.Answered i; request = None }

abbrev pub held : ℕ → Row → Row
held w r = record r { stage = stage.Held w; request = None }

-- its parts were born by the journal entry with this index, and it waits until all of them have ended
abbrev pub joining : ℕ → Row → Row
joining i r = record r { stage = stage.Joining i; request = None }

-- it sleeps until this moment, by the answer of the journal entry with this index
abbrev pub sleeping : (entry due : ℕ) → Row → Row
sleeping i due r = record r { stage = stage.Asleep i due; request = None }

abbrev pub woken_stage : Stage → Stage
woken_stage (stage.Joining i) = stage.Answered i
woken_stage (stage.Asleep i due) = stage.Answered i
woken_stage g = g

-- the last of its parts has ended, or its moment has come: the answer that let it wait has not reached its cursor yet
abbrev pub woken : Row → Row
woken r = record r { stage = woken_stage r.stage }

abbrev pub closed : Stage → Row → Row
closed g r = record r { stage = g; birth = None; cursor = None; request = None; fault = None }

-- the end of a part that is starved, with the message that it was born with; a row without these tells of none
abbrev pub starved_end : Option Birth → Option Fault → Option Ended
starved_end (Some b) (Some f) = Some (record { end = end.Failed f; message = b.message })
starved_end _ _ = None

abbrev pub stage_of : End → Stage
stage_of end.Completed = stage.Completed
stage_of end.Handled = stage.Handled
stage_of (end.Failed f) = stage.Failed

abbrev pub fault_of : End → Option Fault
fault_of end.Completed = None
fault_of end.Handled = None
fault_of (end.Failed f) = Some f

abbrev pub finished : End → Row → Row
finished e r = record r { stage = stage_of e; birth = None; cursor = None; request = None; fault = fault_of e }

-- the end that is asked for
abbrev pub end_asked : Option Request → Option End
end_asked (Some (request.Finish e m c)) = Some e
end_asked _ = None

-- the message of the end that is asked for
abbrev pub last_message : Option Request → Option Message
last_message (Some (request.Finish e m c)) = Some m
last_message _ = None

-- the end that a part asks for, which its parent is told
abbrev pub part_end : Born → Option Request → Option End
part_end (born.Part parent index) q = end_asked q
part_end _ q = None

-- an end with its message, where both are there
abbrev pub ended_with : Option End → Option Message → Option Ended
ended_with (Some e) (Some m) = Some (record { end = e; message = m })
ended_with _ _ = None

-- how many ticks are asked to be waited
abbrev pub ticks_asked : Option Request → Option ℕ
ticks_asked (Some (request.Wait ticks)) = Some ticks
ticks_asked _ = None

-- the line of the log that is asked for
abbrev pub line_asked : Option Request → Option (List ℕ × List ℕ)
line_asked (Some (request.Log n t)) = Some (n, t)
line_asked _ = None

abbrev pub finished_by : Option End → Row → Row
finished_by (Some e) r = finished e r
finished_by None r = record r { request = None }

-- ended by the end that is asked for
abbrev pub finished_asked : Row → Row
finished_asked r = finished_by (end_asked r.request) r

-- ended by this end, as its source took it
abbrev pub ended_by : End → Reply → Row → Row
ended_by e reply.CommitFailed r = closed stage.NotCommitted r
ended_by e _ r = finished e r
