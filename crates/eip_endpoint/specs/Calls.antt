-- What a call of a lane adds to its content and to its count of faults.
use Rattle.std.specs.Prelude.{ℕ, ◌+◌, List, [], ◌∷◌, Result, Ok, Err}
use Rattle.eip_exchange.specs.declared.message.Message.{Message}
use Rattle.eip_frames.specs.declared.request.Target.{Target}
use Rattle.eip_endpoint.specs.declared.endpoint.Call.{Call}
use Rattle.eip_endpoint.specs.declared.endpoint.Outcome.{Outcome}
use Rattle.eip_endpoint.specs.declared.endpoint.Outcome.TheVariants as outcome
use Rattle.eip_endpoint.specs.declared.endpoint.SendFault.{SendFault}
use Rattle.eip_endpoint.specs.declared.endpoint.SendFault.TheVariants as fault

-- a call by its outcome
abbrev pub call_of : Target → Message → Outcome → List Call
call_of t m o = record { target = t; message = m; outcome = o } ∷ []

-- the call that an answer tells of; a call that found no memory did nothing
abbrev pub made : Target → Message → Result Unit SendFault → List Call
made t m (Ok u) = call_of t m outcome.Done
made t m (Err fault.Failed) = call_of t m outcome.Failed
made t m (Err fault.Exists) = call_of t m outcome.Exists
made t m (Err fault.NoMemory) = []

-- 1 for a failure
abbrev pub failure_in : Outcome → ℕ
failure_in outcome.Failed = 1
failure_in outcome.Done = 0
failure_in outcome.Exists = 0

-- how many of the calls failed
abbrev pub failures : List Call → ℕ
failures [] = 0
failures (c ∷ cs) = failure_in c.outcome + failures cs
