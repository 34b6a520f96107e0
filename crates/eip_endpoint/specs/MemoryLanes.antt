-- A lane in memory.
use Rattle.std.specs.Prelude.{◌≡◌, ◌++◌, true, false, List, Result, Ok, Err}
use Rattle.eip_exchange.specs.declared.message.Message.{Message}
use Rattle.eip_frames.specs.declared.request.Target.{Target}
use Rattle.eip_endpoint.specs.declared.endpoint.Call.{Call}
use Rattle.eip_endpoint.specs.declared.endpoint.Outcome.{Outcome}
use Rattle.eip_endpoint.specs.declared.endpoint.Outcome.TheVariants as outcome
use Rattle.eip_endpoint.specs.declared.endpoint.SendFault.{SendFault}
use Rattle.eip_endpoint.specs.declared.endpoint.SendFault.TheVariants as fault
use Rattle.eip_endpoint.specs.Calls.{call_of}
use Rattle.eip_endpoint.specs.Counters.{Counter, fails_next, counted}

-- the calls so far, and their counter
pub record KeptCalls : Type 0 where
  pub calls : List Call
  pub counter : Counter

-- the lane behind one more call
abbrev pub with_call : KeptCalls → Target → Message → Outcome → KeptCalls
with_call l t m o = record { calls = l.calls ++ call_of t m o; counter = counted l.counter }

-- a call fails exactly where its number is to fail, and is kept either way
abbrev pub Sent : KeptCalls → Target → Message → Result Unit SendFault → KeptCalls → Type 0
Sent old t m (Ok u) new = (fails_next old.counter ≡ false) × (new ≡ with_call old t m outcome.Done)
Sent old t m (Err fault.Failed) new = (fails_next old.counter ≡ true) × (new ≡ with_call old t m outcome.Failed)
Sent old t m (Err fault.Exists) new = ⊥
Sent old t m (Err fault.NoMemory) new = new ≡ old
