-- A sink in memory.
use Rattle.std.specs.Prelude.{ℕ, ◌≡◌, ◌++◌, true, false, List, Result, Ok, Err}
use Rattle.eip_endpoint.specs.declared.sink.SinkFault.{SinkFault}
use Rattle.eip_endpoint.specs.declared.sink.SinkFault.TheVariants as fault
use Rattle.eip_endpoint.specs.Counters.{Counter, fails_next, counted}

-- the bytes so far, and the counter of the writes
pub record KeptBytes : Type 0 where
  pub bytes : List ℕ
  pub counter : Counter

-- a write fails exactly where its number is to fail, and then writes nothing
abbrev pub Written : KeptBytes → List ℕ → Result Unit SinkFault → KeptBytes → Type 0
Written old piece (Ok u) new =
    (fails_next old.counter ≡ false) × (new ≡ record { bytes = old.bytes ++ piece; counter = counted old.counter })
Written old piece (Err fault.Failed) new =
    (fails_next old.counter ≡ true) × (new ≡ record { bytes = old.bytes; counter = counted old.counter })
Written old piece (Err fault.NoMemory) new = new ≡ old
