-- A link in memory.
use Rattle.std.specs.Prelude.{ℕ, ◌≡◌, ◌++◌, min, true, false, List, length, drop, Result, Ok, Err}
use Rattle.eip_line.specs.declared.link.LinkFault.{LinkFault}
use Rattle.eip_line.specs.declared.link.LinkFault.TheVariants as fault
use Rattle.eip_endpoint.specs.Counters.{Counter, fails_next, counted}

-- the bytes that are left to read, those that were written, and the counter of the calls
pub record KeptLink : Type 0 where
  pub unread : List ℕ
  pub written : List ℕ
  pub counter : Counter

-- a read fails exactly where its number is to fail, and otherwise gives as many bytes as are left and find room
abbrev pub ReadNext : KeptLink → ℕ → Result ℕ LinkFault → KeptLink → Type 0
ReadNext old room (Ok n) new =
    (fails_next old.counter ≡ false) × (n ≡ min (length old.unread) room)
    × (new ≡ record { unread = drop n old.unread; written = old.written; counter = counted old.counter })
ReadNext old room (Err fault.Failed) new =
    (fails_next old.counter ≡ true) × (new ≡ record { unread = old.unread; written = old.written; counter = counted old.counter })
ReadNext old room (Err fault.NoMemory) new = ⊥

-- a write fails exactly where its number is to fail, and then writes nothing
abbrev pub WroteNext : KeptLink → List ℕ → Result Unit LinkFault → KeptLink → Type 0
WroteNext old bytes (Ok u) new =
    (fails_next old.counter ≡ false)
    × (new ≡ record { unread = old.unread; written = old.written ++ bytes; counter = counted old.counter })
WroteNext old bytes (Err fault.Failed) new =
    (fails_next old.counter ≡ true) × (new ≡ record { unread = old.unread; written = old.written; counter = counted old.counter })
WroteNext old bytes (Err fault.NoMemory) new = new ≡ old
