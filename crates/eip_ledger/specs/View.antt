-- What contracts see of a journal.
use Rattle.std.specs.Prelude.{ℕ, List}
use Rattle.eip_ledger.specs.declared.entry.Entry.{Entry}

-- the limits, the entries with the newest first, and how many more fit without memory
pub record JournalView : Type 0 where
  pub workers : ℕ
  pub turns : ℕ
  pub past : List Entry
  pub spare : ℕ
