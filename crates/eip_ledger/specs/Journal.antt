-- Words on two states of a journal.
use Rattle.std.specs.Prelude.{ℕ, ◌≡◌}
use Rattle.eip_ledger.specs.View.{JournalView}

-- the same limits and entries
pub record IsSameJournal (old new : JournalView) : Type 0 where
  pub workers : new.workers ≡ old.workers
  pub turns : new.turns ≡ old.turns
  pub past : new.past ≡ old.past
