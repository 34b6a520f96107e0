-- A walk over a journal's entries, the oldest first.
use Rattle.std.specs.Prelude.{ℕ, List, reverse, take}
use Rattle.eip_ledger.specs.declared.entry.Entry.{Entry}
use Rattle.eip_history.specs.Own.{Past}

-- the past behind the first k entries
abbrev pub past_at : List Entry → ℕ → Past
past_at es k = reverse (take k es)
