-- The number of rounds that a word names.
use Rattle.std.specs.Prelude.{ℕ, nat_le, List, Option, Some, None, if◌then◌else◌}
use Rattle.eip_text.specs.Counts.{count_of}

-- a number up to the greatest
abbrev pub up_to : ℕ → Option ℕ → Option ℕ
up_to most None = None
up_to most (Some n) = if nat_le n most then Some n else None

-- a number from 0 to 1,000,000
abbrev pub rounds_in : List ℕ → Option ℕ
rounds_in word = up_to 1000000 (count_of word)
