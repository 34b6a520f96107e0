-- What a link over a reader tells and counts.
use Rattle.std.specs.Prelude.{ℕ, List, Option, None, Result, Ok, Err}
use Rattle.eip_endpoint.specs.Counters.{risen}

-- a link over a reader tells no bytes that were written, since there is nothing to write to
abbrev pub untold_written : Option (List ℕ)
untold_written = None

-- the count of faults behind an answer: one more behind a fault, or the greatest value that a count can have
abbrev pub faults_behind : {T E : Type 0} → Result T E → ℕ → ℕ
faults_behind (Ok x) n = n
faults_behind (Err f) n = risen n
