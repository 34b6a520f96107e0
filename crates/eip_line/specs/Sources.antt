-- The readers of a source of lines, its count of faults, and what it answers.
use Rattle.std.specs.Prelude.{ℕ, ◌+◌, ◌-◌, ◌^◌, min, List, [], Option, None, unwrap_or, Result, Ok, Err}
use Rattle.eip_keyed.specs.Keyed.{Keyed, found}
use Rattle.eip_endpoint.specs.Counters.{risen}
use Rattle.eip_endpoint.specs.declared.source.Pulled.{Pulled}
use Rattle.eip_endpoint.specs.declared.source.Commit.{Commit}
use Rattle.eip_endpoint.specs.declared.source.PullFault.{PullFault}
use Rattle.eip_endpoint.specs.declared.source.PullFault.TheVariants as pull
use Rattle.eip_line.specs.declared.reader.LineFault.{LineFault}
use Rattle.eip_line.specs.declared.reader.LineFault.TheVariants as fault
use Rattle.eip_line.specs.declared.reader.LineReader.{LineReader}

-- a source of lines tells neither what it gave nor what it was told
abbrev pub untold_items : Option (List Pulled)
untold_items = None

abbrev pub untold_commits : Option (List Commit)
untold_commits = None

-- a reader before the first line
abbrev pub fresh_reader : LineReader
fresh_reader = record { buffer = []; lines = 0 }

-- the reader of a printed URI; one that was never pulled from has a reader before the first line
abbrev pub reader_for : List ℕ → Keyed LineReader → LineReader
reader_for u rs = unwrap_or (found u rs) fresh_reader

-- the faults of a link and the pulls that met a line without end, counted together up to the greatest count
abbrev pub faults_with : ℕ → ℕ → ℕ
faults_with link endless = min (link + endless) (2 ^ 64 - 1)

-- what a pull answers where its reader answered so
abbrev pub pull_answer : Result Pulled LineFault → Result Pulled PullFault
pull_answer (Ok p) = Ok p
pull_answer (Err fault.Failed) = Err pull.Failed
pull_answer (Err fault.Endless) = Err pull.Failed
pull_answer (Err fault.NoMemory) = Err pull.NoMemory

-- the number of lines without end that were met, behind one more answer of a reader
abbrev pub endless_behind : Result Pulled LineFault → ℕ → ℕ
endless_behind (Err fault.Endless) n = risen n
endless_behind _ n = n
