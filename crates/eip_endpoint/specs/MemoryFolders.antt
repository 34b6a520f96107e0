-- Files in memory.
use Rattle.std.specs.Prelude.{ℕ, ◌≡◌, bytes_eq, Bool, true, false, List, map, filter, Result, Ok, Err}
use Rattle.eip_endpoint.specs.declared.files.FilesFault.{FilesFault}
use Rattle.eip_endpoint.specs.declared.files.FilesFault.TheVariants as fault
use Rattle.eip_endpoint.specs.Files.{File}
use Rattle.eip_endpoint.specs.Counters.{Counter, counted_as}

-- the files, and the counter of the calls
pub record KeptFiles : Type 0 where
  pub files : List File
  pub counter : Counter

-- a call is counted and fails exactly where it is to fail, and then leaves the files; one without memory is not counted
abbrev pub Called : {T : Type 0} → Bool → KeptFiles → Result T FilesFault → KeptFiles → Type 0
Called fails old (Ok r) new = (fails ≡ false) × (new.counter ≡ counted_as fails old.counter)
Called fails old (Err fault.Failed) new = (fails ≡ true) × (new ≡ record { files = old.files; counter = counted_as fails old.counter })
Called fails old (Err fault.NoMemory) new = new ≡ old

-- the names of the files of a folder, as they stand
abbrev pub names_in : List ℕ → List File → List (List ℕ)
names_in folder all = map (λ f. f.1) (filter (λ f. bytes_eq f.0 folder) all)
