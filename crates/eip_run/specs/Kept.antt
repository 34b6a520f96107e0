-- The file to which a journal is written.
use Rattle.std.specs.Prelude.{ℕ, ◌≡◌, false, List, Option, Some, None, Result, Ok}
use Rattle.eip_text.specs.Causes.{Rises}
use Rattle.eip_command.specs.declared.words.Path.{Path}
use Rattle.eip_endpoint.specs.Files.{File, Writes, files_failure}
use Rattle.eip_endpoint.specs.declared.files.FilesFault.{FilesFault}
use Rattle.eip_ledger.specs.View.{JournalView}
use Rattle.eip_dump.specs.Dump.{dump_text}

-- the dump of a journal was written to the file of this path, in place of what it held, or was not, as the answer says
pub record WroteJournal (p : Path) (j : JournalView) (before after : Option (List File)) (faults_before faults_after : ℕ) (answer : Result Unit FilesFault) : Type 0 where
  pub wrote : Writes p.folder p.name (dump_text j) false before answer after
  pub faults : Rises (files_failure answer) faults_before faults_after

-- nothing was written
pub record WroteNone (before after : Option (List File)) (faults_before faults_after : ℕ) (answer : Result Unit FilesFault) : Type 0 where
  pub answers : answer ≡ Ok tt
  pub same : after ≡ before
  pub faults : faults_after ≡ faults_before

-- the journal was written to its file, where one is named
abbrev pub Keeps : Option Path → JournalView → (before after : Option (List File)) → (faults_before faults_after : ℕ) → Result Unit FilesFault → Type 0
Keeps None j before after faults_before faults_after answer = WroteNone before after faults_before faults_after answer
Keeps (Some p) j before after faults_before faults_after answer = WroteJournal p j before after faults_before faults_after answer
