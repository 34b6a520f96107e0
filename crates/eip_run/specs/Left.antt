-- What a command leaves of the files, by its outcome.
use Rattle.std.specs.Prelude.{ℕ, ◌≡◌, ◌⊎◌, false, Option, Some, None, Result, Ok, Err}
use Rattle.eip_text.specs.Causes.{Rose}
use Rattle.eip_command.specs.declared.words.Path.{Path}
use Rattle.eip_command.specs.declared.words.Command.{Command}
use Rattle.eip_command.specs.declared.words.Command.TheVariants.{Drain, Migrate}
use Rattle.eip_endpoint.specs.Files.{Writes}
use Rattle.eip_endpoint.specs.declared.files.FilesFault.{FilesFault}
use Rattle.eip_endpoint.specs.declared.files.FilesFault.TheVariants as fault
use Rattle.eip_ledger.specs.declared.place.Stop.TheVariants as stop
use Rattle.eip_dump.specs.Dump.{dump_text}
use Rattle.eip_run.specs.declared.report.Outcome.{Outcome}
use Rattle.eip_run.specs.declared.report.Outcome.TheVariants as outcome
use Rattle.eip_run.specs.Given.{Setting}
use Rattle.eip_run.specs.Dumps.{Moved}
use Rattle.eip_run.specs.Reports.{IsStill}

-- the files are as before
abbrev pub SameFiles : Setting → Type 0
SameFiles x = x.after.materials.files ≡ x.before.materials.files

-- the dump of the journal was written to this file, in place of what it held, as the answer says; no other file changed
abbrev pub WroteTo : Setting → Path → Result Unit FilesFault → Type 0
WroteTo x p answer = Writes p.folder p.name (dump_text x.journal) false x.before.materials.files answer x.after.materials.files

-- the file holds the dump of the journal and nothing else
abbrev pub HoldsJournal : Setting → Path → Type 0
HoldsJournal x p = WroteTo x p (Ok tt)

-- the files failed in the write, and their count rose; no other file changed
pub record FailedJournal (x : Setting) (p : Path) : Type 0 where
  pub wrote : WroteTo x p (Err fault.Failed)
  pub rose : Rose x.before.materials.files_faults x.after.materials.files_faults

-- what is left of the file that a drain names for its journal: where the run was drained the file holds it, and where the run came to another stop it does
-- so unless the files failed; where memory was wanting it was written, or not; and nothing is written where nothing ran
abbrev pub LeavesJournal : Setting → Path → Outcome → Type 0
LeavesJournal x p (outcome.Ran stop.Drained) = HoldsJournal x p
LeavesJournal x p (outcome.Ran stop.NoMemory) = (answer : Result Unit FilesFault) × WroteTo x p answer
LeavesJournal x p (outcome.Ran s) = HoldsJournal x p ⊎ FailedJournal x p
LeavesJournal x p outcome.SinkFault = HoldsJournal x p
LeavesJournal x p outcome.FilesFault = IsStill x ⊎ FailedJournal x p
LeavesJournal x p (outcome.Routes f) = SameFiles x
LeavesJournal x p outcome.NoMemory = (answer : Result Unit FilesFault) × WroteTo x p answer
LeavesJournal x p _ = ⊥

-- the journal in the old dump, of so many entries, was written to the new one, in place of what it held, as the answer says; no other file changed
abbrev pub MovedTo : Setting → (old new : Path) → (entries : ℕ) → Result Unit FilesFault → Type 0
MovedTo x old new entries answer =
    Moved old new x.before.materials.files x.after.materials.files x.before.materials.files_faults x.after.materials.files_faults entries answer

-- what is left of the new dump that a migration names: where the old one's journal was migrated it holds it, in version 2, also where the sink failed;
-- nothing is written where the old dump is refused; where the files failed none changes, unless it was in the write; and where memory was wanting it was
-- written, or not
abbrev pub LeavesDump : Setting → (old new : Path) → Outcome → Type 0
LeavesDump x old new (outcome.Migrated entries) = MovedTo x old new entries (Ok tt)
LeavesDump x old new outcome.SinkFault = (entries : ℕ) × MovedTo x old new entries (Ok tt)
LeavesDump x old new (outcome.BadDump line) = SameFiles x
LeavesDump x old new outcome.FilesFault = SameFiles x ⊎ ((entries : ℕ) × MovedTo x old new entries (Err fault.Failed))
LeavesDump x old new outcome.NoMemory = SameFiles x ⊎ ((entries : ℕ) × (answer : Result Unit FilesFault) × MovedTo x old new entries answer)
LeavesDump x old new _ = ⊥

-- a run leaves the file that is named for its journal, if one is
abbrev pub LeavesNamed : Setting → Option Path → Outcome → Type 0
LeavesNamed x None o = SameFiles x
LeavesNamed x (Some p) o = LeavesJournal x p o

-- no file changes but the one that is named for the journal of a drain, and the new dump of a migration
abbrev pub LeavesFiles : Setting → Option Command → Outcome → Type 0
LeavesFiles x None o = SameFiles x
LeavesFiles x (Some (Drain p workers turns journal)) o = LeavesNamed x journal o
LeavesFiles x (Some (Migrate old new)) o = LeavesDump x old new o
LeavesFiles x (Some _) o = SameFiles x
