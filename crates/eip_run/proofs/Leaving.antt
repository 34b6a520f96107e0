-- What a command leaves of the files, by what it came to.
use Rattle.std.proofs.Common.{◌≡◌, ◌≢◌, ◌⊎◌, ℕ, List, Option, Some, None, Result, Ok, Err, refl, sym, subst, arith, inl, inr}
use Rattle.eip_command.specs.Words.{command_of, journal_of}
use Rattle.eip_command.specs.declared.words.Path.{Path}
use Rattle.eip_command.specs.declared.words.Command.{Command}
use Rattle.eip_command.specs.declared.words.Command.TheVariants.{Drain, Check, Audit, Load, Migrate}
use Rattle.eip_endpoint.specs.declared.files.FileRead.{FileRead}
use Rattle.eip_endpoint.specs.declared.files.FilesFault.{FilesFault}
use Rattle.eip_endpoint.specs.declared.files.FilesFault.TheVariants as files_fault
use Rattle.eip_endpoint.specs.declared.sink.SinkFault.{SinkFault}
use Rattle.eip_endpoint.specs.declared.sink.SinkFault.TheVariants as fault
use Rattle.eip_ledger.specs.declared.place.Stop.{Stop}
use Rattle.eip_ledger.specs.declared.place.Stop.TheVariants as stop
use Rattle.eip_run.specs.declared.report.Outcome.{Outcome}
use Rattle.eip_run.specs.declared.report.Outcome.TheVariants as outcome
use Rattle.eip_run.specs.Given.{Setting, asked}
use Rattle.eip_run.specs.Prepared.{WasRead}
use Rattle.eip_run.specs.Kept.{Keeps}
use Rattle.eip_run.specs.Left.{WroteTo, HoldsJournal, FailedJournal, LeavesJournal, LeavesDump, LeavesNamed, LeavesFiles}
use Rattle.eip_run.specs.Outcomes.{unkept, left_by, judged, behind}
use Rattle.eip_run.specs.Reports.{IsStill, RunsTo, AsksDump, ToAudit, ToMigrate, Comes, NoCommand, NotRead, NoRoutes, WasChecked, Stopped, Starved, DumpUnread, NoJournal, WasJudged, WasMigrated, NotMigrated, LacksMemory, LacksText, LacksLine, Reports}

-- ---- what was told

-- by the command that the words are
by-command : (x : Setting) (k : Command) (o : Outcome) → command_of x.words ≡ Some k → LeavesFiles x (Some k) o → LeavesFiles x (command_of x.words) o
by-command x k o command h = subst (λ (c : Option Command). LeavesFiles x c o) (sym command) h

-- by the file that a command which runs names for its journal
by-run : (x : Setting) (k : Command) (limit : ℕ) (o : Outcome) → RunsTo k limit → LeavesNamed x (journal_of k) o → LeavesFiles x (Some k) o
by-run x (Drain p workers turns journal) limit o to h = h
by-run x (Load n workers) limit o to h = h
by-run x (Check p) limit o to h = absurd to
by-run x (Audit p journal) limit o to h = absurd to
by-run x (Migrate old new) limit o to h = absurd to

unread : (x : Setting) (k : Option Command) → IsStill x → LeavesFiles x k outcome.FilesFault
unread x None still = still.files
unread x (Some (Drain p workers turns None)) still = still.files
unread x (Some (Drain p workers turns (Some journal))) still = inl still
unread x (Some (Check p)) still = still.files
unread x (Some (Audit p journal)) still = still.files
unread x (Some (Load n workers)) still = still.files
unread x (Some (Migrate old new)) still = inl still.files

faulty : (x : Setting) (k : Command) (read : FileRead) (f : _) → WasRead (asked x) k read → IsStill x → LeavesFiles x (Some k) (outcome.Routes f)
faulty x (Drain p workers turns None) read f was still = still.files
faulty x (Drain p workers turns (Some journal)) read f was still = still.files
faulty x (Check p) read f was still = still.files
faulty x (Audit p journal) read f was still = still.files
faulty x (Load n workers) read f was still = still.files
faulty x (Migrate old new) read f was still = absurd was.answer

poor : (x : Setting) (k : Option Command) → IsStill x → LeavesFiles x k outcome.NoMemory
poor x None still = still.files
poor x (Some (Drain p workers turns None)) still = still.files
poor x (Some (Drain p workers turns (Some journal))) still = (Err files_fault.NoMemory, still.files)
poor x (Some (Check p)) still = still.files
poor x (Some (Audit p journal)) still = still.files
poor x (Some (Load n workers)) still = still.files
poor x (Some (Migrate old new)) still = inl still.files

-- the dump is refused
undumped : (x : Setting) (dump : Path) (line : ℕ) → AsksDump (asked x) dump → IsStill x → LeavesFiles x (command_of x.words) (outcome.BadDump line)
undumped x dump line (ToAudit p d set has) still = by-command x (Audit p dump) (outcome.BadDump line) has.command still.files
undumped x dump line (ToMigrate old new command calm) still = by-command x (Migrate dump new) (outcome.BadDump line) command still.files

-- a write of the journal
abbrev Kept : Setting → Option Path → Result Unit FilesFault → Type 0
Kept x named answer =
    Keeps named x.journal x.before.materials.files x.after.materials.files x.before.materials.files_faults x.after.materials.files_faults answer

written : (x : Setting) (named : Option Path) (s : Stop) (u : Unit {0}) → Kept x named (Ok u) → LeavesNamed x named (outcome.Ran s)
written x None s u h = h.same
written x (Some p) stop.Drained u h = h.wrote
written x (Some p) (stop.SourceFault t) u h = inl h.wrote
written x (Some p) (stop.Held groups) u h = inl h.wrote
written x (Some p) stop.Spent u h = inl h.wrote
written x (Some p) stop.NoMemory u h = (Ok tt, h.wrote)

failed : (x : Setting) (p : Path) → Kept x (Some p) (Err files_fault.Failed) → FailedJournal x p
failed x p h = let least = h.faults.least in record { wrote = h.wrote; rose = omega arith }

unwritten : (x : Setting) (named : Option Path) (s : Stop) → Kept x named (Err files_fault.Failed) → LeavesNamed x named (unkept s)
unwritten x None s h = absurd (let e : Err files_fault.Failed ≡ Ok tt = h.answers in cc e)
unwritten x (Some p) stop.Drained h = inr (failed x p h)
unwritten x (Some p) (stop.SourceFault t) h = inr (failed x p h)
unwritten x (Some p) (stop.Held groups) h = inr (failed x p h)
unwritten x (Some p) stop.Spent h = inr (failed x p h)
unwritten x (Some p) stop.NoMemory h = (Err files_fault.Failed, h.wrote)

stopped : (x : Setting) (named : Option Path) (s : Stop) (answer : Result Unit FilesFault) → answer ≢ Err files_fault.NoMemory → Kept x named answer → LeavesNamed x named (left_by s answer)
stopped x named s (Ok u) wrote h = written x named s u h
stopped x named s (Err files_fault.Failed) wrote h = unwritten x named s h
stopped x named s (Err files_fault.NoMemory) wrote h = absurd (wrote refl)

starved : (x : Setting) (named : Option Path) (answer : Result Unit FilesFault) → Kept x named answer → LeavesNamed x named (outcome.Ran stop.NoMemory)
starved x None answer h = h.same
starved x (Some p) answer h = (answer, h.wrote)

untold : (x : Setting) (named : Option Path) (answer : Result Unit FilesFault) → Kept x named answer → LeavesNamed x named outcome.NoMemory
untold x None answer h = h.same
untold x (Some p) answer h = (answer, h.wrote)

told-leaves : (x : Setting) (told : Outcome) (text : List ℕ) → Comes x told text → LeavesFiles x (command_of x.words) told
told-leaves x told text (NoCommand none still calm) = subst (λ (c : Option Command). LeavesFiles x c outcome.Words) (sym none) still.files
told-leaves x told text (NotRead k command names still rises calm) = unread x (command_of x.words) still
told-leaves x told text (NoRoutes k read f command still was h) = by-command x k (outcome.Routes f) command (faulty x k read f was still)
told-leaves x told text (WasChecked p set has still) = by-command x (Check p) outcome.Checked has.command still.files
told-leaves x told text (Stopped k limit set s kept to has ran ne keeps wrote) =
    by-command x k (left_by s kept) has.command (by-run x k limit (left_by s kept) to (stopped x (journal_of k) s kept wrote keeps))
told-leaves x told text (Starved k limit set kept to has ran keeps) = by-command x k _ has.command (by-run x k limit _ to (starved x (journal_of k) kept keeps))
told-leaves x told text (DumpUnread dump asks still rises) = unread x (command_of x.words) still
told-leaves x told text (NoJournal dump line asks still bad) = undumped x dump line asks still
told-leaves x told text (WasJudged p dump set v has still says) = by-command x (Audit p dump) (judged v) has.command still.files
told-leaves x told text (WasMigrated old new entries m) = by-command x (Migrate old new) (outcome.Migrated entries) m.command m.moved
told-leaves x told text (NotMigrated old new entries m) = by-command x (Migrate old new) outcome.FilesFault m.command (inr (entries, m.moved))
told-leaves x told text (LacksMemory still count spared) = poor x (command_of x.words) still
told-leaves x told text (LacksText k limit set s kept to has ran ne keeps) = by-command x k _ has.command (by-run x k limit _ to (untold x (journal_of k) kept keeps))
told-leaves x told text (LacksLine old new entries m) = by-command x (Migrate old new) outcome.NoMemory m.command (inr (entries, Ok tt, m.moved))

-- ---- behind the writing of the text

-- whatever was left of the file, it was written or not
abbrev WroteOrNot : Setting → Path → Type 0
WroteOrNot x p = (answer : Result Unit FilesFault) × WroteTo x p answer

tried : (x : Setting) (p : Path) → HoldsJournal x p ⊎ FailedJournal x p → WroteOrNot x p
tried x p (inl h) = (Ok tt, h)
tried x p (inr h) = (Err files_fault.Failed, h.wrote)

wrote-or-not : (x : Setting) (p : Path) (o : Outcome) → LeavesJournal x p o → WroteOrNot x p
wrote-or-not x p outcome.Words h = absurd h
wrote-or-not x p (outcome.Routes f) h = (Err files_fault.NoMemory, h)
wrote-or-not x p outcome.FilesFault (inl h) = (Err files_fault.NoMemory, h.files)
wrote-or-not x p outcome.FilesFault (inr h) = (Err files_fault.Failed, h.wrote)
wrote-or-not x p outcome.Checked h = absurd h
wrote-or-not x p (outcome.Ran stop.Drained) h = (Ok tt, h)
wrote-or-not x p (outcome.Ran (stop.SourceFault t)) h = tried x p h
wrote-or-not x p (outcome.Ran (stop.Held groups)) h = tried x p h
wrote-or-not x p (outcome.Ran stop.Spent) h = tried x p h
wrote-or-not x p (outcome.Ran stop.NoMemory) h = h
wrote-or-not x p (outcome.Legal entries) h = absurd h
wrote-or-not x p (outcome.Wrong entry rule) h = absurd h
wrote-or-not x p (outcome.BadDump line) h = absurd h
wrote-or-not x p (outcome.Migrated entries) h = absurd h
wrote-or-not x p outcome.SinkFault h = (Ok tt, h)
wrote-or-not x p outcome.NoMemory h = h

behind-named : (x : Setting) (p : Path) (told : Outcome) (w : Result Unit SinkFault) → LeavesJournal x p told → LeavesJournal x p (behind told w)
behind-named x p told (Ok u) h = h
behind-named x p told (Err fault.NoMemory) h = wrote-or-not x p told h
behind-named x p outcome.Words (Err fault.Failed) h = h
behind-named x p (outcome.Routes f) (Err fault.Failed) h = h
behind-named x p outcome.FilesFault (Err fault.Failed) h = h
behind-named x p outcome.Checked (Err fault.Failed) h = absurd h
behind-named x p (outcome.Ran stop.Drained) (Err fault.Failed) h = h
behind-named x p (outcome.Ran (stop.SourceFault t)) (Err fault.Failed) h = h
behind-named x p (outcome.Ran (stop.Held groups)) (Err fault.Failed) h = h
behind-named x p (outcome.Ran stop.Spent) (Err fault.Failed) h = h
behind-named x p (outcome.Ran stop.NoMemory) (Err fault.Failed) h = h
behind-named x p (outcome.Legal entries) (Err fault.Failed) h = absurd h
behind-named x p (outcome.Wrong entry rule) (Err fault.Failed) h = absurd h
behind-named x p (outcome.BadDump line) (Err fault.Failed) h = h
behind-named x p (outcome.Migrated entries) (Err fault.Failed) h = absurd h
behind-named x p outcome.SinkFault (Err fault.Failed) h = h
behind-named x p outcome.NoMemory (Err fault.Failed) h = h

-- the same of the new dump
moved-or-not : (x : Setting) (old new : Path) (o : Outcome) → LeavesDump x old new o → LeavesDump x old new outcome.NoMemory
moved-or-not x old new outcome.Words h = absurd h
moved-or-not x old new (outcome.Routes f) h = absurd h
moved-or-not x old new outcome.FilesFault (inl h) = inl h
moved-or-not x old new outcome.FilesFault (inr h) = inr (h.0, Err files_fault.Failed, h.1)
moved-or-not x old new outcome.Checked h = absurd h
moved-or-not x old new (outcome.Ran s) h = absurd h
moved-or-not x old new (outcome.Legal entries) h = absurd h
moved-or-not x old new (outcome.Wrong entry rule) h = absurd h
moved-or-not x old new (outcome.BadDump line) h = inl h
moved-or-not x old new (outcome.Migrated entries) h = inr (entries, Ok tt, h)
moved-or-not x old new outcome.SinkFault h = inr (h.0, Ok tt, h.1)
moved-or-not x old new outcome.NoMemory h = h

behind-dump : (x : Setting) (old new : Path) (told : Outcome) (w : Result Unit SinkFault) → LeavesDump x old new told → LeavesDump x old new (behind told w)
behind-dump x old new told (Ok u) h = h
behind-dump x old new told (Err fault.NoMemory) h = moved-or-not x old new told h
behind-dump x old new outcome.Words (Err fault.Failed) h = h
behind-dump x old new (outcome.Routes f) (Err fault.Failed) h = h
behind-dump x old new outcome.FilesFault (Err fault.Failed) h = h
behind-dump x old new outcome.Checked (Err fault.Failed) h = absurd h
behind-dump x old new (outcome.Ran s) (Err fault.Failed) h = absurd h
behind-dump x old new (outcome.Legal entries) (Err fault.Failed) h = absurd h
behind-dump x old new (outcome.Wrong entry rule) (Err fault.Failed) h = absurd h
behind-dump x old new (outcome.BadDump line) (Err fault.Failed) h = h
behind-dump x old new (outcome.Migrated entries) (Err fault.Failed) h = (entries, h)
behind-dump x old new outcome.SinkFault (Err fault.Failed) h = h
behind-dump x old new outcome.NoMemory (Err fault.Failed) h = h

behind-leaves : (x : Setting) (k : Option Command) (told : Outcome) (w : Result Unit SinkFault) → LeavesFiles x k told → LeavesFiles x k (behind told w)
behind-leaves x None told w h = h
behind-leaves x (Some (Drain p workers turns None)) told w h = h
behind-leaves x (Some (Drain p workers turns (Some journal))) told w h = behind-named x journal told w h
behind-leaves x (Some (Check p)) told w h = h
behind-leaves x (Some (Audit p journal)) told w h = h
behind-leaves x (Some (Load n workers)) told w h = h
behind-leaves x (Some (Migrate old new)) told w h = behind-dump x old new told w h

pub leaves : (x : Setting) (o : Outcome) → Reports x o → LeavesFiles x (command_of x.words) o
leaves x o r =
    subst (LeavesFiles x (command_of x.words)) (sym r.tells.outcome)
    (behind-leaves x (command_of x.words) r.told r.tells.write (told-leaves x r.told r.text r.comes))
