-- What is found in the dump that an audit or a migration reads, and what is told of it.
use Rattle.std.specs.Prelude.{ℕ, ◌≡◌, ◌++◌, ◌⊎◌, List, codes, decimal, length, Option, Result, Ok, Err}
use Rattle.eip_text.specs.Causes.{Rises}
use Rattle.eip_route.specs.declared.route.RouteSet.{RouteSet}
use Rattle.eip_command.specs.declared.words.Path.{Path}
use Rattle.eip_endpoint.specs.Content.{IfTold}
use Rattle.eip_endpoint.specs.Files.{File, bytes_at, read_of}
use Rattle.eip_endpoint.specs.declared.files.FileRead.{FileRead}
use Rattle.eip_endpoint.specs.declared.files.FileRead.TheVariants.{Bytes, Missing, TooLong}
use Rattle.eip_endpoint.specs.declared.files.FilesFault.{FilesFault}
use Rattle.eip_endpoint.specs.declared.files.FilesFault.TheVariants as files_fault
use Rattle.eip_ledger.specs.View.{JournalView}
use Rattle.eip_dump.specs.Dump.{IsDumpOf, IsBadLine}
use Rattle.eip_dump.specs.declared.fault.DumpFault.{DumpFault}
use Rattle.eip_dump.specs.declared.fault.DumpFault.TheVariants as dump_fault
use Rattle.eip_plan.specs.Plan.{plan_of}
use Rattle.eip_verdict.specs.Verdicts.{Says}
use Rattle.eip_verdict.specs.declared.verdict.Verdict.{Verdict}
use Rattle.eip_verdict.specs.declared.verdict.Verdict.TheVariants.{Legal, Wrong}
use Rattle.eip_run.specs.declared.dumps.DumpRefusal.{DumpRefusal}
use Rattle.eip_run.specs.declared.dumps.DumpRefusal.TheVariants.{BadDump, FilesFault as Unread, NoMemory}
use Rattle.eip_run.specs.Kept.{WroteJournal}

-- ---- what a dump holds

-- the most bytes of a dump that is read
abbrev pub dump_limit : ℕ
dump_limit = 268435456

-- this is what the dump of a path holds
abbrev pub HoldsDump : Path → Option (List File) → FileRead → Type 0
HoldsDump p files read = IfTold files (λ all. read ≡ read_of dump_limit (bytes_at p.folder p.name all))

-- what was read is the text of a journal
abbrev pub IsTextOf : JournalView → FileRead → Type 0
IsTextOf j (Bytes bytes) = IsDumpOf bytes j
IsTextOf j Missing = ⊥
IsTextOf j TooLong = ⊥

-- this line of what was read is the first bad one; it is 0 where the file is missing or too long
abbrev pub IsBad : (line : ℕ) → FileRead → Type 0
IsBad line (Bytes bytes) = IsBadLine line bytes
IsBad line Missing = line ≡ 0
IsBad line TooLong = line ≡ 0

-- the dump of a path is that of a journal
pub record IsJournalAt (p : Path) (files : Option (List File)) (j : JournalView) : Type 0 where
  pub read : FileRead
  pub held : HoldsDump p files read
  pub is_text : IsTextOf j read

-- it is that of none, for this line
pub record IsBadAt (p : Path) (files : Option (List File)) (line : ℕ) : Type 0 where
  pub read : FileRead
  pub held : HoldsDump p files read
  pub bad : IsBad line read

-- ---- what the calls answer, with the files' count of faults before and after

abbrev pub files_refusal : FilesFault → DumpRefusal
files_refusal files_fault.Failed = Unread
files_refusal files_fault.NoMemory = NoMemory

abbrev pub read_refusal : DumpFault → DumpRefusal
read_refusal (dump_fault.BadDump line) = BadDump line
read_refusal dump_fault.NoMemory = NoMemory

-- why no journal was read
abbrev pub LacksJournal : Path → Option (List File) → (before after : ℕ) → DumpRefusal → Type 0
LacksJournal p files before after (BadDump line) = IsBadAt p files line × (after ≡ before)
LacksJournal p files before after Unread = Rises 1 before after
LacksJournal p files before after NoMemory = after ≡ before

-- the journal of a dump was read, or why not
abbrev pub ReadsJournal : Path → Option (List File) → (before after : ℕ) → Result JournalView DumpRefusal → Type 0
ReadsJournal p files before after (Ok j) = IsJournalAt p files j × (after ≡ before)
ReadsJournal p files before after (Err r) = LacksJournal p files before after r

-- what an audit says of the journal in the dump of a path, for a set of routes
pub record IsJudged (set : RouteSet) (p : Path) (files : Option (List File)) (v : Verdict) : Type 0 where
  pub journal : JournalView
  pub held : IsJournalAt p files journal
  pub says : Says (plan_of set) journal.workers journal.turns journal.past v

abbrev pub Judges : RouteSet → Path → Option (List File) → (before after : ℕ) → Result Verdict DumpRefusal → Type 0
Judges set p files before after (Ok v) = IsJudged set p files v × (after ≡ before)
Judges set p files before after (Err r) = LacksJournal p files before after r

-- the journal in the old dump, of so many entries, was written to the new one, in place of what it held, or was not, as the answer says
pub record Moved (old new : Path) (files_before files_after : Option (List File)) (before after entries : ℕ) (answer : Result Unit FilesFault) : Type 0 where
  pub journal : JournalView
  pub held : IsJournalAt old files_before journal
  pub count : entries ≡ length journal.past
  pub wrote : WroteJournal new journal files_before files_after before after answer

-- it was written, or why not: the files fail in the reading, which changes none of them, or in the writing
abbrev pub Migrates : (old new : Path) → (files_before files_after : Option (List File)) → (before after : ℕ) → Result ℕ DumpRefusal → Type 0
Migrates old new files_before files_after before after (Ok entries) = Moved old new files_before files_after before after entries (Ok tt)
Migrates old new files_before files_after before after (Err Unread) =
    ((files_after ≡ files_before) × Rises 1 before after)
    ⊎ ((entries : ℕ) × Moved old new files_before files_after before after entries (Err files_fault.Failed))
Migrates old new files_before files_after before after (Err r) = (files_after ≡ files_before) × LacksJournal old files_before before after r

-- ---- what is told

-- a line of a word and a number
abbrev pub number_line : (word : List ℕ) → ℕ → List ℕ
number_line word n = word ++ (codes " " ++ (decimal n ++ codes "\n"))

-- the line of a verdict
abbrev pub verdict_line : Verdict → List ℕ
verdict_line (Legal entries) = number_line (codes "legal") entries
verdict_line (Wrong entry rule) = codes "wrong " ++ (decimal entry ++ (codes " " ++ (decimal rule ++ codes "\n")))

-- that of a first bad line
abbrev pub bad_line : ℕ → List ℕ
bad_line line = number_line (codes "error dump") line

-- that of a journal of so many entries that was written in the latest version
abbrev pub migrated_line : ℕ → List ℕ
migrated_line entries = number_line (codes "migrated") entries
