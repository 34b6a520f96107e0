-- Which cause each outcome of a command has, and which outcomes are left where nothing that was handed in failed.
use Rattle.std.specs.Prelude.{ℕ, ◌≡◌, ◌≤◌, ◌⊎◌, true, List, length, Option, Some, None, slice_get}
use Rattle.eip_text.specs.Causes.{Rose}
use Rattle.eip_route.specs.declared.route.RouteSet.{RouteSet}
use Rattle.eip_route_faults.specs.Sites.{Site, first_fault, Stops}
use Rattle.eip_route_json.specs.Reading.{Finds}
use Rattle.eip_route_grammar.specs.declared.fault.Cause.{Cause}
use Rattle.eip_route_grammar.specs.declared.fault.Cause.TheVariants as cause
use Rattle.eip_route_grammar.specs.declared.fault.RouteFault.{RouteFault}
use Rattle.eip_load.specs.Routes.{load_text}
use Rattle.eip_command.specs.Words.{command_of}
use Rattle.eip_command.specs.declared.words.Path.{Path}
use Rattle.eip_command.specs.declared.words.Command.{Command}
use Rattle.eip_command.specs.declared.words.Command.TheVariants.{Drain, Check, Audit, Load, Migrate}
use Rattle.eip_endpoint.specs.Files.{File, bytes_at, read_of}
use Rattle.eip_endpoint.specs.declared.files.FileRead.{FileRead}
use Rattle.eip_endpoint.specs.declared.files.FileRead.TheVariants.{Bytes}
use Rattle.eip_endpoint.specs.Inlets.{InletView, inlet_names}
use Rattle.eip_ledger.specs.View.{JournalView}
use Rattle.eip_ledger.specs.declared.place.Stop.{Stop}
use Rattle.eip_ledger.specs.declared.place.Stop.TheVariants as stop
use Rattle.eip_history.specs.Own.{turns}
use Rattle.eip_history.specs.Stop.{is_over, open_groups}
use Rattle.eip_plan.specs.Plan.{plan_of}
use Rattle.eip_processor.specs.Registered.{RegistryView}
use Rattle.eip_core.specs.Doors.{inlet_at}
use Rattle.eip_run.specs.declared.report.Outcome.{Outcome}
use Rattle.eip_run.specs.declared.report.Outcome.TheVariants as outcome
use Rattle.eip_run.specs.declared.report.Report.{Report}
use Rattle.eip_run.specs.Given.{Outside, Setting, asked, begun}
use Rattle.eip_verdict.specs.Verdicts.{Says}
use Rattle.eip_verdict.specs.declared.verdict.Verdict.{Verdict}
use Rattle.eip_verdict.specs.declared.verdict.Verdict.TheVariants as verdict
use Rattle.eip_run.specs.Routes.{set_in}
use Rattle.eip_run.specs.Prepared.{sites, held_at, WasRead, PatternRefused, IsSpared, HasRoutes}
use Rattle.eip_run.specs.Outcomes.{status_of}
use Rattle.eip_run.specs.Dumps.{dump_limit, IsTextOf, IsBad, IsJournalAt, IsBadAt, IsJudged}
use Rattle.eip_run.specs.Left.{LeavesFiles}
use Rattle.eip_run.specs.Reports.{RunsTo, AsksDump, Reports}

-- the count of faults of the inlet with this index rose
pub record InletRose (before after : List InletView) (inlet : ℕ) : Type 0 where
  pub old : InletView
  pub new : InletView
  pub was : slice_get before inlet ≡ Some old
  pub is : slice_get after inlet ≡ Some new
  pub rose : Rose old.faults new.faults

-- the inlet of a route's source failed: its count of faults rose
pub record SourceFailed (x : Setting) (route : ℕ) : Type 0 where
  pub command : Command
  pub limit : ℕ
  pub set : RouteSet
  pub runs : RunsTo command limit
  pub routes : HasRoutes (begun x) command set
  pub inlet : ℕ
  pub read_by : inlet_at (inlet_names x.before.inlets) (slice_get set.routes route) ≡ Some inlet
  pub failed : InletRose x.before.inlets x.after.inlets inlet

-- the routes that the words ask for were read, and this is their first fault, or that of a refused pattern before it
pub record IsFaulty (x : Setting) (f : RouteFault) : Type 0 where
  pub command : Command
  pub read : FileRead
  pub words : command_of x.words ≡ Some command
  pub answer : WasRead (asked x) command read
  pub refused : Finds (sites (asked x) read) x.before.materials.pattern_faults x.after.materials.pattern_faults f

-- the words ask for a run of at most so many turns
abbrev pub AsksRun : Setting → (limit : ℕ) → Type 0
AsksRun x limit = (k : Command) × (command_of x.words ≡ Some k) × RunsTo k limit

-- the words ask for a check
abbrev pub IsCheck : Setting → Type 0
IsCheck x = (path : Path) × (command_of x.words ≡ Some (Check path))

-- nothing waits any more, and so many groups are open that nothing will close
pub record IsHeld (x : Setting) (limit groups : ℕ) : Type 0 where
  pub command : Command
  pub set : RouteSet
  pub runs : RunsTo command limit
  pub routes : HasRoutes (begun x) command set
  pub over : is_over (plan_of set) x.journal.past ≡ true
  pub count : groups ≡ length (open_groups (plan_of set) x.journal.past)
  pub some : 1 ≤ groups

-- the cause of each stop of a run with this limit on its turns: a drained run and want of memory have none
abbrev pub CauseOfStop : Setting → (limit : ℕ) → Stop → Type 0
CauseOfStop x limit stop.Drained = Unit {0}
CauseOfStop x limit (stop.SourceFault route) = SourceFailed x route
CauseOfStop x limit (stop.Held groups) = IsHeld x limit groups
CauseOfStop x limit stop.Spent = turns x.journal.past ≡ limit
CauseOfStop x limit stop.NoMemory = Unit {0}

-- the words ask for an audit, whose routes have nothing wrong, and this is what it says of the journal in its dump
pub record IsAudited (x : Setting) (v : Verdict) : Type 0 where
  pub path : Path
  pub dump : Path
  pub set : RouteSet
  pub routes : HasRoutes (asked x) (Audit path dump) set
  pub judged : IsJudged set dump x.before.materials.files v

-- the words name a dump that is that of no journal, for this line
pub record IsBadlyDumped (x : Setting) (line : ℕ) : Type 0 where
  pub dump : Path
  pub asks : AsksDump (asked x) dump
  pub bad : IsBadAt dump x.before.materials.files line

-- the words ask for a migration, and so many entries has the journal in the old dump
pub record IsMigrated (x : Setting) (entries : ℕ) : Type 0 where
  pub old : Path
  pub new : Path
  pub command : command_of x.words ≡ Some (Migrate old new)
  pub journal : JournalView
  pub held : IsJournalAt old x.before.materials.files journal
  pub count : entries ≡ length journal.past

-- the cause of each outcome
abbrev pub CauseOf : Setting → Outcome → Type 0
CauseOf x outcome.Words = command_of x.words ≡ None
CauseOf x (outcome.Routes f) = IsFaulty x f
CauseOf x outcome.FilesFault = Rose x.before.materials.files_faults x.after.materials.files_faults
CauseOf x outcome.Checked = IsCheck x
CauseOf x (outcome.Ran s) = (limit : ℕ) × AsksRun x limit × CauseOfStop x limit s
CauseOf x (outcome.Legal entries) = IsAudited x (verdict.Legal entries)
CauseOf x (outcome.Wrong entry rule) = IsAudited x (verdict.Wrong entry rule)
CauseOf x (outcome.BadDump line) = IsBadlyDumped x line
CauseOf x (outcome.Migrated entries) = IsMigrated x entries
CauseOf x outcome.SinkFault = Rose x.before.sink_faults x.after.sink_faults
CauseOf x outcome.NoMemory = Unit {0}

-- what an outcome says of the patterns' count of faults: it is as before, unless the outcome is the fault of a refused pattern, or memory was wanting
-- and a pattern was refused
abbrev pub PatternsOf : Setting → Outcome → Type 0
PatternsOf x (outcome.Routes f) = (x.after.materials.pattern_faults ≡ x.before.materials.pattern_faults) ⊎ PatternRefused (asked x) f
PatternsOf x outcome.NoMemory = IsSpared (asked x)
PatternsOf x _ = x.after.materials.pattern_faults ≡ x.before.materials.pattern_faults

-- no count of faults rose, of the files, of the patterns, of an inlet or of the sink
pub record IsUnharmed (x : Setting) : Type 0 where
  pub files : Rose x.before.materials.files_faults x.after.materials.files_faults → ⊥
  pub patterns : Rose x.before.materials.pattern_faults x.after.materials.pattern_faults → ⊥
  pub inlets : (inlet : ℕ) → InletRose x.before.inlets x.after.inlets inlet → ⊥
  pub sink : Rose x.before.sink_faults x.after.sink_faults → ⊥

-- the routes were drained, or groups are left, or the turns or the memory were too few
abbrev pub Completes : Outcome → Type 0
Completes (outcome.Ran stop.Drained) = Unit {0}
Completes (outcome.Ran (stop.Held groups)) = Unit {0}
Completes (outcome.Ran stop.Spent) = Unit {0}
Completes (outcome.Ran stop.NoMemory) = Unit {0}
Completes outcome.NoMemory = Unit {0}
Completes _ = ⊥

-- the routes were printed, or memory was wanting
abbrev pub Prints : Outcome → Type 0
Prints outcome.Checked = Unit {0}
Prints outcome.NoMemory = Unit {0}
Prints _ = ⊥

-- they were printed or ran to their end, or a journal was judged or migrated, or the words, the routes or the dump were refused, or turns or memory were
-- too few
abbrev pub IsFaultless : Outcome → Type 0
IsFaultless outcome.Words = Unit {0}
IsFaultless (outcome.Routes f) = Unit {0}
IsFaultless outcome.Checked = Unit {0}
IsFaultless (outcome.Legal entries) = Unit {0}
IsFaultless (outcome.Wrong entry rule) = Unit {0}
IsFaultless (outcome.BadDump line) = Unit {0}
IsFaultless (outcome.Migrated entries) = Unit {0}
IsFaultless o = Completes o

-- the routes were refused for this fault or for that of a refused pattern before it, or the files failed or memory was wanting
abbrev pub IsRefusedFor : List Site → RouteFault → Outcome → Type 0
IsRefusedFor at f (outcome.Routes g) = (g ≡ f) ⊎ Stops at g
IsRefusedFor at f outcome.FilesFault = Unit {0}
IsRefusedFor at f outcome.NoMemory = Unit {0}
IsRefusedFor at f _ = ⊥

-- the files are told, and this is what the file of a path holds among them
pub record IsHeldAt (p : Path) (files : Option (List File)) (read : FileRead) : Type 0 where
  pub all : List File
  pub told : files ≡ Some all
  pub held : read ≡ held_at p all

-- this is what the routes of a command are read from, if it has any: what the file that it names holds, or the built-in routes of a load
abbrev pub Holds : Command → Option (List File) → FileRead → Type 0
Holds (Drain p workers turns journal) files read = IsHeldAt p files read
Holds (Check p) files read = IsHeldAt p files read
Holds (Audit p journal) files read = IsHeldAt p files read
Holds (Load n workers) files read = read ≡ Bytes (load_text n)
Holds (Migrate old new) files read = ⊥

-- the words are a command, and this is what its routes are read from
pub record InFile (x : Setting) (k : Command) (read : FileRead) : Type 0 where
  pub command : command_of x.words ≡ Some k
  pub holds : Holds k x.before.materials.files read

-- each refused pattern is one that is too large
abbrev pub IsOfSize : Cause → Type 0
IsOfSize (cause.PatternTooLarge at) = Unit {0}
IsOfSize _ = ⊥

-- nothing is wrong at these places, and each of their patterns is one
pub record IsRight (at : List Site) : Type 0 where
  pub faultless : first_fault at ≡ None
  pub patterns : (f : RouteFault) → Stops at f → IsOfSize f.cause

-- the words are an audit of this dump with right routes, which are read from this
pub record AsksAudit (x : Setting) (dump : Path) (routes : FileRead) : Type 0 where
  pub path : Path
  pub file : InFile x (Audit path dump) routes
  pub right : IsRight (sites (asked x) routes)

-- or a migration of it
pub record AsksMigration (x : Setting) (dump : Path) : Type 0 where
  pub new : Path
  pub command : command_of x.words ≡ Some (Migrate dump new)

-- the files are told, and this is what the dump of a path holds among them
pub record IsHeldDump (p : Path) (files : Option (List File)) (read : FileRead) : Type 0 where
  pub all : List File
  pub told : files ≡ Some all
  pub held : read ≡ read_of dump_limit (bytes_at p.folder p.name all)

-- the dump was refused for its first bad line, or a pattern of the routes for its size, or the files failed or memory was wanting
abbrev pub IsRefusedDump : FileRead → Outcome → Type 0
IsRefusedDump read (outcome.BadDump line) = IsBad line read
IsRefusedDump read (outcome.Routes f) = IsOfSize f.cause
IsRefusedDump read outcome.FilesFault = Unit {0}
IsRefusedDump read outcome.NoMemory = Unit {0}
IsRefusedDump read _ = ⊥

-- the journal was judged by the routes, or a pattern of theirs was refused for its size, or the files or the sink failed, or memory was wanting
abbrev pub IsVerdictOn : RouteSet → JournalView → Outcome → Type 0
IsVerdictOn set j (outcome.Legal entries) = Says (plan_of set) j.workers j.turns j.past (verdict.Legal entries)
IsVerdictOn set j (outcome.Wrong entry rule) = Says (plan_of set) j.workers j.turns j.past (verdict.Wrong entry rule)
IsVerdictOn set j (outcome.Routes f) = IsOfSize f.cause
IsVerdictOn set j outcome.FilesFault = Unit {0}
IsVerdictOn set j outcome.SinkFault = Unit {0}
IsVerdictOn set j outcome.NoMemory = Unit {0}
IsVerdictOn set j _ = ⊥

-- a journal was judged, or memory was wanting
abbrev pub HasVerdict : Outcome → Type 0
HasVerdict (outcome.Legal entries) = Unit {0}
HasVerdict (outcome.Wrong entry rule) = Unit {0}
HasVerdict outcome.NoMemory = Unit {0}
HasVerdict _ = ⊥

-- the journal was migrated, or the files or the sink failed, or memory was wanting
abbrev pub IsMigrationOf : JournalView → Outcome → Type 0
IsMigrationOf j (outcome.Migrated entries) = entries ≡ length j.past
IsMigrationOf j outcome.FilesFault = Unit {0}
IsMigrationOf j outcome.SinkFault = Unit {0}
IsMigrationOf j outcome.NoMemory = Unit {0}
IsMigrationOf j _ = ⊥

-- what comes of a dump. One that is that of no journal is refused for its first bad line. A journal of an audit with right routes has their verdict, and
-- one of a migration is migrated, unless a pattern is refused for its size, the files or the sink fail or memory is wanting. Where no count of faults rose,
-- an audit gives its verdict, or memory is wanting
pub record Dumps (x : Setting) (o : Outcome) : Type 0 where
  pub refused : (dump : Path) (routes read : FileRead) (line : ℕ) → AsksAudit x dump routes ⊎ AsksMigration x dump
      → IsHeldDump dump x.before.materials.files read → IsBad line read → IsRefusedDump read o
  pub judged : (dump : Path) (routes read : FileRead) (j : JournalView) → AsksAudit x dump routes
      → IsHeldDump dump x.before.materials.files read → IsTextOf j read → IsVerdictOn (set_in (asked x).names routes) j o × (IsUnharmed x → HasVerdict o)
  pub migrated : (dump : Path) (read : FileRead) (j : JournalView) → AsksMigration x dump → IsHeldDump dump x.before.materials.files read → IsTextOf j read
      → IsMigrationOf j o

-- an outcome has its cause, and the patterns' count rose only where a pattern of the file was refused. Words that are no command are refused, unless
-- memory is wanting, and routes with a fault are refused, unless memory is wanting or the files fail. Where no count of faults rose, the outcome is no
-- fault of the files, a source or the sink; a command that runs its routes, and whose routes are right, runs them until nothing waits, or turns or memory
-- are too few; and a check whose file is right prints them, or memory is wanting
pub record Causes (x : Setting) (o : Outcome) : Type 0 where
  pub cause : CauseOf x o
  pub patterns : PatternsOf x o
  pub no_command : command_of x.words ≡ None → (o ≡ outcome.Words) ⊎ (o ≡ outcome.NoMemory)
  pub no_routes : (k : Command) (read : FileRead) (f : RouteFault) → InFile x k read → first_fault (sites (asked x) read) ≡ Some f
      → IsRefusedFor (sites (asked x) read) f o
  pub faultless : IsUnharmed x → IsFaultless o
  pub drained : (k : Command) (limit : ℕ) (read : FileRead) → RunsTo k limit → InFile x k read → IsRight (sites (asked x) read)
      → IsUnharmed x → Completes o
  pub checked : (p : Path) (read : FileRead) → InFile x (Check p) read → IsRight (sites (asked x) read) → IsUnharmed x → Prints o
  pub dumps : Dumps x o

-- the report of a command: what it came to, with its text written, from its cause, with its status. The files are as before, but the one that the words
-- name for the journal of a run or for a migrated one
pub record IsReport (words : List (List ℕ)) (before after : Outside) (registry : RegistryView) (r : Report) : Type 0 where
  pub reports : Reports (record { words = words; before = before; after = after; registry = registry; journal = r.journal }) r.outcome
  pub causes : Causes (record { words = words; before = before; after = after; registry = registry; journal = r.journal }) r.outcome
  pub status : r.status ≡ status_of r.outcome
  pub files : LeavesFiles (record { words = words; before = before; after = after; registry = registry; journal = r.journal }) (command_of words) r.outcome
