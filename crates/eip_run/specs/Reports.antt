-- What a command comes to, what it writes, and what it leaves.
use Rattle.std.specs.Prelude.{ℕ, zero, suc, ◌≡◌, ◌≢◌, ◌++◌, ◌⊎◌, List, [], codes, Option, Some, None, Result, Ok, Err, IsErrOf}
use Rattle.eip_text.specs.Causes.{Rises}
use Rattle.eip_route.specs.declared.route.RouteSet.{RouteSet}
use Rattle.eip_route_json.specs.Reading.{Finds}
use Rattle.eip_route_grammar.specs.declared.fault.RouteFault.{RouteFault}
use Rattle.eip_route_canonical.specs.Canonical.{canonical_text}
use Rattle.std.specs.Option.{IsSome}
use Rattle.eip_command.specs.Words.{default_turns, command_of, path_in, journal_of, workers_of}
use Rattle.eip_command.specs.Causes.{fault_line}
use Rattle.eip_command.specs.declared.words.Path.{Path}
use Rattle.eip_command.specs.declared.words.Command.{Command}
use Rattle.eip_command.specs.declared.words.Command.TheVariants.{Drain, Check, Audit, Load, Migrate}
use Rattle.eip_endpoint.specs.declared.files.FileRead.{FileRead}
use Rattle.eip_endpoint.specs.declared.files.FilesFault.{FilesFault}
use Rattle.eip_endpoint.specs.declared.files.FilesFault.TheVariants as files_fault
use Rattle.eip_endpoint.specs.declared.sink.SinkFault.{SinkFault}
use Rattle.eip_endpoint.specs.declared.sink.SinkFault.TheVariants as fault
use Rattle.eip_endpoint.specs.Sinks.{Wrote, sink_failure}
use Rattle.eip_endpoint.specs.Lanes.{LaneView, LanesGrew}
use Rattle.eip_endpoint.specs.Inlets.{InletView, InletsGrew}
use Rattle.eip_endpoint.specs.Outside.{calls}
use Rattle.eip_ledger.specs.View.{JournalView}
use Rattle.eip_ledger.specs.declared.place.Stop.{Stop}
use Rattle.eip_ledger.specs.declared.place.Stop.TheVariants as stop
use Rattle.eip_history.specs.Own.{Past}
use Rattle.eip_history.specs.Owner.{IsOwned}
use Rattle.eip_history.specs.Rules.{IsLegal, served}
use Rattle.eip_history.specs.Stop.{stop_of, IsPlain}
use Rattle.eip_history.specs.BookText.{log_text_of, book_text_of, summary_text_of}
use Rattle.eip_outlets.specs.Outlets.{outlets}
use Rattle.eip_owners.specs.Owners.{entries_of}
use Rattle.eip_plan.specs.Plan.{plan_of}
use Rattle.eip_endbook.specs.Names.{route_names}
use Rattle.eip_core.specs.Doors.{doors_among}
use Rattle.eip_processor.specs.Registered.{RegistryView}
use Rattle.eip_core.specs.Outside.{AreTheirs, seen_answers, inlet_acts}
use Rattle.eip_run.specs.declared.print.Account.{Account}
use Rattle.eip_run.specs.declared.print.Account.TheVariants as account
use Rattle.eip_run.specs.declared.report.Outcome.{Outcome}
use Rattle.eip_run.specs.declared.report.Outcome.TheVariants as outcome
use Rattle.eip_verdict.specs.declared.verdict.Verdict.{Verdict}
use Rattle.eip_run.specs.Given.{Asked, Setting, asked, begun}
use Rattle.eip_run.specs.Prepared.{sites, IsCalm, WasRead, IsSpared, HasRoutes}
use Rattle.eip_run.specs.Kept.{Keeps}
use Rattle.eip_run.specs.Dumps.{IsBadAt, IsJudged, Moved, bad_line, verdict_line, migrated_line}
use Rattle.eip_run.specs.Outcomes.{left_by, judged, behind}

-- the journal where nothing ran: without entries, for no workers and as many turns as where no words name them
pub record IsNew (j : JournalView) : Type 0 where
  pub workers : j.workers ≡ 0
  pub turns : j.turns ≡ default_turns
  pub past : j.past ≡ []

-- nothing ran: lanes and inlets are as before and the journal is new
pub record IsIdle (x : Setting) : Type 0 where
  pub lanes : x.after.lanes ≡ x.before.lanes
  pub inlets : x.after.inlets ≡ x.before.inlets
  pub journal : IsNew x.journal

-- nothing ran, and the files are as before too
pub record IsStill (x : Setting) : Type 0 where
  pub files : x.after.materials.files ≡ x.before.materials.files
  pub idle : IsIdle x

-- the entries of a run by workers: worker 0 made none of them, and each on a lane or an inlet is one of its owner's
pub record IsShared (set : RouteSet) (workers : ℕ) (past : Past) : Type 0 where
  pub staffed : entries_of 0 past ≡ []
  pub owned : IsOwned (plan_of set) (outlets set) workers past

-- who made the entries of a run: without workers the actor whose turn it was, each time, and else the workers
abbrev pub IsMade : RouteSet → (workers : ℕ) → Past → Type 0
IsMade set zero past = IsPlain (plan_of set) past
IsMade set (suc n) past = IsShared set (suc n) past

-- the headline of a run of a set by so many workers with a limit on its turns: the journal is a legal history of the set, made without workers by the
-- actor whose turn it was, each time, and else by the workers; its stop is what it says, lanes and inlets did what its entries and answers say, in their
-- order, and what was processed or tested by a name was answered by the one of that name
pub record Ran (set : RouteSet) (crew limit : ℕ) (j : JournalView) (s : Stop) (lanes_before lanes_after : List LaneView)
    (inlets_before inlets_after : List InletView) (registry : RegistryView) : Type 0 where
  pub workers : j.workers ≡ crew
  pub turns : j.turns ≡ limit
  pub legal : IsLegal (plan_of set) crew limit j.past
  pub made : IsMade set crew j.past
  pub stops : (s ≡ stop.NoMemory) ⊎ (stop_of (plan_of set) limit j.past ≡ Some s)
  pub lanes : LanesGrew 0 (calls (doors_among set lanes_before inlets_before) (seen_answers (served (plan_of set) j.past))) lanes_before lanes_after
  pub inlets : InletsGrew 0 (inlet_acts (doors_among set lanes_before inlets_before) j.past (seen_answers (served (plan_of set) j.past))) inlets_before inlets_after
  pub theirs : AreTheirs registry (served (plan_of set) j.past)

-- the run that a command made
abbrev pub IsRun : Setting → Command → RouteSet → (limit : ℕ) → Stop → Type 0
IsRun x k set limit s = Ran set (workers_of k) limit x.journal s x.before.lanes x.after.lanes x.before.inlets x.after.inlets x.registry

-- the log and the book of a run
abbrev pub run_text : RouteSet → Past → Stop → List ℕ
run_text set past stop = log_text_of (plan_of set) past ++ book_text_of (plan_of set) (route_names set) past stop

-- the last three lines of its book
abbrev pub summary_text : RouteSet → Past → Stop → List ℕ
summary_text set past stop = summary_text_of (plan_of set) (route_names set) past stop

-- an account of a run
abbrev pub account_text : Account → RouteSet → Past → Stop → List ℕ
account_text account.Whole set past stop = run_text set past stop
account_text account.Summary set past stop = summary_text set past stop

-- the command runs its routes, for at most so many turns
abbrev pub RunsTo : Command → (limit : ℕ) → Type 0
RunsTo (Drain p workers turns journal) limit = limit ≡ turns
RunsTo (Load n workers) limit = limit ≡ 1000000
RunsTo (Check p) limit = ⊥
RunsTo (Audit p journal) limit = ⊥
RunsTo (Migrate old new) limit = ⊥

-- what a command tells of its run: a drain the log and the book, a load the last lines of the book alone
abbrev pub told_of : Command → RouteSet → Past → Stop → List ℕ
told_of (Drain p workers turns journal) set past stop = run_text set past stop
told_of (Load n workers) set past stop = summary_text set past stop
told_of (Check p) set past stop = []
told_of (Audit p journal) set past stop = []
told_of (Migrate old new) set past stop = []

-- the journal of the run was written to the file that the command names for it, as the answer says
abbrev pub KeptBy : Setting → Command → (answer : Result Unit FilesFault) → Type 0
KeptBy x k answer =
    Keeps (journal_of k) x.journal x.before.materials.files x.after.materials.files x.before.materials.files_faults x.after.materials.files_faults answer

-- the words ask for the dump of this path: for an audit, with routes that have nothing wrong, or for a migration
pub data AsksDump (x : Asked) : Path → Type 0 where
  ToAudit : (p dump : Path) (set : RouteSet) → HasRoutes x (Audit p dump) set → AsksDump x dump
  ToMigrate : (old new : Path) → command_of x.words ≡ Some (Migrate old new) → IsCalm x → AsksDump x old

-- the journal in the old dump, of so many entries, was written to the new one, as the answer says
pub record IsMigration (x : Setting) (old new : Path) (entries : ℕ) (answer : Result Unit FilesFault) : Type 0 where
  pub command : command_of x.words ≡ Some (Migrate old new)
  pub idle : IsIdle x
  pub patterns : x.after.materials.pattern_faults ≡ x.before.materials.pattern_faults
  pub moved : Moved old new x.before.materials.files x.after.materials.files x.before.materials.files_faults x.after.materials.files_faults entries answer

-- which outcome a command comes to, with the text that it is to write
pub data Comes (x : Setting) : Outcome → List ℕ → Type 0 where
  -- the words are no command
  NoCommand : command_of x.words ≡ None → IsStill x → IsCalm (asked x) → Comes x outcome.Words (codes "error words\n")
  -- the route file that the words name could not be read, and the count of faults of the files rose
  NotRead : (k : Command) → command_of x.words ≡ Some k → IsSome (path_in k) → IsStill x → Rises 1 x.before.materials.files_faults x.after.materials.files_faults
      → x.after.materials.pattern_faults ≡ x.before.materials.pattern_faults → Comes x outcome.FilesFault (codes "error files\n")
  -- the routes have a fault, which is their first one or that of a refused pattern before it
  NoRoutes : (k : Command) (read : FileRead) (f : RouteFault) → command_of x.words ≡ Some k → IsStill x → WasRead (asked x) k read
      → Finds (sites (asked x) read) x.before.materials.pattern_faults x.after.materials.pattern_faults f → Comes x (outcome.Routes f) (fault_line f)
  -- the routes were checked
  WasChecked : (p : Path) (set : RouteSet) → HasRoutes (asked x) (Check p) set → IsStill x → Comes x outcome.Checked (canonical_text set)
  -- the routes ran to a stop, with the limit on turns of the command, and their journal was written to its file, or the files failed in that
  Stopped : (k : Command) (limit : ℕ) (set : RouteSet) (s : Stop) (kept : Result Unit FilesFault) → RunsTo k limit → HasRoutes (begun x) k set → IsRun x k set limit s
      → s ≢ stop.NoMemory → KeptBy x k kept → kept ≢ Err files_fault.NoMemory → Comes x (left_by s kept) (told_of k set x.journal.past s)
  -- the routes ran until no memory was left; their journal is written all the same, if it can be
  Starved : (k : Command) (limit : ℕ) (set : RouteSet) (kept : Result Unit FilesFault) → RunsTo k limit → HasRoutes (begun x) k set → IsRun x k set limit stop.NoMemory
      → KeptBy x k kept → Comes x (outcome.Ran stop.NoMemory) (codes "error memory\n")
  -- the dump that the words name could not be read, and the count of faults of the files rose
  DumpUnread : (dump : Path) → AsksDump (begun x) dump → IsStill x → Rises 1 x.before.materials.files_faults x.after.materials.files_faults
      → Comes x outcome.FilesFault (codes "error files\n")
  -- it is that of no journal
  NoJournal : (dump : Path) (line : ℕ) → AsksDump (asked x) dump → IsStill x → IsBadAt dump x.before.materials.files line
      → Comes x (outcome.BadDump line) (bad_line line)
  -- the journal in it was judged
  WasJudged : (p dump : Path) (set : RouteSet) (v : Verdict) → HasRoutes (asked x) (Audit p dump) set → IsStill x → IsJudged set dump x.before.materials.files v
      → Comes x (judged v) (verdict_line v)
  -- the journal in the old dump was written to the new one
  WasMigrated : (old new : Path) (entries : ℕ) → IsMigration x old new entries (Ok tt) → Comes x (outcome.Migrated entries) (migrated_line entries)
  -- the files failed in that
  NotMigrated : (old new : Path) (entries : ℕ) → IsMigration x old new entries (Err files_fault.Failed) → Comes x outcome.FilesFault (codes "error files\n")
  -- no memory was left before the routes ran or a dump was written, or for the text of a check or an audit, or to tell a fault of the routes or the dump
  LacksMemory : IsStill x → x.after.materials.files_faults ≡ x.before.materials.files_faults → IsSpared (asked x)
      → Comes x outcome.NoMemory (codes "error memory\n")
  -- no memory was left for the text of a run, or to write its journal
  LacksText : (k : Command) (limit : ℕ) (set : RouteSet) (s : Stop) (kept : Result Unit FilesFault) → RunsTo k limit → HasRoutes (begun x) k set → IsRun x k set limit s
      → s ≢ stop.NoMemory → KeptBy x k kept → Comes x outcome.NoMemory (codes "error memory\n")
  -- the journal in the old dump was written to the new one, and no memory was left to tell so
  LacksLine : (old new : Path) (entries : ℕ) → IsMigration x old new entries (Ok tt) → Comes x outcome.NoMemory (codes "error memory\n")

-- a text was written for an outcome, or the front of it where the sink failed, and the outcome is what that left of it
pub record Told (told : Outcome) (text : List ℕ) (before after : Option (List ℕ)) (faults_before faults_after : ℕ) (o : Outcome) : Type 0 where
  pub write : Result Unit SinkFault
  pub wrote : Wrote before text write after
  pub memory : IsErrOf write fault.NoMemory → after ≡ before
  pub faults : Rises (sink_failure write) faults_before faults_after
  pub outcome : o ≡ behind told write

-- what a command came to, and its text written
pub record Reports (x : Setting) (o : Outcome) : Type 0 where
  pub told : Outcome
  pub text : List ℕ
  pub comes : Comes x told text
  pub tells : Told told text x.before.written x.after.written x.before.sink_faults x.after.sink_faults o
