-- What is found out of a command before anything runs.
use Rattle.std.specs.Prelude.{ℕ, ◌≡◌, ◌⊎◌, List, Option, Some, None, Result, Ok, Err, codes}
use Rattle.std.specs.Option.{IsSome}
use Rattle.eip_text.specs.Causes.{Rises}
use Rattle.eip_route.specs.declared.route.RouteSet.{RouteSet}
use Rattle.eip_route_faults.specs.Sites.{Site, first_fault, Stops, Starves, cause_failures}
use Rattle.eip_route_grammar.specs.declared.fault.Cause.{Cause}
use Rattle.eip_route_grammar.specs.declared.fault.RouteFault.{RouteFault}
use Rattle.eip_route_json.specs.Reading.{Finds}
use Rattle.eip_load.specs.Routes.{load_text}
use Rattle.eip_command.specs.Words.{command_of, path_in}
use Rattle.eip_command.specs.declared.words.Path.{Path}
use Rattle.eip_command.specs.declared.words.Command.{Command}
use Rattle.eip_command.specs.declared.words.Command.TheVariants.{Drain, Check, Audit, Load, Migrate}
use Rattle.eip_endpoint.specs.Content.{IfTold}
use Rattle.eip_endpoint.specs.Files.{File, bytes_at, read_of}
use Rattle.eip_endpoint.specs.declared.files.FileRead.{FileRead}
use Rattle.eip_endpoint.specs.declared.files.FileRead.TheVariants.{Bytes}
use Rattle.eip_run.specs.declared.prepare.Job.{Job}
use Rattle.eip_run.specs.declared.prepare.Job.TheVariants as job
use Rattle.eip_run.specs.declared.prepare.Refusal.{Refusal}
use Rattle.eip_run.specs.declared.prepare.Refusal.TheVariants as refusal
use Rattle.eip_run.specs.Given.{Asked}
use Rattle.eip_run.specs.Routes.{file_limit, sites_in, set_in}

-- all commands but a migration have routes
abbrev pub UsesRoutes : Command → Type 0
UsesRoutes (Migrate old new) = ⊥
UsesRoutes k = Unit {0}

-- what a command does, with its routes where it has any
abbrev pub job_of : Command → RouteSet → Job
job_of (Drain p workers turns journal) set = job.Drain set workers turns journal
job_of (Check p) set = job.Check set
job_of (Audit p journal) set = job.Audit set journal
job_of (Load n workers) set = job.Load set workers
job_of (Migrate old new) set = job.Migrate old new

-- the places at which a command's file is judged
abbrev pub sites : Asked → FileRead → List Site
sites x read = sites_in x.names read

-- neither the files' count of faults nor that of the patterns rose
pub record IsCalm (x : Asked) : Type 0 where
  pub files : x.after.files_faults ≡ x.before.files_faults
  pub patterns : x.after.pattern_faults ≡ x.before.pattern_faults

-- what the file of a path holds among these files
abbrev pub held_at : Path → List File → FileRead
held_at p all = read_of file_limit (bytes_at p.folder p.name all)

-- this is what the routes of a command are read from: the file that its words name, or the built-in routes of a load
abbrev pub IsReadOf : Command → Option (List File) → FileRead → Type 0
IsReadOf (Drain p workers turns journal) files read = IfTold files (λ all. read ≡ held_at p all)
IsReadOf (Check p) files read = IfTold files (λ all. read ≡ held_at p all)
IsReadOf (Audit p journal) files read = IfTold files (λ all. read ≡ held_at p all)
IsReadOf (Migrate old new) files read = ⊥
IsReadOf (Load n workers) files read = read ≡ Bytes (load_text n)

-- the routes of a command were read from this; the files' count did not rise
pub record WasRead (x : Asked) (k : Command) (read : FileRead) : Type 0 where
  pub answer : IsReadOf k x.before.files read
  pub count : x.after.files_faults ≡ x.before.files_faults

-- an answer to what the routes of a command are read from, with the files' count of faults before and after: a fault of the files can only come of a
-- command that names a file
abbrev pub Reads : Command → Option (List File) → ℕ → ℕ → Result FileRead Refusal → Type 0
Reads k files before after (Ok read) = IsReadOf k files read × (after ≡ before)
Reads k files before after (Err refusal.FilesFault) = IsSome (path_in k) × Rises 1 before after
Reads k files before after (Err refusal.NoMemory) = after ≡ before
Reads k files before after (Err refusal.Words) = ⊥
Reads k files before after (Err (refusal.Routes f)) = ⊥

-- an answer to a file that was read, with the count of patterns' faults before and after: the routes where nothing is wrong, or a fault that is
-- found, or want of memory, with the count as before, unless memory was wanting to tell the fault of a refused pattern
abbrev pub Answers : List Site → RouteSet → ℕ → ℕ → Result RouteSet Refusal → Type 0
Answers at set before after (Ok s) = (first_fault at ≡ None) × (s ≡ set) × (after ≡ before)
Answers at set before after (Err (refusal.Routes f)) = Finds at before after f
Answers at set before after (Err refusal.NoMemory) = Starves at before after
Answers at set before after (Err refusal.Words) = ⊥
Answers at set before after (Err refusal.FilesFault) = ⊥

-- a refusal of the whole file for a cause, or want of memory
abbrev pub Refuses : Cause → Refusal → Type 0
Refuses c (refusal.Routes f) = f ≡ record { path = codes "$"; cause = c }
Refuses c refusal.NoMemory = Unit {0}
Refuses c refusal.Words = ⊥
Refuses c refusal.FilesFault = ⊥

-- the routes that the words ask for were read, and this is the fault of a pattern of theirs that was refused, before which nothing is wrong; the
-- patterns' count is what that fault tells
pub record PatternRefused (x : Asked) (f : RouteFault) : Type 0 where
  pub command : Command
  pub read : FileRead
  pub asked : command_of x.words ≡ Some command
  pub answer : WasRead x command read
  pub stops : Stops (sites x read) f
  pub count : Rises (cause_failures f.cause) x.before.pattern_faults x.after.pattern_faults

-- the patterns' count is as before, unless a pattern was refused
abbrev pub IsSpared : Asked → Type 0
IsSpared x = (x.after.pattern_faults ≡ x.before.pattern_faults) ⊎ ((f : RouteFault) × PatternRefused x f)

-- the words are a command, whose routes were read and have nothing wrong, and this is their set
pub record HasRoutes (x : Asked) (k : Command) (set : RouteSet) : Type 0 where
  pub read : FileRead
  pub command : command_of x.words ≡ Some k
  pub answer : WasRead x k read
  pub patterns : x.after.pattern_faults ≡ x.before.pattern_faults
  pub faultless : first_fault (sites x read) ≡ None
  pub routes : set ≡ set_in x.names read

-- what the words ask to do, with their routes where they have any, or the first cause why there is nothing to do
pub data Prepares (x : Asked) : Result Job Refusal → Type 0 where
  NoCommand : command_of x.words ≡ None → IsCalm x → Prepares x (Err refusal.Words)
  NotRead : (k : Command) → command_of x.words ≡ Some k → IsSome (path_in k) → Rises 1 x.before.files_faults x.after.files_faults
      → x.after.pattern_faults ≡ x.before.pattern_faults → Prepares x (Err refusal.FilesFault)
  NoRoutes : (k : Command) (read : FileRead) (f : RouteFault) → command_of x.words ≡ Some k → WasRead x k read
      → Finds (sites x read) x.before.pattern_faults x.after.pattern_faults f → Prepares x (Err (refusal.Routes f))
  Found : (k : Command) (set : RouteSet) → HasRoutes x k set → Prepares x (Ok (job_of k set))
  HasNone : (old new : Path) → command_of x.words ≡ Some (Migrate old new) → IsCalm x → Prepares x (Ok (job.Migrate old new))
  LacksMemory : x.after.files_faults ≡ x.before.files_faults → IsSpared x → Prepares x (Err refusal.NoMemory)
