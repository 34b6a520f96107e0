-- What a command comes to, by what was prepared and told.
use Rattle.std.proofs.Common.{◌≡◌, ℕ, ◌≤◌, List, Option, Some, None, Result, Ok, Err, codes, refl, sym, ap, subst, ◌∙◌, inl, inr}
use Rattle.eip_text.specs.Json.{Json, json_read}
use Rattle.eip_route.specs.Valid.{IsValid}
use Rattle.eip_route.specs.declared.route.Names.{Names}
use Rattle.eip_route.specs.declared.route.RouteSet.{RouteSet}
use Rattle.eip_route_faults.specs.Sites.{first_fault, Starves}
use Rattle.eip_route_grammar.specs.declared.fault.Cause.TheVariants as cause
use Rattle.eip_route_grammar.specs.declared.fault.RouteFault.{RouteFault}
use Rattle.eip_route_json.specs.Reading.{set_of, tree_set, Finds}
use Rattle.eip_route_json.proofs.Validity.{read_valid}
use Rattle.eip_endpoint.specs.declared.files.FileRead.{FileRead}
use Rattle.eip_endpoint.specs.declared.files.FileRead.TheVariants.{Bytes, Missing, TooLong}
use Rattle.eip_ledger.specs.View.{JournalView}
use Rattle.eip_ledger.specs.declared.place.Stop.{Stop}
use Rattle.eip_history.specs.Own.{Past}
use Rattle.eip_run.specs.declared.prepare.Refusal.{Refusal}
use Rattle.eip_run.specs.declared.report.Outcome.{Outcome}
use Rattle.eip_run.specs.declared.report.Outcome.TheVariants as outcome
use Rattle.eip_command.specs.Words.{command_of, journal_of, workers_of, IsDrain, IsLoad}
use Rattle.eip_command.proofs.Commands.{command_is}
use Rattle.eip_command.specs.declared.words.Path.{Path}
use Rattle.eip_command.specs.declared.words.Command.{Command}
use Rattle.eip_command.specs.declared.words.Command.TheVariants.{Drain, Check, Audit, Load, Migrate}
use Rattle.eip_run.specs.declared.prepare.Job.{Job}
use Rattle.eip_run.specs.declared.prepare.Job.TheVariants as job
use Rattle.eip_run.specs.declared.prepare.Refusal.TheVariants as refusal
use Rattle.eip_run.specs.Routes.{bytes_in, sites_in, set_in}
use Rattle.eip_core.specs.Served.{names_of}
use Rattle.eip_endpoint.specs.Files.{File}
use Rattle.eip_endpoint.specs.declared.files.FilesFault.{FilesFault}
use Rattle.eip_run.specs.Given.{Asked, Setting, asked, begun}
use Rattle.eip_run.specs.Kept.{Keeps}
use Rattle.eip_run.specs.Outcomes.{left_by}
use Rattle.eip_run.specs.declared.print.Account.{Account}
use Rattle.eip_run.specs.declared.print.Account.TheVariants as account
use Rattle.eip_run.specs.Prepared.{job_of, sites, Answers, Reads, WasRead, IsCalm, IsSpared, HasRoutes, Prepares, NoCommand, NotRead, NoRoutes, Found, HasNone, LacksMemory}
use Rattle.eip_run.specs.Printed.{OfRefusal, OfWords, OfFiles, OfRoutes, OfNoLine, OfMemory, OfCheck, OfText, OfNone, OfRun, OfStop, OfStarved, OfNoText, OfNoJournal, OfBadLine, OfNoBadLine, OfUnread, OfPoor, OfAudit, OfVerdict, OfNoVerdict, OfUnjudged, OfMigration, OfEntries, OfNoEntries, OfUnmoved, TellsRefusal, TellsCheck, TellsVerdict, TellsMigration, TellsRun}
use Rattle.eip_run.specs.Drained.{Drained, RanTo, NotBegun}
use Rattle.eip_verdict.specs.declared.verdict.Verdict.{Verdict}
use Rattle.eip_run.specs.declared.dumps.DumpRefusal.{DumpRefusal}
use Rattle.eip_run.specs.Dumps.{LacksJournal, Judges, Migrates}
use Rattle.eip_run.specs.Reports.{IsIdle, IsStill, IsRun, account_text, RunsTo, told_of, KeptBy, Comes, Reports, NoCommand as Refused, NotRead as Failed, NoRoutes as Faulty, WasChecked, Stopped, Starved, AsksDump, ToAudit, ToMigrate, DumpUnread, NoJournal, WasJudged, WasMigrated, NotMigrated, LacksMemory as Poor, LacksText, LacksLine}
use Rattle.eip_run.proofs.Runnable.{Runs, valid-runs}
use Rattle.eip_run.proofs.Sites.{whole-faulty}

pub kept-along : (named : Option Path) (j i : JournalView) (before after : Option (List File)) (faults_before faults_after : ℕ) (answer : Result Unit FilesFault) → j ≡ i
    → Keeps named j before after faults_before faults_after answer → Keeps named i before after faults_before faults_after answer
kept-along named j i before after faults_before faults_after answer e h =
    subst (λ (x : JournalView). Keeps named x before after faults_before faults_after answer) e h

pub told-along : {account : Account} {set other : RouteSet} {past behind : Past} {s : Stop} {kept : Result Unit FilesFault} {before after : Option (List ℕ)} {faults_before faults_after : ℕ} {o : Outcome} → set ≡ other → past ≡ behind
    → TellsRun account set past s kept before after faults_before faults_after o → TellsRun account other behind s kept before after faults_before faults_after o
told-along {account} {set} {other} {past} {behind} {s} {kept} {before} {after} {faults_before} {faults_after} {o} e f t =
    subst (λ (x : RouteSet). TellsRun account x behind s kept before after faults_before faults_after o) e
    (subst (λ (p : Past). TellsRun account set p s kept before after faults_before faults_after o) f t)

-- ---- what was prepared

-- the routes of a command were read
pub was-read : (x : Asked) (k : Command) (read : FileRead) → Reads k x.before.files x.before.files_faults x.after.files_faults (Ok read) → WasRead x k read
was-read x k read h = record { answer = h.0; count = h.1 }

-- they were not
pub prepared-unread : (x : Asked) (k : Command) (r : Refusal) → command_of x.words ≡ Some k → x.after.pattern_faults ≡ x.before.pattern_faults
    → Reads k x.before.files x.before.files_faults x.after.files_faults (Err r) → Prepares x (Err r)
prepared-unread x k refusal.FilesFault command calm h = NotRead k command h.0 h.1 calm
prepared-unread x k refusal.NoMemory command calm h = LacksMemory h (inl calm)
prepared-unread x k refusal.Words command calm h = absurd h
prepared-unread x k (refusal.Routes f) command calm h = absurd h

-- no memory for the reading of its routes
spared : (x : Asked) (k : Command) (read : FileRead) → command_of x.words ≡ Some k → WasRead x k read
    → Starves (sites x read) x.before.pattern_faults x.after.pattern_faults → IsSpared x
spared x k read command was (inl h) = inl h
spared x k read command was (inr (f, stops, count)) = inr (f, record { command = k; read = read; asked = command; answer = was; stops = stops; count = count })

-- nothing is taken
without : (x : Asked) (k : Command) (read : FileRead) (r : Refusal) → command_of x.words ≡ Some k → WasRead x k read
    → Answers (sites x read) (set_in x.names read) x.before.pattern_faults x.after.pattern_faults (Err r) → Prepares x (Err r)
without x k read (refusal.Routes f) command was h = NoRoutes k read f command was h
without x k read refusal.NoMemory command was h = LacksMemory was.count (spared x k read command was h)
without x k read refusal.Words command was h = absurd h
without x k read refusal.FilesFault command was h = absurd h

-- nothing to do
pub prepared-none : (x : Asked) (k : Command) (read : FileRead) (names : Names) (r : Refusal) → names ≡ x.names → command_of x.words ≡ Some k → WasRead x k read
    → Answers (sites_in names read) (set_in names read) x.before.pattern_faults x.after.pattern_faults (Err r) → Prepares x (Err r)
prepared-none x k read names r same command was h =
    without x k read r command was
    (subst (λ (n : Names). Answers (sites_in n read) (set_in n read) x.before.pattern_faults x.after.pattern_faults (Err r)) same h)

-- something to do
pub prepared-job : (x : Asked) (k : Command) (read : FileRead) (names : Names) (set : RouteSet) (j : Job) → names ≡ x.names → command_of x.words ≡ Some k
    → WasRead x k read → Answers (sites_in names read) (set_in names read) x.before.pattern_faults x.after.pattern_faults (Ok set) → j ≡ job_of k set
    → Prepares x (Ok j)
prepared-job x k read names set j same command was h made =
    let here : Answers (sites_in x.names read) (set_in x.names read) x.before.pattern_faults x.after.pattern_faults (Ok set) =
    subst (λ (n : Names). Answers (sites_in n read) (set_in n read) x.before.pattern_faults x.after.pattern_faults (Ok set)) same h in
    subst (λ (i : Job). Prepares x (Ok i)) (sym made)
    (Found k set (record { read = read; command = command; answer = was; patterns = here.2; faultless = here.0; routes = here.1 }))

-- ---- what a command comes to

-- a drain of these routes
has-drain : (x : Asked) (r : Result Job Refusal) (set : RouteSet) (workers limit : ℕ) (named : Option Path) → Prepares x r → r ≡ Ok (job.Drain set workers limit named)
    → (p : Path) × HasRoutes x (Drain p workers limit named) set
has-drain x r set workers limit named (NoCommand none calm) e = absurd (cc e)
has-drain x r set workers limit named (NotRead k command names rises calm) e = absurd (cc e)
has-drain x r set workers limit named (NoRoutes k read f command was h) e = absurd (cc e)
has-drain x r set workers limit named (Found (Drain p crew turns journal) s has) e =
    let same : s ≡ set = cc e in
    let staff : crew ≡ workers = cc e in
    let most : turns ≡ limit = cc e in
    let file : journal ≡ named = cc e in
    let here : Drain p crew turns journal ≡ Drain p workers limit named =
    ap (λ (n : ℕ). Drain p n turns journal) staff ∙ ap (λ (n : ℕ). Drain p workers n journal) most ∙ ap (λ (f : Option Path). Drain p workers limit f) file in
    (p, subst (HasRoutes x (Drain p workers limit named)) same (subst (λ (k : Command). HasRoutes x k s) here has))
has-drain x r set workers limit named (Found (Check p) s has) e = absurd (cc e)
has-drain x r set workers limit named (Found (Audit p dump) s has) e = absurd (cc e)
has-drain x r set workers limit named (Found (Load n crew) s has) e = absurd (cc e)
has-drain x r set workers limit named (Found (Migrate old new) s has) e = absurd (cc e)
has-drain x r set workers limit named (HasNone old new command calm) e = absurd (cc e)
has-drain x r set workers limit named (LacksMemory count calm) e = absurd (cc e)

-- a check of these routes
has-check : (x : Asked) (r : Result Job Refusal) (set : RouteSet) → Prepares x r → r ≡ Ok (job.Check set) → (p : Path) × HasRoutes x (Check p) set
has-check x r set (NoCommand none calm) e = absurd (cc e)
has-check x r set (NotRead k command names rises calm) e = absurd (cc e)
has-check x r set (NoRoutes k read f command was h) e = absurd (cc e)
has-check x r set (Found (Check p) s has) e = let same : s ≡ set = cc e in (p, subst (HasRoutes x (Check p)) same has)
has-check x r set (Found (Drain p workers turns journal) s has) e = absurd (cc e)
has-check x r set (Found (Audit p dump) s has) e = absurd (cc e)
has-check x r set (Found (Load n workers) s has) e = absurd (cc e)
has-check x r set (Found (Migrate old new) s has) e = absurd (cc e)
has-check x r set (HasNone old new command calm) e = absurd (cc e)
has-check x r set (LacksMemory count calm) e = absurd (cc e)

-- a load of these routes
has-load : (x : Asked) (r : Result Job Refusal) (set : RouteSet) (workers : ℕ) → Prepares x r → r ≡ Ok (job.Load set workers) → (n : ℕ) × HasRoutes x (Load n workers) set
has-load x r set workers (NoCommand none calm) e = absurd (cc e)
has-load x r set workers (NotRead k command names rises calm) e = absurd (cc e)
has-load x r set workers (NoRoutes k read f command was h) e = absurd (cc e)
has-load x r set workers (Found (Load n crew) s has) e =
    let same : s ≡ set = cc e in
    let staff : crew ≡ workers = cc e in
    (n, subst (HasRoutes x (Load n workers)) same (subst (λ (m : ℕ). HasRoutes x (Load n m) s) staff has))
has-load x r set workers (Found (Drain p crew turns journal) s has) e = absurd (cc e)
has-load x r set workers (Found (Check p) s has) e = absurd (cc e)
has-load x r set workers (Found (Audit p dump) s has) e = absurd (cc e)
has-load x r set workers (Found (Migrate old new) s has) e = absurd (cc e)
has-load x r set workers (HasNone old new command calm) e = absurd (cc e)
has-load x r set workers (LacksMemory count calm) e = absurd (cc e)

-- an audit by these routes of this dump
has-audit : (x : Asked) (r : Result Job Refusal) (set : RouteSet) (dump : Path) → Prepares x r → r ≡ Ok (job.Audit set dump) → (p : Path) × HasRoutes x (Audit p dump) set
has-audit x r set dump (NoCommand none calm) e = absurd (cc e)
has-audit x r set dump (NotRead k command names rises calm) e = absurd (cc e)
has-audit x r set dump (NoRoutes k read f command was h) e = absurd (cc e)
has-audit x r set dump (Found (Audit p d) s has) e =
    let same : s ≡ set = cc e in
    let file : d ≡ dump = cc e in
    (p, subst (HasRoutes x (Audit p dump)) same (subst (λ (f : Path). HasRoutes x (Audit p f) s) file has))
has-audit x r set dump (Found (Drain p workers turns journal) s has) e = absurd (cc e)
has-audit x r set dump (Found (Check p) s has) e = absurd (cc e)
has-audit x r set dump (Found (Load n workers) s has) e = absurd (cc e)
has-audit x r set dump (Found (Migrate old new) s has) e = absurd (cc e)
has-audit x r set dump (HasNone old new command calm) e = absurd (cc e)
has-audit x r set dump (LacksMemory count calm) e = absurd (cc e)

-- a migration of these dumps
has-migration : (x : Asked) (r : Result Job Refusal) (old new : Path) → Prepares x r → r ≡ Ok (job.Migrate old new)
    → (command_of x.words ≡ Some (Migrate old new)) × IsCalm x
has-migration x r old new (NoCommand none calm) e = absurd (cc e)
has-migration x r old new (NotRead k command names rises calm) e = absurd (cc e)
has-migration x r old new (NoRoutes k read f command was h) e = absurd (cc e)
has-migration x r old new (Found (Migrate a b) s has) e = absurd has.answer.answer
has-migration x r old new (Found (Audit p d) s has) e = absurd (cc e)
has-migration x r old new (Found (Drain p workers turns journal) s has) e = absurd (cc e)
has-migration x r old new (Found (Check p) s has) e = absurd (cc e)
has-migration x r old new (Found (Load n workers) s has) e = absurd (cc e)
has-migration x r old new (HasNone a b command calm) e =
    let from : a ≡ old = cc e in
    let to : b ≡ new = cc e in
    (command ∙ ap (λ (p : Path). Some (Migrate p b)) from ∙ ap (λ (p : Path). Some (Migrate old p)) to, calm)
has-migration x r old new (LacksMemory count calm) e = absurd (cc e)

-- a file in which nothing is wrong gives a valid set, with the names that were handed in
file-valid : (n : Names) (read : FileRead) → first_fault (sites_in n read) ≡ None → IsValid (set_in n read)
file-valid n (Bytes bytes) h = read_valid n bytes h
file-valid n Missing h = absurd (whole-faulty cause.NoFile h)
file-valid n TooLong h = absurd (whole-faulty cause.TooLong h)

file-names : (n : Names) (read : FileRead) → (set_in n read).names ≡ n
unfolding set_of
file-names n read = by_tree (json_read (bytes_in read))
  where
    by_tree : (t : Option Json) → (tree_set n t).names ≡ n
    by_tree None = refl
    by_tree (Some t) = refl

drain-runs : (n : Names) (read : FileRead) → first_fault (sites_in n read) ≡ None → Runs (set_in n read) n
drain-runs n read h = valid-runs n (set_in n read) (file-valid n read h) (file-names n read)

-- routes in which nothing is wrong can be run
pub routes-run : (x : Asked) (k : Command) (set : RouteSet) → HasRoutes x k set → Runs set x.names
routes-run x k set has = subst (λ (y : RouteSet). Runs y x.names) (sym has.routes) (drain-runs x.names has.read has.faultless)

pub prepared-runs : (x : Asked) (r : Result Job Refusal) (set : RouteSet) (workers limit : ℕ) (named : Option Path) → Prepares x r → r ≡ Ok (job.Drain set workers limit named) → Runs set x.names
prepared-runs x r set workers limit named prepares e = let has = has-drain x r set workers limit named prepares e in routes-run x (Drain has.0 workers limit named) set has.1

pub loaded-runs : (x : Asked) (r : Result Job Refusal) (set : RouteSet) (workers : ℕ) → Prepares x r → r ≡ Ok (job.Load set workers) → Runs set x.names
loaded-runs x r set workers prepares e = let has = has-load x r set workers prepares e in routes-run x (Load has.0 workers) set has.1

pub audited-runs : (x : Asked) (r : Result Job Refusal) (set : RouteSet) (dump : Path) → Prepares x r → r ≡ Ok (job.Audit set dump) → Runs set x.names
audited-runs x r set dump prepares e = let has = has-audit x r set dump prepares e in routes-run x (Audit has.0 dump) set has.1

-- its number of workers and its limit are such as a run may have
pub prepared-terms : (x : Asked) (r : Result Job Refusal) (set : RouteSet) (workers limit : ℕ) (named : Option Path) → Prepares x r
    → r ≡ Ok (job.Drain set workers limit named) → (workers ≤ 16) × (1 ≤ limit) × (limit ≤ 1000000)
prepared-terms x r set workers limit named prepares e =
    let has = has-drain x r set workers limit named prepares e in
    let said : IsDrain x.words has.0 workers limit named = command_is x.words (Drain has.0 workers limit named) has.1.command in
    (said.few, said.some, said.most)

pub loaded-terms : (x : Asked) (r : Result Job Refusal) (set : RouteSet) (workers : ℕ) → Prepares x r → r ≡ Ok (job.Load set workers) → workers ≤ 16
loaded-terms x r set workers prepares e =
    let has = has-load x r set workers prepares e in
    let said : IsLoad x.words has.0 workers = command_is x.words (Load has.0 workers) has.1.command in
    said.few

-- ---- what a run comes to

-- what was found out of a command until its routes were read, with the files and their count as they were then
abbrev pub read_to : Setting → Option (List File) → ℕ → Asked
read_to x files count = record {
  words = x.words;
  before = x.before.materials;
  after = record { files = files; files_faults = count; pattern_faults = x.after.materials.pattern_faults };
  names = names_of x.before.lanes x.before.inlets x.registry;
}

-- the routes were there when the run began
at-begin : (x : Setting) (files : Option (List File)) (count : ℕ) (k : Command) (set : RouteSet) → HasRoutes (read_to x files count) k set → HasRoutes (begun x) k set
at-begin x files count k set has = record {
  read = has.read;
  command = has.command;
  answer = record { answer = has.answer.answer; count = refl };
  patterns = has.patterns;
  faultless = has.faultless;
  routes = has.routes;
}

-- the account is the one that the command gives of its run
abbrev Gives : Command → Account → Type 0
Gives k account = (set : RouteSet) (past : Past) (s : Stop) → account_text account set past s ≡ told_of k set past s

comes-ran : (x : Setting) (k : Command) (account : Account) (limit : ℕ) (set : RouteSet) (s : Stop) (kept : Result Unit FilesFault) (told : Outcome) (text : List ℕ) → Gives k account
    → RunsTo k limit → HasRoutes (begun x) k set → IsRun x k set limit s → KeptBy x k kept → OfRun account set x.journal.past kept s told text → Comes x told text
comes-ran x k account limit set s kept told text gives to has ran keeps (OfStop _ ne wrote) =
    subst (Comes x (left_by s kept)) (sym (gives set x.journal.past s)) (Stopped k limit set s kept to has ran ne keeps wrote)
comes-ran x k account limit set s kept told text gives to has ran keeps OfStarved = Starved k limit set kept to has ran keeps
comes-ran x k account limit set s kept told text gives to has ran keeps (OfNoText _ ne) = LacksText k limit set s kept to has ran ne keeps

-- a run of these routes by a command, of which this account was given, where the files and their count were these when it began
abbrev WasDrained : Setting → Account → Option Path → RouteSet → (workers limit : ℕ) → Option (List File) → ℕ → Outcome → Type 0
WasDrained x account named set workers limit files count o =
    Drained account named set workers limit x.journal files x.after.materials.files count x.after.materials.files_faults x.before.lanes x.after.lanes x.before.inlets x.after.inlets x.registry
    x.before.written x.after.written x.before.sink_faults x.after.sink_faults o

reports-run : (x : Setting) (k : Command) (account : Account) (set : RouteSet) (limit : ℕ) (files : Option (List File)) (count : ℕ) {o : Outcome} → Gives k account → RunsTo k limit
    → HasRoutes (read_to x files count) k set → files ≡ x.before.materials.files → WasDrained x account (journal_of k) set (workers_of k) limit files count o → Reports x o
reports-run x k account set limit files count gives to has same (RanTo s kept o ran keeps tells) =
    let began : KeptBy x k kept =
    subst (λ (f : Option (List File)). Keeps (journal_of k) x.journal f x.after.materials.files x.before.materials.files_faults x.after.materials.files_faults kept) same
    (subst (λ (n : ℕ). Keeps (journal_of k) x.journal files x.after.materials.files n x.after.materials.files_faults kept) has.answer.count keeps) in
    record {
      told = tells.told;
      text = tells.text;
      comes = comes-ran x k account limit set s kept tells.told tells.text gives to (at-begin x files count k set has) ran began tells.of;
      tells = tells.tells;
    }
reports-run x k account set limit files count gives to has same (NotBegun o new unchanged counted lanes inlets told) = record {
  told = outcome.NoMemory;
  text = codes "error memory\n";
  comes = Poor (record { files = unchanged ∙ same; idle = record { lanes = lanes; inlets = inlets; journal = new } }) (counted ∙ has.answer.count) (inl has.patterns);
  tells = told;
}

pub reports-drained : (x : Setting) (r : Result Job Refusal) (set : RouteSet) (workers limit : ℕ) (named : Option Path) (files : Option (List File)) (count : ℕ) {o : Outcome}
    → Prepares (read_to x files count) r → r ≡ Ok (job.Drain set workers limit named) → files ≡ x.before.materials.files
    → WasDrained x account.Whole named set workers limit files count o → Reports x o
reports-drained x r set workers limit named files count prepares e same drained =
    let has = has-drain (read_to x files count) r set workers limit named prepares e in
    reports-run x (Drain has.0 workers limit named) account.Whole set limit files count (λ _ _ _. refl) refl has.1 same drained

pub reports-loaded : (x : Setting) (r : Result Job Refusal) (set : RouteSet) (workers : ℕ) (files : Option (List File)) (count : ℕ) {o : Outcome} → Prepares (read_to x files count) r
    → r ≡ Ok (job.Load set workers) → files ≡ x.before.materials.files → WasDrained x account.Summary None set workers 1000000 files count o → Reports x o
reports-loaded x r set workers files count prepares e same drained =
    let has = has-load (read_to x files count) r set workers prepares e in
    reports-run x (Load has.0 workers) account.Summary set 1000000 files count (λ _ _ _. refl) refl has.1 same drained

comes-checked : (x : Setting) (p : Path) (set : RouteSet) (told : Outcome) (text : List ℕ) → HasRoutes (asked x) (Check p) set → IsStill x → OfCheck set told text → Comes x told text
comes-checked x p set told text has still OfText = WasChecked p set has still
comes-checked x p set told text has still OfNone = Poor still has.answer.count (inl has.patterns)

pub reports-checked : (x : Setting) (r : Result Job Refusal) (set : RouteSet) {o : Outcome} → Prepares (asked x) r → r ≡ Ok (job.Check set) → IsStill x
    → TellsCheck set x.before.written x.after.written x.before.sink_faults x.after.sink_faults o → Reports x o
reports-checked x r set prepares e still tells =
    let has = has-check (asked x) r set prepares e in
    record { told = tells.told; text = tells.text; comes = comes-checked x has.0 set tells.told tells.text has.1 still tells.of; tells = tells.tells }

-- ---- what an audit and a migration come to

-- the routes are there at the end too, where no count of the files rose
at-end : (x : Setting) (k : Command) (set : RouteSet) → HasRoutes (begun x) k set → x.after.materials.files_faults ≡ x.before.materials.files_faults → HasRoutes (asked x) k set
at-end x k set has same = record {
  read = has.read;
  command = has.command;
  answer = record { answer = has.answer.answer; count = same };
  patterns = has.patterns;
  faultless = has.faultless;
  routes = has.routes;
}

asks-at-end : (x : Setting) (dump : Path) → AsksDump (begun x) dump → x.after.materials.files_faults ≡ x.before.materials.files_faults → AsksDump (asked x) dump
asks-at-end x dump (ToAudit p d set has) same = ToAudit p dump set (at-end x (Audit p dump) set has same)
asks-at-end x dump (ToMigrate old new command calm) same = ToMigrate dump new command (record { files = same; patterns = calm.patterns })

asks-spared : (x : Setting) (dump : Path) → AsksDump (begun x) dump → IsSpared (asked x)
asks-spared x dump (ToAudit p d set has) = inl has.patterns
asks-spared x dump (ToMigrate old new command calm) = inl calm.patterns

comes-unread : (x : Setting) (dump : Path) (r : DumpRefusal) (told : Outcome) (text : List ℕ) → IsStill x → AsksDump (begun x) dump
    → LacksJournal dump x.before.materials.files x.before.materials.files_faults x.after.materials.files_faults r → OfNoJournal r told text → Comes x told text
comes-unread x dump r told text still asks h (OfBadLine line) = NoJournal dump line (asks-at-end x dump asks h.1) still h.0
comes-unread x dump r told text still asks h (OfNoBadLine line) = Poor still h.1 (asks-spared x dump asks)
comes-unread x dump r told text still asks h OfUnread = DumpUnread dump asks still h
comes-unread x dump r told text still asks h OfPoor = Poor still h (asks-spared x dump asks)

comes-judged : (x : Setting) (p dump : Path) (set : RouteSet) (judged : Result Verdict DumpRefusal) (told : Outcome) (text : List ℕ) → HasRoutes (begun x) (Audit p dump) set → IsStill x
    → Judges set dump x.before.materials.files x.before.materials.files_faults x.after.materials.files_faults judged → OfAudit judged told text → Comes x told text
comes-judged x p dump set judged told text has still h (OfVerdict v) = WasJudged p dump set v (at-end x (Audit p dump) set has h.1) still h.0
comes-judged x p dump set judged told text has still h (OfNoVerdict v) = Poor still h.1 (inl has.patterns)
comes-judged x p dump set judged told text has still h (OfUnjudged r _ _ of) = comes-unread x dump r told text still (ToAudit p dump set has) h of

pub reports-judged : (x : Setting) (r : Result Job Refusal) (set : RouteSet) (dump : Path) (files : Option (List File)) (count : ℕ) (judged : Result Verdict DumpRefusal) {o : Outcome}
    → Prepares (read_to x files count) r → r ≡ Ok (job.Audit set dump) → files ≡ x.before.materials.files → x.after.materials.files ≡ files → IsIdle x
    → Judges set dump files count x.after.materials.files_faults judged → TellsVerdict judged x.before.written x.after.written x.before.sink_faults x.after.sink_faults o → Reports x o
reports-judged x r set dump files count judged prepares e same kept idle h tells =
    let has = has-audit (read_to x files count) r set dump prepares e in
    let here : Judges set dump x.before.materials.files x.before.materials.files_faults x.after.materials.files_faults judged =
    subst (λ (f : Option (List File)). Judges set dump f x.before.materials.files_faults x.after.materials.files_faults judged) same
    (subst (λ (n : ℕ). Judges set dump files n x.after.materials.files_faults judged) has.1.answer.count h) in
    record {
      told = tells.told;
      text = tells.text;
      comes = comes-judged x has.0 dump set judged tells.told tells.text (at-begin x files count (Audit has.0 dump) set has.1) (record { files = kept ∙ same; idle = idle }) here tells.of;
      tells = tells.tells;
    }

-- the journal was not written to the new dump
comes-unmoved : (x : Setting) (old new : Path) (r : DumpRefusal) (told : Outcome) (text : List ℕ) → command_of x.words ≡ Some (Migrate old new) → IsCalm (begun x) → IsIdle x
    → Migrates old new x.before.materials.files x.after.materials.files x.before.materials.files_faults x.after.materials.files_faults (Err r) → OfNoJournal r told text → Comes x told text
comes-unmoved x old new r told text command calm idle h (OfBadLine line) =
    NoJournal old line (ToMigrate old new command (record { files = h.1.1; patterns = calm.patterns })) (record { files = h.0; idle = idle }) h.1.0
comes-unmoved x old new r told text command calm idle h (OfNoBadLine line) = Poor (record { files = h.0; idle = idle }) h.1.1 (inl calm.patterns)
comes-unmoved x old new r told text command calm idle (inl h) OfUnread = DumpUnread old (ToMigrate old new command calm) (record { files = h.0; idle = idle }) h.1
comes-unmoved x old new r told text command calm idle (inr h) OfUnread =
    NotMigrated old new h.0 (record { command = command; idle = idle; patterns = calm.patterns; moved = h.1 })
comes-unmoved x old new r told text command calm idle h OfPoor = Poor (record { files = h.0; idle = idle }) h.1 (inl calm.patterns)

comes-migrated : (x : Setting) (old new : Path) (migrated : Result ℕ DumpRefusal) (told : Outcome) (text : List ℕ) → command_of x.words ≡ Some (Migrate old new) → IsCalm (begun x) → IsIdle x
    → Migrates old new x.before.materials.files x.after.materials.files x.before.materials.files_faults x.after.materials.files_faults migrated → OfMigration migrated told text → Comes x told text
comes-migrated x old new migrated told text command calm idle h (OfEntries n) =
    WasMigrated old new n (record { command = command; idle = idle; patterns = calm.patterns; moved = h })
comes-migrated x old new migrated told text command calm idle h (OfNoEntries n) =
    LacksLine old new n (record { command = command; idle = idle; patterns = calm.patterns; moved = h })
comes-migrated x old new migrated told text command calm idle h (OfUnmoved r _ _ of) = comes-unmoved x old new r told text command calm idle h of

pub reports-migrated : (x : Setting) (r : Result Job Refusal) (old new : Path) (files : Option (List File)) (count : ℕ) (migrated : Result ℕ DumpRefusal) {o : Outcome}
    → Prepares (read_to x files count) r → r ≡ Ok (job.Migrate old new) → files ≡ x.before.materials.files → IsIdle x
    → Migrates old new files x.after.materials.files count x.after.materials.files_faults migrated
    → TellsMigration migrated x.before.written x.after.written x.before.sink_faults x.after.sink_faults o → Reports x o
reports-migrated x r old new files count migrated prepares e same idle h tells =
    let has = has-migration (read_to x files count) r old new prepares e in
    let here : Migrates old new x.before.materials.files x.after.materials.files x.before.materials.files_faults x.after.materials.files_faults migrated =
    subst (λ (f : Option (List File)). Migrates old new f x.after.materials.files x.before.materials.files_faults x.after.materials.files_faults migrated) same
    (subst (λ (n : ℕ). Migrates old new files x.after.materials.files n x.after.materials.files_faults migrated) has.1.files h) in
    record {
      told = tells.told;
      text = tells.text;
      comes = comes-migrated x old new migrated tells.told tells.text has.0 (record { files = refl; patterns = has.1.patterns }) idle here tells.of;
      tells = tells.tells;
    }

-- ---- what a refusal comes to

-- no memory for the line of a fault
untold-spared : (x : Asked) (k : Command) (read : FileRead) (f : RouteFault) → command_of x.words ≡ Some k → WasRead x k read
    → Finds (sites x read) x.before.pattern_faults x.after.pattern_faults f → IsSpared x
untold-spared x k read f command was (inl h) = inl h.1
untold-spared x k read f command was (inr h) = inr (f, record { command = k; read = read; asked = command; answer = was; stops = h.0; count = h.1 })

comes-refused : (x : Setting) (r : Refusal) (told : Outcome) (text : List ℕ) → IsStill x → Prepares (asked x) (Err r) → OfRefusal r told text → Comes x told text
comes-refused x r told text still (NoCommand none calm) OfWords = Refused none still calm
comes-refused x r told text still (NotRead k command names rises calm) OfFiles = Failed k command names still rises calm
comes-refused x r told text still (NoRoutes k read f command was h) (OfRoutes _) = Faulty k read f command still was h
comes-refused x r told text still (NoRoutes k read f command was h) (OfNoLine _) = Poor still was.count (untold-spared (asked x) k read f command was h)
comes-refused x r told text still (LacksMemory count calm) OfMemory = Poor still count calm

pub reports-refused : (x : Setting) (r : Refusal) {o : Outcome} → Prepares (asked x) (Err r) → IsStill x
    → TellsRefusal r x.before.written x.after.written x.before.sink_faults x.after.sink_faults o → Reports x o
reports-refused x r prepares still tells =
    record { told = tells.told; text = tells.text; comes = comes-refused x r tells.told tells.text still prepares tells.of; tells = tells.tells }
