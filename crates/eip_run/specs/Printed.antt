-- What is told of a refusal, of a check, of a dump and of a run.
use Rattle.std.specs.Prelude.{ℕ, ◌≢◌, ◌⊎◌, List, Option, Result, Ok, Err, codes}
use Rattle.eip_route.specs.declared.route.RouteSet.{RouteSet}
use Rattle.eip_command.specs.Causes.{fault_line}
use Rattle.eip_route_grammar.specs.declared.fault.RouteFault.{RouteFault}
use Rattle.eip_route_canonical.specs.Canonical.{canonical_text}
use Rattle.eip_ledger.specs.declared.place.Stop.{Stop}
use Rattle.eip_ledger.specs.declared.place.Stop.TheVariants as stop
use Rattle.eip_history.specs.Own.{Past}
use Rattle.eip_run.specs.declared.prepare.Refusal.{Refusal}
use Rattle.eip_run.specs.declared.prepare.Refusal.TheVariants as refusal
use Rattle.eip_run.specs.declared.report.Outcome.{Outcome}
use Rattle.eip_run.specs.declared.report.Outcome.TheVariants as outcome
use Rattle.eip_run.specs.declared.print.Account.{Account}
use Rattle.eip_endpoint.specs.declared.files.FilesFault.{FilesFault}
use Rattle.eip_endpoint.specs.declared.files.FilesFault.TheVariants as files_fault
use Rattle.eip_text.specs.declared.memory.NoMemory.{NoMemory}
use Rattle.eip_verdict.specs.declared.verdict.Verdict.{Verdict}
use Rattle.eip_run.specs.declared.dumps.DumpRefusal.{DumpRefusal}
use Rattle.eip_run.specs.declared.dumps.DumpRefusal.TheVariants as dump_refusal
use Rattle.eip_run.specs.Dumps.{bad_line, verdict_line, migrated_line}
use Rattle.eip_run.specs.Outcomes.{left_by, judged}
use Rattle.eip_run.specs.Reports.{Told, account_text}

-- the outcome and the text of a refusal
pub data OfRefusal : Refusal → Outcome → List ℕ → Type 0 where
  OfWords : OfRefusal refusal.Words outcome.Words (codes "error words\n")
  OfFiles : OfRefusal refusal.FilesFault outcome.FilesFault (codes "error files\n")
  OfRoutes : (f : RouteFault) → OfRefusal (refusal.Routes f) (outcome.Routes f) (fault_line f)
  OfNoLine : (f : RouteFault) → OfRefusal (refusal.Routes f) outcome.NoMemory (codes "error memory\n")
  OfMemory : OfRefusal refusal.NoMemory outcome.NoMemory (codes "error memory\n")

-- the outcome and the text of a run of which this account is given, by its stop and what became of writing its journal
pub data OfRun (account : Account) (set : RouteSet) (past : Past) (kept : Result Unit FilesFault) : Stop → Outcome → List ℕ → Type 0 where
  OfStop : (s : Stop) → s ≢ stop.NoMemory → kept ≢ Err files_fault.NoMemory → OfRun account set past kept s (left_by s kept) (account_text account set past s)
  OfStarved : OfRun account set past kept stop.NoMemory (outcome.Ran stop.NoMemory) (codes "error memory\n")
  OfNoText : (s : Stop) → s ≢ stop.NoMemory → OfRun account set past kept s outcome.NoMemory (codes "error memory\n")

-- the outcome and the text of a check
pub data OfCheck (set : RouteSet) : Outcome → List ℕ → Type 0 where
  OfText : OfCheck set outcome.Checked (canonical_text set)
  OfNone : OfCheck set outcome.NoMemory (codes "error memory\n")

-- the outcome and the text where there is no journal
pub data OfNoJournal : DumpRefusal → Outcome → List ℕ → Type 0 where
  OfBadLine : (line : ℕ) → OfNoJournal (dump_refusal.BadDump line) (outcome.BadDump line) (bad_line line)
  OfNoBadLine : (line : ℕ) → OfNoJournal (dump_refusal.BadDump line) outcome.NoMemory (codes "error memory\n")
  OfUnread : OfNoJournal dump_refusal.FilesFault outcome.FilesFault (codes "error files\n")
  OfPoor : OfNoJournal dump_refusal.NoMemory outcome.NoMemory (codes "error memory\n")

-- those of an audit
pub data OfAudit : Result Verdict DumpRefusal → Outcome → List ℕ → Type 0 where
  OfVerdict : (v : Verdict) → OfAudit (Ok v) (judged v) (verdict_line v)
  OfNoVerdict : (v : Verdict) → OfAudit (Ok v) outcome.NoMemory (codes "error memory\n")
  OfUnjudged : (r : DumpRefusal) (told : Outcome) (text : List ℕ) → OfNoJournal r told text → OfAudit (Err r) told text

-- those of a migration
pub data OfMigration : Result ℕ DumpRefusal → Outcome → List ℕ → Type 0 where
  OfEntries : (entries : ℕ) → OfMigration (Ok entries) (outcome.Migrated entries) (migrated_line entries)
  OfNoEntries : (entries : ℕ) → OfMigration (Ok entries) outcome.NoMemory (codes "error memory\n")
  OfUnmoved : (r : DumpRefusal) (told : Outcome) (text : List ℕ) → OfNoJournal r told text → OfMigration (Err r) told text

-- a line was told under an outcome, or that no memory was left for it
abbrev pub TellsLine : Outcome → Result (List ℕ) NoMemory → (before after : Option (List ℕ)) → (faults_before faults_after : ℕ) → Outcome → Type 0
TellsLine told (Ok line) before after faults_before faults_after o = Told told line before after faults_before faults_after o
TellsLine told (Err e) before after faults_before faults_after o = Told outcome.NoMemory (codes "error memory\n") before after faults_before faults_after o

-- a text was told under an outcome, or no memory was left for it
abbrev pub TellsAccount : Outcome → List ℕ → (before after : Option (List ℕ)) → (faults_before faults_after : ℕ) → Outcome → Type 0
TellsAccount told text before after faults_before faults_after o =
    Told told text before after faults_before faults_after o ⊎ Told outcome.NoMemory (codes "error memory\n") before after faults_before faults_after o

-- one of these was told
pub record TellsRefusal (r : Refusal) (before after : Option (List ℕ)) (faults_before faults_after : ℕ) (o : Outcome) : Type 0 where
  pub told : Outcome
  pub text : List ℕ
  pub of : OfRefusal r told text
  pub tells : Told told text before after faults_before faults_after o

pub record TellsRun (account : Account) (set : RouteSet) (past : Past) (s : Stop) (kept : Result Unit FilesFault) (before after : Option (List ℕ)) (faults_before faults_after : ℕ) (o : Outcome) : Type 0 where
  pub told : Outcome
  pub text : List ℕ
  pub of : OfRun account set past kept s told text
  pub tells : Told told text before after faults_before faults_after o

pub record TellsCheck (set : RouteSet) (before after : Option (List ℕ)) (faults_before faults_after : ℕ) (o : Outcome) : Type 0 where
  pub told : Outcome
  pub text : List ℕ
  pub of : OfCheck set told text
  pub tells : Told told text before after faults_before faults_after o

pub record TellsNoJournal (r : DumpRefusal) (before after : Option (List ℕ)) (faults_before faults_after : ℕ) (o : Outcome) : Type 0 where
  pub told : Outcome
  pub text : List ℕ
  pub of : OfNoJournal r told text
  pub tells : Told told text before after faults_before faults_after o

pub record TellsVerdict (judged : Result Verdict DumpRefusal) (before after : Option (List ℕ)) (faults_before faults_after : ℕ) (o : Outcome) : Type 0 where
  pub told : Outcome
  pub text : List ℕ
  pub of : OfAudit judged told text
  pub tells : Told told text before after faults_before faults_after o

pub record TellsMigration (migrated : Result ℕ DumpRefusal) (before after : Option (List ℕ)) (faults_before faults_after : ℕ) (o : Outcome) : Type 0 where
  pub told : Outcome
  pub text : List ℕ
  pub of : OfMigration migrated told text
  pub tells : Told told text before after faults_before faults_after o
