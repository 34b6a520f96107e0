-- What is told of a refusal, of a run and of a dump, by what was written.
use Rattle.std.proofs.Common.{◌≡◌, ◌≢◌, ℕ, List, Option, Result, Ok, Err, codes, inl, inr, refl, sym, ap, subst, ◌∙◌}
use Rattle.std.specs.Result.{IfOk}
use Rattle.eip_endpoint.specs.declared.files.FilesFault.{FilesFault}
use Rattle.eip_endpoint.specs.declared.files.FilesFault.TheVariants as files_fault
use Rattle.eip_ledger.specs.declared.place.Stop.TheVariants as stop
use Rattle.eip_run.specs.declared.report.Outcome.TheVariants as outcome
use Rattle.eip_run.specs.Outcomes.{unkept, left_by, judged}
use Rattle.eip_route.specs.declared.route.RouteSet.{RouteSet}
use Rattle.eip_ledger.specs.declared.place.Stop.{Stop}
use Rattle.eip_history.specs.Own.{Past}
use Rattle.eip_run.specs.declared.prepare.Refusal.{Refusal}
use Rattle.eip_run.specs.declared.print.Account.{Account}
use Rattle.eip_run.specs.declared.report.Outcome.{Outcome}
use Rattle.eip_run.specs.Reports.{Told, account_text}
use Rattle.eip_text.specs.declared.memory.NoMemory.{NoMemory}
use Rattle.eip_verdict.specs.declared.verdict.Verdict.{Verdict}
use Rattle.eip_run.specs.declared.dumps.DumpRefusal.{DumpRefusal}
use Rattle.eip_run.specs.declared.dumps.DumpRefusal.TheVariants as dump_refusal
use Rattle.eip_run.specs.Dumps.{bad_line, verdict_line, migrated_line}
use Rattle.eip_run.specs.Printed.{OfRefusal, OfNoJournal, OfBadLine, OfNoBadLine, OfVerdict, OfNoVerdict, OfUnjudged, OfEntries, OfNoEntries, OfUnmoved, OfCheck, OfRun, OfStop, OfNoText, TellsRefusal, TellsNoJournal, TellsVerdict, TellsMigration, TellsLine, TellsCheck, TellsAccount, TellsRun}

pub told-refusal : (r s : Refusal) (told : Outcome) (text other : List ℕ) {before after : Option (List ℕ)} {faults_before faults_after : ℕ} {o : Outcome} → r ≡ s → OfRefusal s told text
    → other ≡ text → Told told other before after faults_before faults_after o → TellsRefusal r before after faults_before faults_after o
told-refusal r s told text other {before} {after} {faults_before} {faults_after} {o} same of written tells =
    subst (λ (x : Refusal). TellsRefusal x before after faults_before faults_after o) (sym same)
    (record { told = told; text = text; of = of; tells = subst (λ (t : List ℕ). Told told t before after faults_before faults_after o) written tells })

pub told-run : (account : Account) (set : RouteSet) (past : Past) (s r : Stop) (kept : Result Unit FilesFault) (told : Outcome) (text other : List ℕ) {before after : Option (List ℕ)} {faults_before faults_after : ℕ} {o : Outcome} → s ≡ r
    → OfRun account set past kept r told text → other ≡ text → Told told other before after faults_before faults_after o → TellsRun account set past s kept before after faults_before faults_after o
told-run account set past s r kept told text other {before} {after} {faults_before} {faults_after} {o} same of written tells =
    subst (λ (x : Stop). TellsRun account set past x kept before after faults_before faults_after o) (sym same)
    (record { told = told; text = text; of = of; tells = subst (λ (t : List ℕ). Told told t before after faults_before faults_after o) written tells })

-- what was told, by its text
pub told-text : (told : Outcome) (text other : List ℕ) {before after : Option (List ℕ)} {faults_before faults_after : ℕ} {o : Outcome} → other ≡ text
    → Told told other before after faults_before faults_after o → Told told text before after faults_before faults_after o
told-text told text other {before} {after} {faults_before} {faults_after} {o} written tells =
    subst (λ (t : List ℕ). Told told t before after faults_before faults_after o) written tells

-- a journal that was written, and one that was not, for no want of memory
abbrev pub Made : Result Unit FilesFault → Type 0
Made (Ok u) = Unit {0}
Made (Err files_fault.Failed) = Unit {0}
Made (Err files_fault.NoMemory) = ⊥

pub was-made : (w : Result Unit FilesFault) → Made w → w ≢ Err files_fault.NoMemory
was-made w h e = subst Made e h

-- by what became of writing the journal
pub told-account : (account : Account) (set : RouteSet) (past : Past) (s : Stop) (kept answer : Result Unit FilesFault) (told : Outcome) {before after : Option (List ℕ)} {faults_before faults_after : ℕ} {o : Outcome}
    → s ≢ stop.NoMemory → kept ≡ answer → answer ≢ Err files_fault.NoMemory → told ≡ left_by s answer
    → TellsAccount told (account_text account set past s) before after faults_before faults_after o → TellsRun account set past s kept before after faults_before faults_after o
told-account account set past s kept answer told {before} {after} {faults_before} {faults_after} {o} ne is made same (inl tells) =
    subst (λ (w : Result Unit FilesFault). TellsRun account set past s w before after faults_before faults_after o) (sym is)
    (record {
      told = left_by s answer;
      text = account_text account set past s;
      of = OfStop s ne made;
      tells = subst (λ (t : Outcome). Told t (account_text account set past s) before after faults_before faults_after o) same tells;
    })
told-account account set past s kept answer told {before} {after} {faults_before} {faults_after} {o} ne is made same (inr tells) =
    record { told = outcome.NoMemory; text = codes "error memory\n"; of = OfNoText s ne; tells = tells }

-- where the files failed
pub told-failed : (account : Account) (set : RouteSet) (past : Past) (s : Stop) (kept : Result Unit FilesFault) (f : FilesFault) (told : Outcome) {before after : Option (List ℕ)} {faults_before faults_after : ℕ} {o : Outcome}
    → s ≢ stop.NoMemory → kept ≡ Err f → f ≡ files_fault.Failed → told ≡ unkept s
    → TellsAccount told (account_text account set past s) before after faults_before faults_after o → TellsRun account set past s kept before after faults_before faults_after o
told-failed account set past s kept f told ne is failed same tells =
    told-account account set past s kept (Err files_fault.Failed) told ne (is ∙ ap (λ (x : FilesFault). Err x) failed) (was-made (Err files_fault.Failed) tt) same tells

pub told-check : (set : RouteSet) (told : Outcome) (text other : List ℕ) {before after : Option (List ℕ)} {faults_before faults_after : ℕ} {o : Outcome} → OfCheck set told text
    → other ≡ text → Told told other before after faults_before faults_after o → TellsCheck set before after faults_before faults_after o
told-check set told text other {before} {after} {faults_before} {faults_after} {o} of written tells =
    record { told = told; text = text; of = of; tells = subst (λ (t : List ℕ). Told told t before after faults_before faults_after o) written tells }

-- ---- of a dump

-- a line that was told, or that no memory was left for it
pub told-line : (told : Outcome) (line : Result (List ℕ) NoMemory) (text other : List ℕ) {before after : Option (List ℕ)} {faults_before faults_after : ℕ} {o : Outcome} → line ≡ Ok text
    → other ≡ text → Told told other before after faults_before faults_after o → TellsLine told line before after faults_before faults_after o
told-line told line text other {before} {after} {faults_before} {faults_after} {o} is written tells =
    subst (λ (r : Result (List ℕ) NoMemory). TellsLine told r before after faults_before faults_after o) (sym is) (told-text told text other written tells)

pub untold-line : (told : Outcome) (line : Result (List ℕ) NoMemory) (e : NoMemory) {before after : Option (List ℕ)} {faults_before faults_after : ℕ} {o : Outcome} → line ≡ Err e
    → Told outcome.NoMemory (codes "error memory\n") before after faults_before faults_after o → TellsLine told line before after faults_before faults_after o
untold-line told line e {before} {after} {faults_before} {faults_after} {o} is tells =
    subst (λ (r : Result (List ℕ) NoMemory). TellsLine told r before after faults_before faults_after o) (sym is) tells

pub told-no-journal : (r s : DumpRefusal) (told : Outcome) (text other : List ℕ) {before after : Option (List ℕ)} {faults_before faults_after : ℕ} {o : Outcome} → r ≡ s
    → OfNoJournal s told text → other ≡ text → Told told other before after faults_before faults_after o → TellsNoJournal r before after faults_before faults_after o
told-no-journal r s told text other {before} {after} {faults_before} {faults_after} {o} same of written tells =
    subst (λ (x : DumpRefusal). TellsNoJournal x before after faults_before faults_after o) (sym same)
    (record { told = told; text = text; of = of; tells = told-text told text other written tells })

pub told-bad-line : (r : DumpRefusal) (n : ℕ) (line : Result (List ℕ) NoMemory) {before after : Option (List ℕ)} {faults_before faults_after : ℕ} {o : Outcome} → r ≡ dump_refusal.BadDump n
    → IfOk line (λ t. t ≡ bad_line n) → TellsLine (outcome.BadDump n) line before after faults_before faults_after o → TellsNoJournal r before after faults_before faults_after o
told-bad-line r n (Ok text) {before} {after} {faults_before} {faults_after} {o} is made tells =
    told-no-journal r (dump_refusal.BadDump n) (outcome.BadDump n) (bad_line n) text is (OfBadLine n) made tells
told-bad-line r n (Err e) is made tells = told-no-journal r (dump_refusal.BadDump n) outcome.NoMemory (codes "error memory\n") (codes "error memory\n") is (OfNoBadLine n) refl tells

pub told-verdict : (judged_by : Result Verdict DumpRefusal) (v : Verdict) (told : Outcome) (line : Result (List ℕ) NoMemory) {before after : Option (List ℕ)} {faults_before faults_after : ℕ} {o : Outcome}
    → judged_by ≡ Ok v → told ≡ judged v → IfOk line (λ t. t ≡ verdict_line v) → TellsLine told line before after faults_before faults_after o
    → TellsVerdict judged_by before after faults_before faults_after o
told-verdict judged_by v told line {before} {after} {faults_before} {faults_after} {o} is same made tells =
    subst (λ (r : Result Verdict DumpRefusal). TellsVerdict r before after faults_before faults_after o) (sym is) (by_line line made tells)
  where
    by_line : (l : Result (List ℕ) NoMemory) → IfOk l (λ t. t ≡ verdict_line v) → TellsLine told l before after faults_before faults_after o
        → TellsVerdict (Ok v) before after faults_before faults_after o
    by_line (Ok text) made tells = record {
      told = judged v;
      text = verdict_line v;
      of = OfVerdict v;
      tells = subst (λ (k : Outcome). Told k (verdict_line v) before after faults_before faults_after o) same (told-text told (verdict_line v) text made tells);
    }
    by_line (Err e) made tells = record { told = outcome.NoMemory; text = codes "error memory\n"; of = OfNoVerdict v; tells = tells }

pub told-unjudged : (judged_by : Result Verdict DumpRefusal) (r : DumpRefusal) {before after : Option (List ℕ)} {faults_before faults_after : ℕ} {o : Outcome} → judged_by ≡ Err r
    → TellsNoJournal r before after faults_before faults_after o → TellsVerdict judged_by before after faults_before faults_after o
told-unjudged judged_by r {before} {after} {faults_before} {faults_after} {o} is t =
    subst (λ (x : Result Verdict DumpRefusal). TellsVerdict x before after faults_before faults_after o) (sym is)
    (record { told = t.told; text = t.text; of = OfUnjudged r t.told t.text t.of; tells = t.tells })

pub told-migrated : (migrated : Result ℕ DumpRefusal) (n : ℕ) (line : Result (List ℕ) NoMemory) {before after : Option (List ℕ)} {faults_before faults_after : ℕ} {o : Outcome} → migrated ≡ Ok n
    → IfOk line (λ t. t ≡ migrated_line n) → TellsLine (outcome.Migrated n) line before after faults_before faults_after o
    → TellsMigration migrated before after faults_before faults_after o
told-migrated migrated n line {before} {after} {faults_before} {faults_after} {o} is made tells =
    subst (λ (r : Result ℕ DumpRefusal). TellsMigration r before after faults_before faults_after o) (sym is) (by_line line made tells)
  where
    by_line : (l : Result (List ℕ) NoMemory) → IfOk l (λ t. t ≡ migrated_line n) → TellsLine (outcome.Migrated n) l before after faults_before faults_after o
        → TellsMigration (Ok n) before after faults_before faults_after o
    by_line (Ok text) made tells =
        record { told = outcome.Migrated n; text = migrated_line n; of = OfEntries n; tells = told-text (outcome.Migrated n) (migrated_line n) text made tells }
    by_line (Err e) made tells = record { told = outcome.NoMemory; text = codes "error memory\n"; of = OfNoEntries n; tells = tells }

pub told-unmoved : (migrated : Result ℕ DumpRefusal) (r : DumpRefusal) {before after : Option (List ℕ)} {faults_before faults_after : ℕ} {o : Outcome} → migrated ≡ Err r
    → TellsNoJournal r before after faults_before faults_after o → TellsMigration migrated before after faults_before faults_after o
told-unmoved migrated r {before} {after} {faults_before} {faults_after} {o} is t =
    subst (λ (x : Result ℕ DumpRefusal). TellsMigration x before after faults_before faults_after o) (sym is)
    (record { told = t.told; text = t.text; of = OfUnmoved r t.told t.text t.of; tells = t.tells })
