-- What an audit says of the text of a journal, entry by entry as it is read.
use Rattle.std.specs.Prelude.{ℕ, ◌≡◌, length, List, [], Option, Some, None, Result, Ok, Err}
use Rattle.eip_ledger.specs.declared.entry.Entry.{Entry}
use Rattle.eip_ledger.specs.View.{JournalView}
use Rattle.eip_history.specs.Plan.{Plan}
use Rattle.eip_dump.specs.declared.fault.DumpFault.{DumpFault}
use Rattle.eip_dump.specs.declared.fault.DumpFault.TheVariants as fault
use Rattle.eip_dump.specs.Dump.{IsBadAt, IsBadLine, IsDumpOf, ReadsNext, TakesAll}
use Rattle.eip_verdict.specs.declared.verdict.Verdict.{Verdict}
use Rattle.eip_verdict.specs.declared.verdict.Verdict.TheVariants.{Wrong}
use Rattle.eip_verdict.specs.Verdicts.{rule_of, Says}
use Rattle.eip_audit.specs.declared.auditor.Auditor.{Auditor}
use Rattle.eip_audit.specs.Judging.{Enters, KeepsHere}

-- what is found with one more entry, which has this number: the first wrong one stays; else it is entered, or is the first wrong one
abbrev pub Finds : Auditor → Auditor → Option Verdict → Entry → ℕ → Option Verdict → Type 0
Finds old new (Some v) e number now = now ≡ Some v
Finds old new None e number None = Enters old new e.worker e.kind
Finds old new None e number (Some v) = (v ≡ Wrong number (rule_of e.kind)) × (KeepsHere old e → ⊥)

-- the next entry of what is left, and how many bytes stand behind it; none where no more stands there and none is missing
abbrev pub ReadsNextOf : Option ℕ → (entries : ℕ) → List ℕ → Result (Option (Entry × ℕ)) DumpFault → Type 0
ReadsNextOf count n bs (Ok (Some x)) = (more : List ℕ) × (x.1 ≡ length more) × ReadsNext (λ (y : Entry × List ℕ). y) count n bs (Ok (Some (x.0, more)))
ReadsNextOf count n bs (Ok None) = ReadsNext (λ (y : Entry × List ℕ). y) count n bs (Ok None)
ReadsNextOf count n bs (Err e) = ReadsNext (λ (y : Entry × List ℕ). y) count n bs (Err e)

abbrev pub no_entries : (workers turns : ℕ) → JournalView
no_entries workers turns = record { workers = workers; turns = turns; past = []; spare = 0 }

-- what a call that judges the lines behind the first one answers: what an audit says of their entries, or the first bad line
abbrev pub JudgesLines : Plan → (workers turns : ℕ) → Option ℕ → List ℕ → Result Verdict DumpFault → Type 0
JudgesLines s workers turns count bs (Ok v) = (j : JournalView) × TakesAll count (no_entries workers turns) j bs × Says s workers turns j.past v
JudgesLines s workers turns count bs (Err (fault.BadDump k)) = IsBadAt count k bs
JudgesLines s workers turns count bs (Err fault.NoMemory) = Unit {0}

-- what an audit of a text answers: what it says of the journal whose text it is, or the first bad line
abbrev pub Audits : Plan → List ℕ → Result Verdict DumpFault → Type 0
Audits s bs (Ok v) = (j : JournalView) × IsDumpOf bs j × Says s j.workers j.turns j.past v
Audits s bs (Err (fault.BadDump k)) = IsBadLine k bs
Audits s bs (Err fault.NoMemory) = Unit {0}
