-- The walk over the lines of a dump: the entries read so far, and one more.
use Rattle.std.proofs.Common.{◌≡◌, ℕ, ◌+◌, ◌-◌, ◌^◌, ◌<◌, arith, drop, length-append, List, [], ◌∷◌, ◌++◌, length, Option, Some, None, Result, Ok, Err, refl, sym, ap, subst, ◌∙◌, inr}
use Rattle.std.proofs.Math.Seq.{drop-append_seam}
use Rattle.eip_route.specs.declared.route.RouteSet.{RouteSet}
use Rattle.eip_ledger.specs.declared.entry.Entry.{Entry}
use Rattle.eip_ledger.specs.View.{JournalView}
use Rattle.eip_history.specs.Plan.{Plan}
use Rattle.eip_history.specs.Own.{Past}
use Rattle.eip_history.specs.Rules.{IsLegal}
use Rattle.eip_plan.specs.Plan.{plan_of}
use Rattle.eip_dump.specs.Dump.{HasRoom, IsMissing, IsFirst, first_text}
use Rattle.eip_dump.specs.declared.fault.DumpFault.{DumpFault}
use Rattle.eip_dump.specs.declared.fault.DumpFault.TheVariants as fault
use Rattle.eip_dump.specs.declared.first_line.First.{First}
use Rattle.eip_dump.specs.Kept.{IsEntry}
use Rattle.eip_dump.specs.Lines.{entry_text}
use Rattle.eip_dump.proofs.ReadLines.{SoFar, so_far_more, all_lines, dump_read}
use Rattle.eip_verdict.specs.declared.verdict.Verdict.{Verdict}
use Rattle.eip_verdict.specs.declared.verdict.Verdict.TheVariants.{Legal, Wrong}
use Rattle.eip_verdict.specs.Verdicts.{rule_of, Keeps, IsFirstWrong, Says}
use Rattle.eip_hub.specs.View.{BooksView, plan}
use Rattle.eip_audit.specs.declared.auditor.Auditor.{Auditor}
use Rattle.eip_audit.specs.Dumped.{Finds, no_entries, JudgesLines, Audits}
use Rattle.eip_audit.specs.Judging.{Holds, KeepsHere}

-- the auditor's books have these entries
pub record HasEntered (set : RouteSet) (workers turns : ℕ) (past : Past) (a : Auditor) : Type 0 where
  pub set_is : a.books.set ≡ set
  pub workers_are : a.books.journal.workers ≡ workers
  pub turns_are : a.books.journal.turns ≡ turns
  pub past_is : a.books.journal.past ≡ past
  pub holds : Holds a

-- what was found in these entries
abbrev pub HasFound : RouteSet → (workers turns : ℕ) → Past → Auditor → Option Verdict → Type 0
HasFound set workers turns past a None = HasEntered set workers turns past a
HasFound set workers turns past a (Some (Wrong entry rule)) = IsFirstWrong (plan_of set) workers turns past entry rule
HasFound set workers turns past a (Some (Legal entries)) = ⊥

-- the entries so far, what stands behind them, and what was found
pub record Walked (set : RouteSet) (workers turns : ℕ) (count : Option ℕ) (bs rest : List ℕ) (n : ℕ) (a : Auditor) (found : Option Verdict) : Type 0 where
  pub past : Past
  pub so_far : SoFar count past bs rest n
  pub told : HasFound set workers turns past a found

-- of what is left only what stands behind the next line
pub left_behind : (line more rest : List ℕ) (left : ℕ) → rest ≡ line ++ more → left ≡ length more → drop (length rest - left) rest ≡ more
left_behind line more rest left split many =
    let size : length rest ≡ length line + length more = ap length split ∙ length-append line more in
    let gone : length rest - left ≡ length line = omega (arith, size, many) in
    rw (gone, split) (drop-append_seam line more)

module _ (set : RouteSet) (w t : ℕ) (past : Past) (a : Auditor) where
  -- what the auditor's books have is what was handed in
  here : (P : Plan → ℕ → ℕ → Past → Type 0) → HasEntered set w t past a → P (plan a.books) a.books.journal.workers a.books.journal.turns a.books.journal.past → P (plan_of set) w t past
  here P h p =
      subst (λ (s : RouteSet). P (plan_of s) w t past) h.set_is
      (subst (λ (x : ℕ). P (plan a.books) x t past) h.workers_are
      (subst (λ (x : ℕ). P (plan a.books) a.books.journal.workers x past) h.turns_are
      (subst (λ (x : Past). P (plan a.books) a.books.journal.workers a.books.journal.turns x) h.past_is p)))

  still_wrong : (e : Entry) (number rule : ℕ) → IsFirstWrong (plan_of set) w t past number rule → IsFirstWrong (plan_of set) w t (e ∷ past) number rule
  still_wrong e number rule h = record {
    later = e ∷ h.later;
    wrong = h.wrong;
    before = h.before;
    split = ap (λ (es : List Entry). e ∷ es) h.split;
    number = h.number;
    rule_is = h.rule_is;
    kept = h.kept;
    breaks = h.breaks;
  }

  now_wrong : (e : Entry) (n : ℕ) → n ≡ length past → HasEntered set w t past a → (KeepsHere a e → ⊥) → IsFirstWrong (plan_of set) w t (e ∷ past) (n + 1) (rule_of e.kind)
  now_wrong e n long h breaks = record {
    later = [];
    wrong = e;
    before = past;
    split = refl;
    number = ap (λ (k : ℕ). k + 1) long;
    rule_is = refl;
    kept = (here IsLegal h h.holds.legal).entries;
    breaks = here (λ s x y p. Keeps s x y p e → ⊥) h breaks;
  }

  found_more : (b : Auditor) (e : Entry) (n : ℕ) (found now : Option Verdict) → n ≡ length past → HasFound set w t past a found → Finds a b found e (n + 1) now → HasFound set w t (e ∷ past) b now
  found_more b e n None None long h enters = record {
    set_is = enters.adds.same.set ∙ h.set_is;
    workers_are = enters.adds.same.workers ∙ h.workers_are;
    turns_are = enters.adds.same.turns ∙ h.turns_are;
    past_is = enters.adds.past ∙ ap (λ (p : Past). e ∷ p) h.past_is;
    holds = enters.holds;
  }
  found_more b e n None (Some v) long h wrong = subst (λ (x : Verdict). HasFound set w t (e ∷ past) b (Some x)) (sym wrong.0) (now_wrong e n long h wrong.1)
  found_more b e n (Some (Wrong number rule)) now long h same = subst (λ (x : Option Verdict). HasFound set w t (e ∷ past) b x) (sym same) (still_wrong e number rule h)
  found_more b e n (Some (Legal entries)) now long h same = absurd h

-- one more entry
pub walk_on : (set : RouteSet) (w t : ℕ) (count : Option ℕ) (bs rest more : List ℕ) (n : ℕ) (a b : Auditor) (found now : Option Verdict) (e : Entry) → Walked set w t count bs rest n a found
    → HasRoom count n × IsEntry e × (rest ≡ entry_text e ++ more) → Finds a b found e (n + 1) now → Walked set w t count bs more (n + 1) b now
walk_on set w t count bs rest more n a b found now e h read finds = record {
  past = e ∷ h.past;
  so_far = so_far_more count h.past bs rest more n e h.so_far read;
  told = found_more set w t h.past a b e n found now h.so_far.number h.told finds;
}

-- no entry is left
module _ (set : RouteSet) (w t : ℕ) (count : Option ℕ) (bs rest : List ℕ) (n : ℕ) (a : Auditor) (fits : n < 2 ^ 64) (last : (rest ≡ []) × (IsMissing count n → ⊥)) where
  abbrev journal_of : Past → JournalView
  journal_of past = record { workers = w; turns = t; past = past; spare = 0 }

  pub walked_wrong : (v : Verdict) → Walked set w t count bs rest n a (Some v) → JudgesLines (plan_of set) w t count bs (Ok v)
  walked_wrong (Wrong number rule) h = (journal_of h.past, all_lines count (no_entries w t) (journal_of h.past) bs rest n fits h.so_far last refl refl, h.told)
  walked_wrong (Legal entries) h = absurd h.told

-- what is said of the lines behind the first one is said of the whole text
audited_by : (s : Plan) (f : First) (bs rest : List ℕ) (r : Result Verdict DumpFault) → bs ≡ first_text f ++ rest → IsFirst f → JudgesLines s f.workers f.turns f.count rest r → Audits s bs r
audited_by s f bs rest (Ok v) whole is h =
    let workers : f.workers ≡ h.0.workers = sym h.1.workers in
    let turns : f.turns ≡ h.0.turns = sym h.1.turns in (
      h.0,
      dump_read f (no_entries f.workers f.turns) h.0 bs rest whole is refl refl h.1,
      subst (λ (w : ℕ). Says s w h.0.turns h.0.past v) workers (subst (λ (t : ℕ). Says s f.workers t h.0.past v) turns h.2),
    )
audited_by s f bs rest (Err (fault.BadDump k)) whole is h = inr (record { first = f; later = rest; is_first = is; whole = whole; bad = h })
audited_by s f bs rest (Err fault.NoMemory) whole is h = tt

pub audited : (set : RouteSet) (b : BooksView) (f : First) (bs rest : List ℕ) (r : Result Verdict DumpFault) → bs ≡ first_text f ++ rest → IsFirst f → b.set ≡ set → b.journal.workers ≡ f.workers → b.journal.turns ≡ f.turns
    → JudgesLines (plan b) b.journal.workers b.journal.turns f.count rest r → Audits (plan_of set) bs r
audited set b f bs rest r whole is same workers turns h =
    audited_by (plan_of set) f bs rest r whole is
    (subst (λ (s : RouteSet). JudgesLines (plan_of s) f.workers f.turns f.count rest r) same
    (subst (λ (w : ℕ). JudgesLines (plan b) w f.turns f.count rest r) workers
    (subst (λ (t : ℕ). JudgesLines (plan b) b.journal.workers t f.count rest r) turns h)))
