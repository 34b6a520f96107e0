-- Which rule each kind of entry has, and what an audit's verdict says of a journal.
use Rattle.std.specs.Prelude.{ℕ, ◌≡◌, ◌+◌, ◌≤◌, List, ◌∷◌, ◌++◌, length}
use Rattle.eip_ledger.specs.declared.entry.Entry.{Entry}
use Rattle.eip_ledger.specs.declared.entry.Kind.{Kind}
use Rattle.eip_ledger.specs.declared.entry.Kind.TheVariants.{Pull, Accept, Refuse, SourceEnd, SourceFault, Start, Take, Answer, Tick, Force, Starve, Return}
use Rattle.eip_history.specs.Plan.{Plan}
use Rattle.eip_history.specs.Own.{Past}
use Rattle.eip_history.specs.Rules.{May, KeepsRules, IsLegal}
use Rattle.eip_verdict.specs.declared.verdict.Verdict.{Verdict}
use Rattle.eip_verdict.specs.declared.verdict.Verdict.TheVariants.{Legal, Wrong}

-- the number of the rule that says where an entry may come
abbrev pub rule_of : Kind → ℕ
rule_of (Pull t) = 1
rule_of (Accept t item m) = 2
rule_of (Refuse t item cause) = 3
rule_of (SourceEnd t) = 4
rule_of (SourceFault t) = 5
rule_of (Start q x) = 6
rule_of (Take x) = 7
rule_of (Answer x a) = 8
rule_of (Tick t) = 9
rule_of Force = 10
rule_of (Starve x) = 11
rule_of (Return x) = 12

-- the entry is of one of the workers, and may come behind this past
abbrev pub Keeps : Plan → ℕ → ℕ → Past → Entry → Type 0
Keeps s workers limit past e = (e.worker ≤ workers) × May s limit past e.worker e.kind

-- the entry with this number, from 1, breaks this rule, and each one before it keeps its own
pub record IsFirstWrong (s : Plan) (workers limit : ℕ) (past : Past) (entry rule : ℕ) : Type 0 where
  pub later : List Entry
  pub wrong : Entry
  pub before : Past
  pub split : past ≡ later ++ (wrong ∷ before)
  pub number : entry ≡ length before + 1
  pub rule_is : rule ≡ rule_of wrong.kind
  pub kept : KeepsRules s workers limit before
  pub breaks : Keeps s workers limit before wrong → ⊥

-- what a verdict says of a journal
abbrev pub Says : Plan → ℕ → ℕ → Past → Verdict → Type 0
Says s workers limit past (Legal entries) = IsLegal s workers limit past × (entries ≡ length past)
Says s workers limit past (Wrong entry rule) = IsFirstWrong s workers limit past entry rule
