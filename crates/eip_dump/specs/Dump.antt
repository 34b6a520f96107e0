-- The text of a journal: a first line with its limits, in version 2 with the number of entries too, then a line for each entry. And which texts are that of none.
use Rattle.std.specs.Prelude.{ℕ, ◌+◌, ◌<◌, ◌≤◌, ◌≡◌, ◌≢◌, ◌⊎◌, ⊤, Bool, ◌&&◌, nat_le, List, [], ◌∷◌, ◌++◌, length, reverse, codes, Option, Some, None, option_map, Result, Ok, Err, if◌then◌else◌}
use Rattle.std.specs.List.{flat_map}
use Rattle.eip_text.specs.Cuts.{behind}
use Rattle.eip_ledger.specs.View.{JournalView}
use Rattle.eip_ledger.specs.declared.entry.Entry.{Entry}
use Rattle.eip_dump.specs.declared.fault.DumpFault.{DumpFault}
use Rattle.eip_dump.specs.declared.fault.DumpFault.TheVariants as fault
use Rattle.eip_dump.specs.declared.first_line.First.{First}
use Rattle.eip_dump.specs.Lines.{number, entry_text}
use Rattle.eip_dump.specs.Kept.{IsEntry, Fits64}
use Rattle.eip_dump.specs.Reading.{◌>>=◌, either, number_at, small_at}

-- ---- one line

-- what a call that reads the line of an entry answers: the entry whose line it is, or that it is the line of none
abbrev pub ReadsEntry : List ℕ → Result Entry DumpFault → Type 0
ReadsEntry line (Ok e) = (line ≡ entry_text e) × IsEntry e
ReadsEntry line (Err (fault.BadDump k)) = (k ≡ 1) × ((e : Entry) → IsEntry e → line ≢ entry_text e)
ReadsEntry line (Err fault.NoMemory) = Unit {0}

-- ---- the first line

abbrev pub version_word : Option ℕ → List ℕ
version_word None = codes "eip-journal 1"
version_word (Some count) = codes "eip-journal 2"

abbrev pub count_field : Option ℕ → List ℕ
count_field None = []
count_field (Some count) = number count

unfoldable pub first_text : First → List ℕ
first_text f = version_word f.count ++ (number f.workers ++ (number f.turns ++ (count_field f.count ++ 10 ∷ [])))

-- at most 16 workers, and 1 to 1,000,000 turns
abbrev pub is_within : First → Bool
is_within f = nat_le f.workers 16 && (nat_le 1 f.turns && nat_le f.turns 1000000)

abbrev pub CountFits : Option ℕ → Type 0
CountFits None = Unit {0}
CountFits (Some count) = Fits64 count

pub record HasLimits (workers turns : ℕ) : Type 0 where
  pub few : workers ≤ 16
  pub least : 1 ≤ turns
  pub most : turns ≤ 1000000

pub record IsFirst (f : First) : Type 0 where
  pub limits : HasLimits f.workers f.turns
  pub count : CountFits f.count

-- ---- the text of a journal

abbrev pub lines : List Entry → List ℕ
lines es = flat_map entry_text es

abbrev pub first_of : Option ℕ → JournalView → First
first_of count j = record { workers = j.workers; turns = j.turns; count = count }

-- in version 1
unfoldable pub old_text : JournalView → List ℕ
old_text j = first_text (first_of None j) ++ lines (reverse j.past)

-- in version 2
unfoldable pub dump_text : JournalView → List ℕ
dump_text j = first_text (first_of (Some (length j.past)) j) ++ lines (reverse j.past)

abbrev pub AreEntries : List Entry → Type 0
AreEntries [] = Unit {0}
AreEntries (e ∷ es) = IsEntry e × AreEntries es

-- ---- the first bad line

-- another entry may stand behind so many
abbrev pub HasRoom : Option ℕ → ℕ → Type 0
HasRoom None n = ⊤
HasRoom (Some count) n = n < count

-- another entry must stand behind so many
abbrev pub IsMissing : Option ℕ → ℕ → Type 0
IsMissing None n = ⊥
IsMissing (Some count) n = n < count

abbrev pub IsWithinCount : Option ℕ → ℕ → Type 0
IsWithinCount None n = ⊤
IsWithinCount (Some count) n = n ≤ count

-- no first line stands in front
abbrev pub HasNoFirst : List ℕ → Type 0
HasNoFirst bs = (f : First) (rest : List ℕ) → IsFirst f → bs ≢ first_text f ++ rest

-- the line of no entry stands in front
abbrev pub HasNoEntry : List ℕ → Type 0
HasNoEntry bs = (e : Entry) (rest : List ℕ) → IsEntry e → bs ≢ entry_text e ++ rest

-- Behind a first line stand the lines of some entries, and the line behind them is bad: it is missing, it is one too many, or it is that of no entry.
pub record IsBadAt (count : Option ℕ) (k : ℕ) (bs : List ℕ) : Type 0 where
  pub entries : List Entry
  pub rest : List ℕ
  pub are_entries : AreEntries entries
  pub whole : bs ≡ lines entries ++ rest
  pub place : k ≡ length entries + 2
  pub within : IsWithinCount count (length entries)
  pub missing : rest ≡ [] → IsMissing count (length entries)
  pub no_entry : HasRoom count (length entries) → HasNoEntry rest

pub record IsBadEntry (k : ℕ) (bs : List ℕ) : Type 0 where
  pub first : First
  pub later : List ℕ
  pub is_first : IsFirst first
  pub whole : bs ≡ first_text first ++ later
  pub bad : IsBadAt first.count k later

-- the line k is the first bad one
abbrev pub IsBadLine : ℕ → List ℕ → Type 0
IsBadLine k bs = ((k ≡ 1) × HasNoFirst bs) ⊎ IsBadEntry k bs

-- the text is that of the journal, in one of the versions
pub record IsDumpOf (bs : List ℕ) (j : JournalView) : Type 0 where
  pub is_text : (bs ≡ old_text j) ⊎ (bs ≡ dump_text j)
  pub limits : HasLimits j.workers j.turns
  pub entries : AreEntries (reverse j.past)
  pub countable : Fits64 (length j.past)

-- what a call that reads the text of a journal answers: the journal, or the first bad line
abbrev pub ReadsDump : List ℕ → Result JournalView DumpFault → Type 0
ReadsDump bs (Ok j) = IsDumpOf bs j
ReadsDump bs (Err (fault.BadDump k)) = IsBadLine k bs
ReadsDump bs (Err fault.NoMemory) = Unit {0}

-- what a call that brings a text to version 2 answers: the text of the same journal, or the first bad line
abbrev pub Migrates : List ℕ → Result (List ℕ) DumpFault → Type 0
Migrates bs (Ok t) = (j : JournalView) × IsDumpOf bs j × (t ≡ dump_text j)
Migrates bs (Err (fault.BadDump k)) = IsBadLine k bs
Migrates bs (Err fault.NoMemory) = Unit {0}

-- ---- one turn of the reader

-- what a call that reads the next entry behind n answers: the entry whose line stands in front, that none is left and none is missing, or that the line is bad
abbrev pub ReadsNext : {X : Type 0} → (X → Entry × List ℕ) → Option ℕ → ℕ → List ℕ → Result (Option X) DumpFault → Type 0
ReadsNext view count n bs (Ok (Some x)) = HasRoom count n × IsEntry (view x).0 × (bs ≡ entry_text (view x).0 ++ (view x).1)
ReadsNext view count n bs (Ok None) = (bs ≡ []) × (IsMissing count n → ⊥)
ReadsNext view count n bs (Err (fault.BadDump k)) = (k ≡ n + 2) × (bs ≡ [] → IsMissing count n) × (HasRoom count n → HasNoEntry bs)
ReadsNext view count n bs (Err fault.NoMemory) = Unit {0}

-- what a call that reads a first line answers: the one that stands in front, or that none does
abbrev pub ReadsFirst : {X : Type 0} → (X → First × List ℕ) → List ℕ → Result X DumpFault → Type 0
ReadsFirst view bs (Ok x) = IsFirst (view x).0 × (bs ≡ first_text (view x).0 ++ (view x).1)
ReadsFirst view bs (Err (fault.BadDump k)) = (k ≡ 1) × HasNoFirst bs
ReadsFirst view bs (Err fault.NoMemory) = Unit {0}

-- the entries that a text consists of were read
pub record TakesAll (count : Option ℕ) (old new : JournalView) (bs : List ℕ) : Type 0 where
  pub whole : bs ≡ lines (reverse new.past)
  pub entries : AreEntries (reverse new.past)
  pub counted : (IsMissing count (length new.past) → ⊥) × IsWithinCount count (length new.past)
  pub countable : Fits64 (length new.past)
  pub workers : new.workers ≡ old.workers
  pub turns : new.turns ≡ old.turns

abbrev pub ReadsLines : {U : Type 0} → Option ℕ → JournalView → JournalView → List ℕ → Result U DumpFault → Type 0
ReadsLines count old new bs (Ok u) = TakesAll count old new bs
ReadsLines count old new bs (Err (fault.BadDump k)) = IsBadAt count k bs
ReadsLines count old new bs (Err fault.NoMemory) = Unit {0}

-- ---- how the code reads a first line: it may read too much, and compares what it read

abbrev pub old_limits : List ℕ → Option First
old_limits bs = small_at bs >>= λ w. small_at w.1 >>= λ t. Some (record { workers = w.0; turns = t.0; count = None })

abbrev pub new_limits : List ℕ → Option First
new_limits bs = small_at bs >>= λ w. small_at w.1 >>= λ t. number_at t.1 >>= λ n. Some (record { workers = w.0; turns = t.0; count = Some n.0 })

unfoldable pub first_at : List ℕ → Option First
first_at bs = either (behind (codes "eip-journal 1") bs) old_limits (either (behind (codes "eip-journal 2") bs) new_limits None)

abbrev pub placed : List ℕ → First → Option (First × List ℕ)
placed bs f = if is_within f then option_map (λ rest. (f, rest)) (behind (first_text f) bs) else None

unfoldable pub first_front : List ℕ → Option (First × List ℕ)
first_front bs = first_at bs >>= placed bs
