-- The own entries of an exchange and of a source, and all that is read from them alone.
use Rattle.std.specs.Prelude.{ℕ, ◌==◌, ◌+◌, Bool, true, false, ◌||◌, cond, List, [], ◌∷◌, ◌++◌, Option, Some, None, slice_get, zero, suc}
use Rattle.eip_frames.specs.declared.answer.Answer.{Answer as Reply}
use Rattle.eip_ledger.specs.declared.entry.Entry.{Entry}
use Rattle.eip_ledger.specs.declared.entry.Kind.{Kind}
use Rattle.eip_ledger.specs.declared.entry.Kind.TheVariants.{Pull, Accept, Refuse, SourceEnd, SourceFault, Start, Take, Answer, Tick, Starve, Return}

-- the list of entries with the newest first, so each tail is a prefix of the journal
abbrev pub Past : Type 0
Past = List Entry

-- is it an entry of exchange x
abbrev pub concerns : ℕ → Kind → Bool
concerns x (Start q n) = n == x
concerns x (Take n) = n == x
concerns x (Answer n a) = n == x
concerns x (Starve n) = n == x
concerns x (Return n) = n == x
concerns x _ = false

-- the entries of exchange x
unfoldable pub own : ℕ → Past → Past
own x [] = []
own x (e ∷ past) = cond (concerns x e.kind) (e ∷ own x past) (own x past)

-- the answer that an entry gives
abbrev pub answer_in : Kind → List Reply
answer_in (Answer n a) = a ∷ []
answer_in _ = []

-- the answers, the oldest first
abbrev pub answers : Past → List Reply
answers [] = []
answers (e ∷ o) = answers o ++ answer_in e.kind

-- does the entry end its exchange for want of memory
abbrev pub is_starve : Kind → Bool
is_starve (Starve n) = true
is_starve _ = false

-- is one of them a Starve
abbrev pub starved : Past → Bool
starved [] = false
starved (e ∷ o) = is_starve e.kind || starved o

-- does the entry take its exchange out of its queue
abbrev pub is_start : Kind → Bool
is_start (Start q n) = true
is_start _ = false

-- is one of them a Start
abbrev pub started : Past → Bool
started [] = false
started (e ∷ o) = is_start e.kind || started o

-- the worker that takes by this entry
abbrev pub taken_by : ℕ → Kind → Option ℕ
taken_by w (Take n) = Some w
taken_by w _ = None

-- who has it in hand, by the newest own entry
abbrev pub taker : Past → Option ℕ
taker [] = None
taker (e ∷ o) = taken_by e.worker e.kind

-- a newer answer stands for an older one
abbrev pub or_answer : Kind → Option Reply → Option Reply
or_answer (Answer n a) was = Some a
or_answer _ was = was

-- the newest answer
abbrev pub last_answer : Past → Option Reply
last_answer [] = None
last_answer (e ∷ o) = or_answer e.kind (last_answer o)

-- a source may be pulled, is being pulled by a worker, or will give no more
pub data SourceState : Type 0 where
  Idle : SourceState
  Out : ℕ → SourceState
  Done : SourceState

-- what an entry of worker w makes of the state of source s
abbrev pub moved : ℕ → ℕ → Kind → SourceState → SourceState
moved w s (Pull t) was = cond (t == s) (Out w) was
moved w s (Accept t item m) was = cond (t == s) Idle was
moved w s (Refuse t item cause) was = cond (t == s) Idle was
moved w s (SourceEnd t) was = cond (t == s) Done was
moved w s (SourceFault t) was = cond (t == s) Done was
moved w s _ was = was

-- the state of source s
unfoldable pub source_state : ℕ → Past → SourceState
source_state s [] = Idle
source_state s (e ∷ past) = moved e.worker s e.kind (source_state s past)

-- is a pull of it out
abbrev pub is_out : SourceState → Bool
is_out (Out w) = true
is_out _ = false

-- has it ended or failed
abbrev pub is_done : SourceState → Bool
is_done Done = true
is_done _ = false

-- a Tick moves the clock
abbrev pub ticked : Kind → ℕ → ℕ
ticked (Tick t) was = t
ticked _ was = was

-- the moment of the newest Tick, or 0
unfoldable pub clock : Past → ℕ
clock [] = 0
clock (e ∷ past) = ticked e.kind (clock past)

-- an accepted item, a refused item and an answer are a turn each
abbrev pub turns_in : Kind → ℕ
turns_in (Accept s item m) = 1
turns_in (Refuse s item cause) = 1
turns_in (Answer n a) = 1
turns_in _ = 0

-- the turns that were made
unfoldable pub turns : Past → ℕ
turns [] = 0
turns (e ∷ past) = turns past + turns_in e.kind

-- the numbers below a bound that pass a test, the least first
abbrev pub numbers_below : (ℕ → Bool) → ℕ → List ℕ
numbers_below p zero = []
numbers_below p (suc n) = numbers_below p n ++ cond (p n) (n ∷ []) []

-- the element with a number, from 1
abbrev pub numbered : {A : Type 0} → List A → ℕ → Option A
numbered xs zero = None
numbered xs (suc i) = slice_get xs i
