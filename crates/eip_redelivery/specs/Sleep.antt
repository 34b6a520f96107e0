-- Who sleeps, by the calls so far, and how a table of sleepers stands for them.
use Rattle.std.specs.Prelude.{ℕ, ◌≡◌, ◌<◌, ◌≤◌, ◌⊎◌, ◌==◌, ◌&&◌, Bool, false, List, [], ◌∷◌, Option, Some, None, MatchOption, if◌then◌else◌}
use Rattle.std.specs.List.{list_any}

-- what happened: an exchange fell asleep until a moment, or one woke
pub data Call : Type 0 where
  Slept : ℕ → ℕ → Call
  Woke : ℕ → Call

-- until when an exchange sleeps, by the calls so far, the newest first: its own newest one says so
abbrev pub sleeps : List Call → ℕ → Option ℕ
sleeps [] x = None
sleeps (Slept number due ∷ calls) x = if number == x then Some due else sleeps calls x
sleeps (Woke number ∷ calls) x = if number == x then None else sleeps calls x

-- the call that a wakening makes
abbrev pub woken : Option ℕ → List Call → List Call
woken None calls = calls
woken (Some number) calls = Woke number ∷ calls

-- this is the first moment at which somebody wakes, or nobody sleeps
abbrev pub IsFirstMoment : List Call → Option ℕ → Type 0
IsFirstMoment calls first = MatchOption first
    ((x : ℕ) → sleeps calls x ≡ None)
    (λ due. ((x : ℕ) × (sleeps calls x ≡ Some due)) × ((x later : ℕ) → sleeps calls x ≡ Some later → due ≤ later))

-- x, which wakes at due, wakes before everybody else: earlier, or at the same moment with a lower number
abbrev pub IsBeforeAll : List Call → ℕ → ℕ → Type 0
IsBeforeAll calls x due = (y later : ℕ) → sleeps calls y ≡ Some later → (due < later) ⊎ ((due ≡ later) × (x ≤ y))

-- this is the sleeper who wakes before everybody else, and its moment has come at the tick; or no moment has come
abbrev pub IsFirstSleeper : List Call → ℕ → Option ℕ → Type 0
IsFirstSleeper calls tick first = MatchOption first
    ((x later : ℕ) → sleeps calls x ≡ Some later → tick < later)
    (λ x. (due : ℕ) × (sleeps calls x ≡ Some due) × (due ≤ tick) × IsBeforeAll calls x due)

-- ---- tables of moments and numbers

-- a table has this number with this moment
abbrev pub has_sleeper : List (ℕ × ℕ) → ℕ → ℕ → Bool
has_sleeper sleepers x due = list_any (λ s. (due == s.0) && (x == s.1)) sleepers

-- an exchange that is in no row of the table
abbrev pub IsAwake : ℕ → List (ℕ × ℕ) → Type 0
IsAwake x sleepers = (due : ℕ) → has_sleeper sleepers x due ≡ false

-- it sleeps until just this moment
abbrev pub is_until : ℕ → Option ℕ → Bool
is_until due None = false
is_until due (Some moment) = moment == due

-- a table has those who sleep with their moments, and nobody else
abbrev pub Stands : List Call → List (ℕ × ℕ) → Type 0
Stands calls sleepers = (x due : ℕ) → has_sleeper sleepers x due ≡ is_until due (sleeps calls x)
