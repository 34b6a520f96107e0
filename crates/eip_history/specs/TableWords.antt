-- What tables of sleepers, joins and queues hold, as a past has it, and what one entry puts there.
use Rattle.std.specs.Prelude.{ℕ, nat_lt, Bool, true, false, cond, List, filter, map, Option, Some, None}
use Rattle.eip_exchange.specs.declared.birth.Birth.{Birth}
use Rattle.eip_exchange.specs.declared.end.Ended.{Ended as Finish}
use Rattle.eip_frames.specs.declared.answer.Answer.{Answer as Reply}
use Rattle.eip_frames.specs.declared.answer.Answer.TheVariants as reply
use Rattle.eip_ledger.specs.declared.entry.Kind.{Kind}
use Rattle.eip_ledger.specs.declared.entry.Kind.TheVariants.{Start, Answer, Tick, Force, Starve}
use Rattle.eip_ledger.specs.declared.place.Place.{Place}
use Rattle.eip_history.specs.Plan.{Plan}
use Rattle.eip_history.specs.Own.{Past, own, last_answer}
use Rattle.eip_history.specs.Place.{ended, place, number_of, is_born_into}
use Rattle.eip_history.specs.Rules.{retry_due}

-- who has ended is in no table
abbrev pub unless_ended : {A : Type 0} → Option Finish → Option A → Option A
unless_ended None o = o
unless_ended (Some f) o = None

-- ---- sleepers

abbrev pub sleep_of : Option Place → Option ℕ
sleep_of (Some p) = retry_due p
sleep_of None = None

-- until when an exchange sleeps
unfoldable pub sleeps : Plan → Past → ℕ → Option ℕ
sleeps s past x = sleep_of (place s past x)

-- a moment that the clock hasn't reached
abbrev pub still_ahead : ℕ → ℕ → Option ℕ
still_ahead now due = cond (nat_lt now due) (Some due) None

-- until when an answer lets its exchange sleep
abbrev pub slept_by : ℕ → Reply → Option ℕ
slept_by now (reply.Slept due) = still_ahead now due
slept_by now _ = None

-- until when an own entry lets its exchange sleep: only an answer does
abbrev pub slept_in : ℕ → Kind → Option ℕ
slept_in now (Answer x a) = slept_by now a
slept_in now _ = None

-- who sleeps beyond a moment
abbrev pub slept_on : ℕ → Option ℕ → Option ℕ
slept_on now (Some due) = still_ahead now due
slept_on now None = None

-- an answer that lets its exchange sleep
abbrev pub is_sleep : Reply → Bool
is_sleep (reply.Slept due) = true
is_sleep _ = false

-- an entry by which somebody may fall asleep or wake
abbrev pub moves_sleepers : Kind → Bool
moves_sleepers (Answer x a) = is_sleep a
moves_sleepers (Tick t) = true
moves_sleepers _ = false

-- ---- joins

-- the first number and the count of the parts that an answer makes
abbrev pub born_by : Reply → Option (ℕ × ℕ)
born_by (reply.Born first count) = Some (first, count)
born_by _ = None

abbrev pub born_last : Option Reply → Option (ℕ × ℕ)
born_last (Some a) = born_by a
born_last None = None

-- the parts whose ends an exchange waits for, or has yet to take
unfoldable pub open_parts : Plan → Past → ℕ → Option (ℕ × ℕ)
open_parts s past x = unless_ended (ended s past x) (born_last (last_answer (own x past)))

-- the parts behind an own entry: a Born opens a join, another answer closes it
abbrev pub parts_in : Kind → Option (ℕ × ℕ) → Option (ℕ × ℕ)
parts_in (Answer x a) was = born_by a
parts_in _ was = was

-- an entry by which a join may open or close
abbrev pub moves_joins : Kind → Bool
moves_joins (Answer x a) = true
moves_joins (Starve x) = true
moves_joins _ = false

-- ---- queues

-- the numbers of those who are born into a queue, the first one first
abbrev pub born_into : ℕ → List Birth → List ℕ
born_into q bs = map number_of (filter (λ (b : Birth). is_born_into q b.origin) bs)

-- an entry by which somebody may come into a queue or leave it
abbrev pub moves_waiting : Kind → Bool
moves_waiting (Answer x (reply.Queued n)) = true
moves_waiting (Start q n) = true
moves_waiting _ = false

-- an entry by which somebody may end or start
abbrev pub moves_busy : Kind → Bool
moves_busy (Answer x a) = true
moves_busy (Starve x) = true
moves_busy (Start q n) = true
moves_busy _ = false

-- ---- groups

-- an answer to an arrival
abbrev pub is_arrival : Reply → Bool
is_arrival (reply.Arrived n) = true
is_arrival (reply.Closed g c n) = true
is_arrival _ = false

-- an entry by which a group may grow or close
abbrev pub moves_groups : Kind → Bool
moves_groups (Answer x a) = is_arrival a
moves_groups (Tick t) = true
moves_groups Force = true
moves_groups _ = false
