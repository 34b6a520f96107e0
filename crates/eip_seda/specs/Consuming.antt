-- Who waits in the queues and how many are at work, by the calls so far, and how a table of queues stands for them.
use Rattle.std.specs.Prelude.{ℕ, ◌≡◌, ◌≤◌, ◌+◌, ◌-◌, ◌==◌, ◌&&◌, nat_lt, Bool, true, false, List, [], ◌∷◌, ◌++◌, length, drop, slice_get, slice_index_or, Option, Some, None, option_map, if◌then◌else◌}

-- what happened: a number came into a queue, the first one in a queue started, or one that had started ended
pub data Call : Type 0 where
  Offered : ℕ → ℕ → Call
  Started : ℕ → Call
  Ended : ℕ → Call

-- ---- by the calls so far, the newest first

-- the numbers that came into a queue, the first one first
abbrev pub offered : List Call → ℕ → List ℕ
offered [] q = []
offered (Offered queue number ∷ calls) q = if queue == q then offered calls q ++ number ∷ [] else offered calls q
offered (Started queue ∷ calls) q = offered calls q
offered (Ended queue ∷ calls) q = offered calls q

-- how many of them have started
abbrev pub starts : List Call → ℕ → ℕ
starts [] q = 0
starts (Offered queue number ∷ calls) q = starts calls q
starts (Started queue ∷ calls) q = if queue == q then starts calls q + 1 else starts calls q
starts (Ended queue ∷ calls) q = starts calls q

-- how many of those have ended
abbrev pub endings : List Call → ℕ → ℕ
endings [] q = 0
endings (Offered queue number ∷ calls) q = endings calls q
endings (Started queue ∷ calls) q = endings calls q
endings (Ended queue ∷ calls) q = if queue == q then endings calls q + 1 else endings calls q

-- who has come and not started: they start in the order in which they came
abbrev pub waiting : List Call → ℕ → List ℕ
waiting calls q = drop (starts calls q) (offered calls q)

-- how many have started and not ended
abbrev pub busy : List Call → ℕ → ℕ
busy calls q = starts calls q - endings calls q

-- how many a queue may hold, and by how many it is consumed
abbrev pub size_of : List (ℕ × ℕ) → ℕ → ℕ
size_of limits q = (slice_index_or limits q (0, 0)).0

abbrev pub consumers_of : List (ℕ × ℕ) → ℕ → ℕ
consumers_of limits q = (slice_index_or limits q (0, 0)).1

-- as many wait as may, and this is how many
abbrev pub IsFullAt : List (ℕ × ℕ) → List Call → ℕ → ℕ → Type 0
IsFullAt limits calls q size = (length (waiting calls q) ≡ size_of limits q) × (size ≡ size_of limits q)

-- who starts next: the first who waits, where a consumer is free
abbrev pub next : List (ℕ × ℕ) → List Call → ℕ → Option ℕ
next limits calls q = if nat_lt (busy calls q) (consumers_of limits q) then slice_get (waiting calls q) 0 else None

-- the call that a start makes
abbrev pub started_by : ℕ → Option ℕ → List Call → List Call
started_by q None calls = calls
started_by q (Some number) calls = Started q ∷ calls

-- ---- tables of queues

pub record QueueView : Type 0 where
  -- how many may wait
  pub size : ℕ
  -- how many may be at work
  pub consumers : ℕ
  -- who waits, the first one first
  pub waiting : List ℕ
  -- how many are at work
  pub busy : ℕ

abbrev pub fresh : ℕ × ℕ → QueueView
fresh limit = record { size = limit.0; consumers = limit.1; waiting = []; busy = 0 }

abbrev pub with_waiting : List ℕ → QueueView → QueueView
with_waiting numbers q = record q { waiting = numbers }

abbrev pub with_busy : ℕ → QueueView → QueueView
with_busy n q = record q { busy = n }

-- the first one in a queue, where a consumer is free
abbrev pub next_in : QueueView → Option ℕ
next_in q = if nat_lt q.busy q.consumers then slice_get q.waiting 0 else None

abbrev pub somebody : List ℕ → Bool
somebody [] = false
somebody (x ∷ xs) = true

-- somebody waits and a consumer is free
abbrev pub can_start : QueueView → Bool
can_start q = somebody q.waiting && nat_lt q.busy q.consumers

-- the queue behind a start
abbrev pub started : Option ℕ → QueueView → QueueView
started None q = q
started (Some number) q = record q { waiting = drop 1 q.waiting; busy = q.busy + 1 }

abbrev pub busy_in : Option QueueView → ℕ
busy_in None = 0
busy_in (Some q) = q.busy

-- how many of a queue are at work
abbrev pub busy_at : List QueueView → ℕ → ℕ
busy_at queues q = busy_in (slice_get queues q)

-- no more have started than came, and no more have ended than started
pub record IsInTurn (calls : List Call) (q : ℕ) : Type 0 where
  pub came : starts calls q ≤ length (offered calls q)
  pub began : endings calls q ≤ starts calls q

-- a queue with these limits as the calls leave it
abbrev pub queue_after : List Call → ℕ → ℕ × ℕ → QueueView
queue_after calls q limit = record { size = limit.0; consumers = limit.1; waiting = waiting calls q; busy = busy calls q }

-- a table has a queue for each limit, each as the calls leave it
pub record Stands (limits : List (ℕ × ℕ)) (calls : List Call) (queues : List QueueView) : Type 0 where
  pub as_many : length queues ≡ length limits
  pub each : (q : ℕ) → slice_get queues q ≡ option_map (queue_after calls q) (slice_get limits q)
  pub turns : (q : ℕ) → IsInTurn calls q
