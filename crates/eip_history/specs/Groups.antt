-- The groups of an aggregator: pieces of the arrivals, as a running list with closed and open ones.
use Rattle.std.specs.Prelude.{ℕ, ◌==◌, ◌+◌, ◌&&◌, min, nat_le, bytes_eq, decimal, codes, Bool, false, cond, List, [], ◌∷◌, ◌++◌, Option, Some, None, is_none, length, map, max}
use Rattle.eip_exchange.specs.declared.message.Message.{Message}
use Rattle.eip_exchange.specs.Pairs.{put_property}
use Rattle.eip_frames.specs.declared.answer.Completion.{Completion}
use Rattle.eip_frames.specs.declared.answer.Completion.TheVariants as by
use Rattle.eip_history.specs.Plan.{Plan, GroupRule, Added, Gives, Faults}

-- an exchange that came to an aggregator: its number, route and hops, the clock when it came, and its message
pub record Arrival : Type 0 where
  pub number : ℕ
  pub route : ℕ
  pub hops : ℕ
  pub at : ℕ
  pub message : Message

-- a group by number: its aggregator and key, its arrivals in order, and what closed it
pub record Group : Type 0 where
  pub number : ℕ
  pub aggregator : ℕ
  pub key : List ℕ
  pub parts : List Arrival
  pub closed : Option Completion

-- has nothing closed it
abbrev pub is_open : Group → Bool
is_open g = is_none g.closed

-- is it the open group of aggregator a and this key
abbrev pub is_for : ℕ → List ℕ → Group → Bool
is_for a key g = is_open g && ((g.aggregator == a) && bytes_eq g.key key)

-- the group that an arrival comes to: the open one of its key with the arrival, else a new one
abbrev pub arrived : ℕ → List Group → ℕ → List ℕ → Arrival → Group
arrived n [] a key p = record { number = n; aggregator = a; key = key; parts = p ∷ []; closed = None }
arrived n (g ∷ gs) a key p = cond (is_for a key g) (record g { parts = g.parts ++ p ∷ [] }) (arrived (n + 1) gs a key p)

-- a group in its place, or at the end
abbrev pub put_group : Group → List Group → List Group
put_group g [] = g ∷ []
put_group g (h ∷ gs) = cond (h.number == g.number) (g ∷ gs) (h ∷ put_group g gs)

-- a message with a property set
abbrev pub property : List ℕ → List ℕ → Message → Message
property name value m = record m { properties = put_property name value m.properties }

-- a group's message says how many parts it has and by which key they came
abbrev pub labelled : ℕ → List ℕ → Message → Message
labelled n key m = property (codes "CamelAggregatedCorrelationKey") key (property (codes "CamelAggregatedSize") (decimal n) m)

-- a strategy that faults leaves the message as it was
abbrev pub or_old : Option Message → Message → Added → Message
or_old old m (Gives m') = m'
or_old (Some o) m (Faults f) = o
or_old None m (Faults f) = m

-- the message of n parts and those behind them
abbrev pub folded : GroupRule → List ℕ → ℕ → Option Message → List Arrival → Option Message
folded r key n was [] = was
folded r key n was (p ∷ ps) = folded r key (n + 1) (Some (labelled (n + 1) key (or_old was p.message (r.add was p.message)))) ps

-- a group without arrivals would have an empty message
abbrev pub or_empty : Option Message → Message
or_empty (Some m) = m
or_empty None = record { body = []; headers = []; properties = [] }

-- the message that a group's arrivals make
abbrev pub folded_of : Plan → Group → Option Message
folded_of s g = folded (s.group g.aggregator) g.key 0 None g.parts

-- the message of a group
abbrev pub message_of : Plan → Group → Message
message_of s g = or_empty (folded_of s g)

-- are there as many parts as the size asks for
abbrev pub is_size : Option ℕ → ℕ → Bool
is_size (Some n) k = k == n
is_size None k = false

-- what closes a group at this arrival, its last part
abbrev pub cause_at : Plan → Group → Arrival → Option Completion
cause_at s g p =
    cond ((s.group g.aggregator).closes p.number p.route (message_of s g)) (Some by.Predicate)
    (cond (is_size (s.group g.aggregator).size (length g.parts)) (Some by.Size) None)

-- the clock at the last arrival
abbrev pub last_at : List Arrival → ℕ
last_at [] = 0
last_at (p ∷ []) = p.at
last_at (p ∷ (q ∷ ps)) = last_at (q ∷ ps)

-- so many ticks behind a moment, at most the greatest moment
abbrev pub after : ℕ → Option ℕ → Option ℕ
after at (Some d) = Some (min (at + d) 18446744073709551615)
after at None = None

-- when an open group with a timeout is due
abbrev pub due_of : Plan → Group → Option ℕ
due_of s g = cond (is_open g) (after (last_at g.parts) (s.group g.aggregator).timeout) None

-- is there a moment, and is it t or sooner
abbrev pub is_at_most : Option ℕ → ℕ → Bool
is_at_most (Some d) t = nat_le d t
is_at_most None t = false

-- is an open group due by moment t
abbrev pub is_due : Plan → ℕ → Group → Bool
is_due s t g = is_at_most (due_of s g) t

-- is it an open group whose aggregator lets it be forced
abbrev pub is_forced : Plan → Group → Bool
is_forced s g = is_open g && (s.group g.aggregator).force

-- the groups that pass a test are closed by a cause
abbrev pub closed_by : Completion → (Group → Bool) → List Group → List Group
closed_by c p gs = map (λ (g : Group). cond (p g) (record g { closed = Some c }) g) gs

-- the greatest hops among the arrivals
abbrev pub greatest_hops : List Arrival → ℕ
greatest_hops [] = 0
greatest_hops (p ∷ ps) = max p.hops (greatest_hops ps)
