-- The groups of aggregators, by the calls so far.
use Rattle.std.specs.Prelude.{ℕ, ◌+◌, ◌==◌, ◌&&◌, min, max, nat_le, bytes_eq, decimal, codes, Bool, false, cond, List, [], ◌∷◌, length, Option, Some, None, Ok, Err}
use Rattle.eip_exchange.specs.declared.message.Message.{Message}
use Rattle.eip_exchange.specs.Pairs.{Pairs, put_property}
use Rattle.eip_frames.specs.declared.answer.Completion.{Completion}
use Rattle.eip_frames.specs.declared.answer.Completion.TheVariants as by
use Rattle.eip_route.specs.declared.step.Aggregate.{Aggregate}
use Rattle.eip_simple_read.specs.declared.tree.Predicate.{Predicate}
use Rattle.eip_simple.specs.Holding.{predicate_holds}
use Rattle.eip_strategy.specs.Adding.{added}
use Rattle.eip_strategy.specs.Answers.{Answer}

-- a group's aggregator, by the number of its block, and its key
abbrev pub Key : Type 0
Key = ℕ × List ℕ

abbrev pub same_key : Key → Key → Bool
same_key a b = (a.0 == b.0) && bytes_eq a.1 b.1

-- an exchange that came to an aggregator: its number, the route whose block runs, its hops, the clock when it came, and its message
pub record Arrival : Type 0 where
  pub number : ℕ
  pub route : List ℕ
  pub hops : ℕ
  pub at : ℕ
  pub message : Message

-- what happened: an exchange came to an aggregator with a key, the clock moved on to a moment, or groups were forced to close
pub data Call : Type 0 where
  Came : Key → Arrival → Call
  Ticked : ℕ → Call
  Forced : Call

-- how each aggregator is set, by the number of its block
abbrev pub Settings : Type 0
Settings = ℕ → Aggregate

-- ---- a group's message

-- properties that say how many parts a group has and by which key they came
abbrev pub labels : ℕ → List ℕ → Pairs → Pairs
labels n key properties = put_property (codes "CamelAggregatedCorrelationKey") key (put_property (codes "CamelAggregatedSize") (decimal n) properties)

-- a group's message says so
abbrev pub labelled : ℕ → List ℕ → Message → Message
labelled n key m = record m { properties = labels n key m.properties }

-- a strategy that faults leaves the message as it was
abbrev pub or_old : Option Message → Message → Answer Message → Message
or_old old m (Ok m') = m'
or_old (Some o) m (Err f) = o
or_old None m (Err f) = m

-- the message of a group's parts, the last part first: the strategy adds each to the message of those before it
abbrev pub message_of : Aggregate → List ℕ → List Arrival → Option Message
message_of a key [] = None
message_of a key (p ∷ ps) = Some (labelled (length ps + 1) key (or_old (message_of a key ps) p.message (added a.strategy (message_of a key ps) p.message)))

-- a group without parts would have an empty message
abbrev pub or_empty : Option Message → Message
or_empty (Some m) = m
or_empty None = record { body = []; headers = []; properties = [] }

-- the greatest hops among the parts
abbrev pub greatest_hops : List Arrival → ℕ
greatest_hops [] = 0
greatest_hops (p ∷ ps) = max p.hops (greatest_hops ps)

-- ---- when a group closes

-- are there as many parts as the size asks for
abbrev pub is_size : Option ℕ → ℕ → Bool
is_size (Some n) k = k == n
is_size None k = false

-- does the predicate, where there is one, hold of the message as this exchange, in this route, would show it
abbrev pub closes : Option Predicate → Message → ℕ → List ℕ → Bool
closes None m number route = false
closes (Some predicate) m number route = predicate_holds predicate (record { message = m; number = number; route = route })

abbrev pub size_cause : Option ℕ → ℕ → Option Completion
size_cause size n = cond (is_size size n) (Some by.Size) None

-- what closes a group of so many parts with this message at the arrival of this exchange in this route
abbrev pub cause_at : Aggregate → Message → ℕ → ℕ → List ℕ → Option Completion
cause_at a m n number route = cond (closes a.predicate m number route) (Some by.Predicate) (size_cause a.size n)

-- so many ticks behind a moment, at most the greatest moment
abbrev pub after : ℕ → Option ℕ → Option ℕ
after at (Some d) = Some (min (at + d) 18446744073709551615)
after at None = None

-- when a group with a timeout is due: so long behind its last arrival
abbrev pub due_of : Aggregate → List Arrival → Option ℕ
due_of a [] = None
due_of a (p ∷ ps) = after p.at a.timeout

-- is there a moment, and is it t or sooner
abbrev pub is_at_most : Option ℕ → ℕ → Bool
is_at_most (Some d) t = nat_le d t
is_at_most None t = false

-- ---- by the calls so far, the newest first

-- a group with its last part, or nothing where the part closes it
abbrev pub left_open : Option Completion → List Arrival → List Arrival
left_open None ps = ps
left_open (Some c) ps = []

abbrev pub cause_of : Aggregate → List ℕ → Arrival → List Arrival → Option Completion
cause_of a key p ps = cause_at a (or_empty (message_of a key (p ∷ ps))) (length (p ∷ ps)) p.number p.route

-- the parts of the open group of a key, the last one first: those that have come since a group of that key last closed
abbrev pub parts_of : Settings → List Call → Key → List Arrival
parts_of s [] k = []
parts_of s (Came key p ∷ calls) k = cond (same_key key k) (left_open (cause_of (s k.0) k.1 p (parts_of s calls k)) (p ∷ parts_of s calls k)) (parts_of s calls k)
parts_of s (Ticked t ∷ calls) k = cond (is_at_most (due_of (s k.0) (parts_of s calls k)) t) [] (parts_of s calls k)
parts_of s (Forced ∷ calls) k = cond (s k.0).force [] (parts_of s calls k)

-- an arrival begins a group where no group of its key is open
abbrev pub next_begun : List Arrival → ℕ → ℕ
next_begun [] begun = begun + 1
next_begun (p ∷ ps) begun = begun

-- how many groups have begun
abbrev pub begun : Settings → List Call → ℕ
begun s [] = 0
begun s (Came key p ∷ calls) = next_begun (parts_of s calls key) (begun s calls)
begun s (Ticked t ∷ calls) = begun s calls
begun s (Forced ∷ calls) = begun s calls

-- the number of an arrival's group: that of the open group, or that of a new one
abbrev pub next_number : List Arrival → ℕ → ℕ → ℕ
next_number [] last begun = begun + 1
next_number (p ∷ ps) last begun = last

-- the number of the last group of a key: groups are numbered from 1 as they begin
abbrev pub number_of : Settings → List Call → Key → ℕ
number_of s [] k = 0
number_of s (Came key p ∷ calls) k = cond (same_key key k) (next_number (parts_of s calls k) (number_of s calls k) (begun s calls)) (number_of s calls k)
number_of s (Ticked t ∷ calls) k = number_of s calls k
number_of s (Forced ∷ calls) k = number_of s calls k

-- ---- open groups

-- an open group: its key, its message, how many parts it has and the greatest hops among them, when it is due, and whether it may be forced
pub record Group : Type 0 where
  pub key : Key
  pub message : Message
  pub count : ℕ
  pub hops : ℕ
  pub due : Option ℕ
  pub force : Bool

-- the group of these parts
abbrev pub group_of : Aggregate → Key → List Arrival → Group
group_of a k ps = record { key = k; message = or_empty (message_of a k.1 ps); count = length ps; hops = greatest_hops ps; due = due_of a ps; force = a.force }

-- with its number, where there are parts
abbrev pub numbered : Aggregate → Key → ℕ → List Arrival → Option (ℕ × Group)
numbered a k n [] = None
numbered a k n (p ∷ ps) = Some (n, group_of a k (p ∷ ps))

-- the open group of a key, with its number
abbrev pub open_at : Settings → List Call → Key → Option (ℕ × Group)
open_at s calls k = numbered (s k.0) k (number_of s calls k) (parts_of s calls k)
