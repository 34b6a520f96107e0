-- How a table of open groups stands for the calls so far, and what its calls answer.
use Rattle.std.specs.Prelude.{ℕ, nat_le, ◌≡◌, ◌<◌, ◌≤◌, ◌+◌, ◌==◌, ◌↔◌, ◌&&◌, not, max, Bool, true, false, List, [], ◌∷◌, length, map, Option, Some, None, Result, Ok, Err, MatchOption, IsSome, if◌then◌else◌}
use Rattle.std.specs.Ordering.{nat_cmp}
use Rattle.std.specs.List.{IsAmong, list_any}
use Rattle.std.specs.List.Sorted.{IsStrictlySortedBy}
use Rattle.std.specs.Map.{lookup}
use Rattle.std.specs.Option.{unwrap_or}
use Rattle.std.specs.BTreeSet.{BTreeSet, contains}
use Rattle.eip_exchange.specs.declared.message.Message.{Message}
use Rattle.eip_aggregator.specs.Keys.{writes}
use Rattle.eip_ordered.specs.Numbered.{value_at, Puts}
use Rattle.eip_exchange.specs.declared.setting.Strategy.{Strategy}
use Rattle.eip_frames.specs.declared.answer.Completion.{Completion}
use Rattle.eip_route.specs.declared.step.Aggregate.{Aggregate}
use Rattle.eip_strategy.specs.Adding.{added, IsReadyBody}
use Rattle.eip_strategy.specs.Answers.{Answer}
use Rattle.eip_aggregator.specs.declared.closed.Arrived.{Arrived}
use Rattle.eip_aggregator.specs.declared.closed.ArriveFault.{ArriveFault}
use Rattle.eip_aggregator.specs.declared.closed.ArriveFault.TheVariants.{Unfit, NoMemory}
use Rattle.eip_aggregator.specs.declared.closed.Closed.{Closed}
use Rattle.eip_aggregator.specs.declared.closed.OpenGroup.{OpenGroup}
use Rattle.eip_aggregator.specs.Arrivals.{Key, same_key, Arrival, Call, Settings, Group, labelled, or_empty, cause_at, after, message_of, parts_of, begun, number_of, next_number, cause_of, group_of, open_at}

-- ---- tables

-- how many groups have begun, and those that are open, by number
pub record Table : Type 0 where
  pub begun : ℕ
  pub open_groups : List (ℕ × Group)

-- a table has the open group of each key by its number, and no other, and what its strategy adds to can be added to
pub record Stands (s : Settings) (calls : List Call) (t : Table) : Type 0 where
  pub as_many : t.begun ≡ begun s calls
  pub each : (n : ℕ) (g : Group) → (value_at t.open_groups n ≡ Some g) ↔ (open_at s calls g.key ≡ Some (n, g))
  pub ready : (n : ℕ) (g : Group) → value_at t.open_groups n ≡ Some g → IsReadyBody (s g.key.0).strategy g.message.body

-- the table stands for calls, fewer than there are moments, in each of which this aggregator was set so
pub record IsSetSo (a : Aggregate) (t : Table) : Type 0 where
  pub settings : Settings
  pub calls : List Call
  pub stands : Stands settings calls t
  pub same : settings a.block ≡ a
  pub few : length calls < 18446744073709551615

-- ---- an arrival

-- what the strategy makes of the message of a key's open group, if there is one, and an arrival
abbrev pub added_at : Settings → List Call → Key → Arrival → Answer Message
added_at s calls k p = added (s k.0).strategy (message_of (s k.0) k.1 (parts_of s calls k)) p.message

-- how many parts a group has, and the greatest hops among them, where there is one
abbrev pub count_in : Option Group → ℕ
count_in None = 0
count_in (Some g) = g.count

abbrev pub hops_in : Option Group → ℕ
hops_in None = 0
hops_in (Some g) = g.hops

abbrev pub message_in : Option Group → Option Message
message_in None = None
message_in (Some g) = Some g.message

-- a group with one more part, which came with so many hops at a moment, where the strategy made this message
abbrev pub grown : Aggregate → Key → Option Group → ℕ → ℕ → Message → Group
grown a k o hops at m = record {
  key = k;
  message = labelled (count_in o + 1) k.1 m;
  count = count_in o + 1;
  hops = max hops (hops_in o);
  due = after at a.timeout;
  force = a.force;
}

-- what the strategy makes is answered, or its fault, unless memory ran out
abbrev pub Adds : Answer Message → Result Message ArriveFault → Type 0
Adds wanted (Ok m) = wanted ≡ Ok m
Adds wanted (Err NoMemory) = Unit {0}
Adds wanted (Err (Unfit f)) = wanted ≡ Err f

-- the same of a group with one more part
abbrev pub Grows : Aggregate → Key → Option Group → Message → ℕ → ℕ → Result Group ArriveFault → Type 0
Grows a k o part hops at (Ok g) = (m : Message) × (added a.strategy (message_in o) part ≡ Ok m) × (g ≡ grown a k o hops at m)
Grows a k o part hops at (Err NoMemory) = Unit {0}
Grows a k o part hops at (Err (Unfit f)) = added a.strategy (message_in o) part ≡ Err f

-- a message with one more part, which says that it is of so many, come by this key
abbrev pub Takes : Strategy → ℕ → List ℕ → Message → Message → Message → Type 0
Takes s n key old part new = (m : Message) × (added s (Some old) part ≡ Ok m) × (new ≡ labelled n key m)

-- a group of a table grows by one more part, and this closes it then
pub record GrowsAt (a : Aggregate) (p : Arrival) (number : ℕ) (old new : List (ℕ × Group)) (cause : Option Completion) : Type 0 where
  pub was : Group
  pub group : Group
  pub open_group : value_at old number ≡ Some was
  pub grows : Grows a was.key (Some was) p.message p.hops p.at (Ok group)
  pub ready : IsReadyBody a.strategy group.message.body
  pub caused : cause ≡ cause_at a group.message group.count p.number p.route
  pub puts : Puts old new number (Some group)

-- a group can't grow by a part
abbrev pub IsRefused : Aggregate → Message → ℕ → ℕ → Option Group → ArriveFault → Type 0
IsRefused a part hops at None e = Unit {0}
IsRefused a part hops at (Some g) e = Grows a g.key (Some g) part hops at (Err e)

-- a group is due then
abbrev pub IsDueOf : Option ℕ → Option Group → Type 0
IsDueOf due None = Unit {0}
IsDueOf due (Some g) = due ≡ g.due

-- a group that is closed by a cause
abbrev pub closed_as : Completion → ℕ → Group → Closed
closed_as c n g = record { group = n; block = g.key.0; cause = c; hops = g.hops; message = g.message }

abbrev pub closed_by : Option Completion → ℕ → Group → Option Closed
closed_by None n g = None
closed_by (Some c) n g = Some (closed_as c n g)

-- what becomes of a group with its last part
abbrev pub left_in : Option Completion → Group → Option Group
left_in None g = Some g
left_in (Some c) g = None

-- a group is open under its number, or closed and answered, by what closes it
abbrev pub Settles : List (ℕ × Group) → List (ℕ × Group) → ℕ → Group → Option Completion → Result Arrived ArriveFault → Type 0
Settles old new n g c (Ok r) = (r ≡ record { group = n; closed = closed_by c n g }) × Puts old new n (left_in c g)
Settles old new n g c (Err e) = e ≡ NoMemory

-- a group goes on with one more part, and is open or closed then
pub record GoesOn (a : Aggregate) (p : Arrival) (number : ℕ) (old new : List (ℕ × Group)) (r : Arrived) : Type 0 where
  pub was : Group
  pub group : Group
  pub open_group : value_at old number ≡ Some was
  pub grows : Grows a was.key (Some was) p.message p.hops p.at (Ok group)
  pub ready : IsReadyBody a.strategy group.message.body
  pub settles : Settles old new number group (cause_at a group.message group.count p.number p.route) (Ok r)

-- what an arrival that the strategy could add is answered: its group's number, and the group where the arrival closes it
abbrev pub answer_at : Settings → List Call → Key → Arrival → Arrived
answer_at s calls k p = record {
  group = next_number (parts_of s calls k) (number_of s calls k) (begun s calls);
  closed = closed_by (cause_of (s k.0) k.1 p (parts_of s calls k)) (next_number (parts_of s calls k) (number_of s calls k) (begun s calls)) (group_of (s k.0) k (p ∷ parts_of s calls k));
}

-- an arrival is answered so, or with the strategy's fault, unless memory ran out
abbrev pub Answers : Settings → List Call → Key → Arrival → Result Arrived ArriveFault → Type 0
Answers s calls k p (Ok r) = ((m : Message) × (added_at s calls k p ≡ Ok m)) × (r ≡ answer_at s calls k p)
Answers s calls k p (Err NoMemory) = Unit {0}
Answers s calls k p (Err (Unfit f)) = added_at s calls k p ≡ Err f

-- ---- groups that close together

-- these are the open groups that pass a test, closed by a cause, in the order of their numbers
pub record AreClosed (s : Settings) (calls : List Call) (test : Group → Bool) (c : Completion) (closed : List Closed) : Type 0 where
  pub rising : IsStrictlySortedBy nat_cmp (map (λ (x : Closed). x.group) closed)
  pub each : (x : Closed) → IsAmong closed x ↔ ((k : Key) × (n : ℕ) × (g : Group) × (open_at s calls k ≡ Some (n, g)) × (test g ≡ true) × (x ≡ closed_as c n g))

-- this is the first moment at which an open group is due; or none has a timeout
abbrev pub IsFirstDue : Settings → List Call → Option ℕ → Type 0
IsFirstDue s calls first = MatchOption first
    ((k : Key) (n : ℕ) (g : Group) → open_at s calls k ≡ Some (n, g) → g.due ≡ None)
    (λ due. ((k : Key) × (n : ℕ) × (g : Group) × (open_at s calls k ≡ Some (n, g)) × (g.due ≡ Some due))
    × ((k : Key) (n d : ℕ) (g : Group) → open_at s calls k ≡ Some (n, g) → g.due ≡ Some d → due ≤ d))

-- these are the open groups with their numbers, in the order of the numbers
pub record AreOpen (s : Settings) (calls : List Call) (groups : List (ℕ × Group)) : Type 0 where
  pub rising : IsStrictlySortedBy nat_cmp (map (λ (e : ℕ × Group). e.0) groups)
  pub each : (n : ℕ) (g : Group) → (value_at groups n ≡ Some g) ↔ (open_at s calls g.key ≡ Some (n, g))

-- so many groups are open
abbrev pub AreAsMany : Settings → List Call → ℕ → Type 0
AreAsMany s calls n = (groups : List (ℕ × Group)) × AreOpen s calls groups × (n ≡ length groups)

-- this shows a group with its number
pub record Shows (shown : OpenGroup) (e : ℕ × Group) : Type 0 where
  pub number : shown.number ≡ e.0
  pub size : shown.size ≡ e.1.count
  pub key : shown.key.now ≡ e.1.key.1
  pub force : shown.force ≡ e.1.force

-- this shows the first open group behind a number, in the order of the numbers; or none has a greater number
abbrev pub ShowsBehind : Settings → List Call → ℕ → Option OpenGroup → Type 0
ShowsBehind s calls number shown = MatchOption shown
    ((k : Key) (n : ℕ) (g : Group) → open_at s calls k ≡ Some (n, g) → n ≤ number)
    (λ x. ((k : Key) × (n : ℕ) × (g : Group) × (open_at s calls k ≡ Some (n, g)) × (number < n) × Shows x (n, g))
    × ((k : Key) (n : ℕ) (g : Group) → open_at s calls k ≡ Some (n, g) → number < n → x.number ≤ n))

-- ---- how a table finds its groups

-- a key as one list: the aggregator's number and the bytes
abbrev pub key_line : Key → List ℕ
key_line k = k.0 ∷ k.1

abbrev pub key_writes : Key → List (List ℕ)
key_writes k = writes k.1

abbrev pub number_at : List (Key × ℕ) → Key → Option ℕ
number_at entries k = lookup (same_key k) entries

-- a moment stands in the set with a group's number
abbrev pub has_due : List (ℕ × ℕ) → ℕ → ℕ → Bool
has_due dues d n = list_any (λ e. (d == e.0) && (n == e.1)) dues

abbrev pub is_until : ℕ → Option ℕ → Bool
is_until d None = false
is_until d (Some moment) = moment == d

-- a group is due at just this moment
abbrev pub is_due_at : ℕ → Option Group → Bool
is_due_at d None = false
is_due_at d (Some g) = is_until d g.due

-- numbers are found by key and by moment for each open group, and no others are
pub record AreFound (groups : List (ℕ × Group)) (numbers : List (Key × ℕ)) (dues : List (ℕ × ℕ)) : Type 0 where
  pub numbered : (k : Key) (n : ℕ) → number_at numbers k ≡ Some n → (g : Group) × (value_at groups n ≡ Some g) × (g.key ≡ k)
  pub keyed : (n : ℕ) (g : Group) → value_at groups n ≡ Some g → number_at numbers g.key ≡ Some n
  pub timed : (d n : ℕ) → has_due dues d n ≡ is_due_at d (value_at groups n)

-- no group has this key
abbrev pub IsFree : List (ℕ × Group) → Key → Type 0
IsFree groups k = (n : ℕ) (g : Group) → value_at groups n ≡ Some g → g.key ≡ k → ⊥

-- the group of this number is the one of this key
pub record IsOf (groups : List (ℕ × Group)) (k : Key) (n : ℕ) : Type 0 where
  pub group : Group
  pub open_group : value_at groups n ≡ Some group
  pub keyed : group.key ≡ k
  pub alone : (m : ℕ) (g : Group) → value_at groups m ≡ Some g → g.key ≡ k → m ≡ n

-- the new table tells w of a key, and of all others what the old one does
abbrev pub Indexes : List (Key × ℕ) → List (Key × ℕ) → Key → Option ℕ → Type 0
Indexes old new key w = (k : Key) → number_at new k ≡ (if same_key key k then w else number_at old k)

-- whether a group of this number is due at this moment, where there is one, is b now, and all else as before
abbrev pub Times : List (ℕ × ℕ) → List (ℕ × ℕ) → Option ℕ → ℕ → Bool → Type 0
Times old new due number b = (d n : ℕ) → has_due new d n ≡ (if is_until d due && (number == n) then b else has_due old d n)

-- a group of this number is due no more at its old moment, unless the new one is the same, and all else is as before
abbrev pub Forgets : List (ℕ × ℕ) → List (ℕ × ℕ) → Option ℕ → Option ℕ → ℕ → Type 0
Forgets old new was is number = (d n : ℕ) → has_due new d n ≡ (if (is_until d was && not (is_until d is)) && (number == n) then false else has_due old d n)

-- this is the first moment at which a group of the table is due; or none has a timeout
abbrev pub IsLeastDue : List (ℕ × Group) → Option ℕ → Type 0
IsLeastDue groups first = MatchOption first
    ((n : ℕ) (g : Group) → value_at groups n ≡ Some g → g.due ≡ None)
    (λ due. ((n : ℕ) × (g : Group) × (value_at groups n ≡ Some g) × (g.due ≡ Some due)) × ((n d : ℕ) (g : Group) → value_at groups n ≡ Some g → g.due ≡ Some d → due ≤ d))

-- no group has a greater number than this one
abbrev pub IsBeyond : List (ℕ × Group) → ℕ → Type 0
IsBeyond groups number = (n : ℕ) (g : Group) → value_at groups n ≡ Some g → n ≤ number

-- this is the group with the least number that is greater than this one
abbrev pub IsNext : List (ℕ × Group) → ℕ → ℕ × Group → Type 0
IsNext groups number e = (value_at groups e.0 ≡ Some e.1) × (number < e.0) × ((n : ℕ) (g : Group) → value_at groups n ≡ Some g → number < n → e.0 ≤ n)

-- ---- groups that close together

abbrev pub passes : (Group → Bool) → Option Group → Bool
passes test None = false
passes test (Some g) = test g

-- an element of a list that is picked has this number
abbrev pub is_picked : {X : Type 0} → (X → Bool) → (X → ℕ) → List X → ℕ → Bool
is_picked pick number xs n = list_any (λ e. pick e && (number e == n)) xs

-- a set has the numbers of just those elements that are picked
abbrev pub ArePicked : {X : Type 0} → (X → Bool) → (X → ℕ) → List X → BTreeSet ℕ → Type 0
ArePicked pick number xs numbers = (n : ℕ) → contains nat_cmp numbers n ≡ is_picked pick number xs n

-- a moment with a number is this one or sooner
abbrev pub is_by : ℕ → ℕ × ℕ → Bool
is_by t e = nat_le e.0 t

abbrev pub due_number : ℕ × ℕ → ℕ
due_number e = e.1

-- a group with its number may be forced to close
abbrev pub is_forced : ℕ × Group → Bool
is_forced e = e.1.force

abbrev pub group_number : ℕ × Group → ℕ
group_number e = e.0

-- a set has the numbers of just those groups that pass a test
abbrev pub ArePassing : (Group → Bool) → List (ℕ × Group) → BTreeSet ℕ → Type 0
ArePassing test groups numbers = (n : ℕ) → contains nat_cmp numbers n ≡ passes test (value_at groups n)

-- a group of each of these numbers is open
abbrev pub AllOpen : List (ℕ × Group) → BTreeSet ℕ → Type 0
AllOpen groups numbers = (n : ℕ) → contains nat_cmp numbers n ≡ true → IsSome (value_at groups n)

-- the group of a number, closed by a cause; one that isn't there would be empty
abbrev pub no_group : Group
no_group = record { key = (0, []); message = or_empty None; count = 0; hops = 0; due = None; force = false }

abbrev pub closing : Completion → List (ℕ × Group) → ℕ → Closed
closing c groups n = closed_as c n (unwrap_or (value_at groups n) no_group)
