-- Where a run stops, and who acts next in the plain schedule.
use Rattle.std.specs.Prelude.{ℕ, ◌≡◌, ◌==◌, ◌&&◌, ◌||◌, not, Bool, true, false, cond, List, [], ◌∷◌, Option, Some, None, is_some, IsTrue, length, filter}
use Rattle.eip_ledger.specs.declared.entry.Kind.{Kind}
use Rattle.eip_ledger.specs.declared.entry.Kind.TheVariants.{Pull, Accept, Refuse, SourceEnd, SourceFault, Start, Take, Answer, Tick, Force, Starve}
use Rattle.eip_ledger.specs.declared.place.Stop.{Stop}
use Rattle.eip_ledger.specs.declared.place.Stop.TheVariants.{Drained, Held, Spent, SourceFault as Faulted}
use Rattle.eip_history.specs.Plan.{Plan}
use Rattle.eip_history.specs.Own.{Past, numbers_below, source_state, is_out, turns}
use Rattle.eip_history.specs.Groups.{Group, is_open, due_of, is_forced}
use Rattle.eip_history.specs.Births.{groups}
use Rattle.eip_history.specs.Place.{count_at, is_ended, is_held, numbers_at, ready_numbers, hands}
use Rattle.eip_history.specs.Rules.{unfinished, startable, any_group, least, dues}

-- the source that fails by an entry
abbrev pub fault_in : Kind → Option ℕ
fault_in (SourceFault s) = Some s
fault_in _ = None

-- the older one, if there is one
abbrev pub or_else : Option ℕ → Option ℕ → Option ℕ
or_else None o = o
or_else (Some x) o = Some x

-- the first source that failed
unfoldable pub first_fault : Past → Option ℕ
first_fault [] = None
first_fault (e ∷ past) = or_else (first_fault past) (fault_in e.kind)

-- an open group that a timeout or force will close
abbrev pub will_close : Plan → Group → Bool
will_close s g = is_some (due_of s g) || is_forced s g

-- how many exchanges haven't ended
abbrev pub unended : Plan → Past → ℕ
unended s past = count_at s past (λ p. not (is_ended p))

-- is the list empty
abbrev pub no_numbers : List ℕ → Bool
no_numbers [] = true
no_numbers (x ∷ xs) = false

-- nothing waits
unfoldable pub is_over : Plan → Past → Bool
is_over s past = (unended s past == 0) && (no_numbers (unfinished s past) && not (any_group (will_close s) (groups s past)))

-- the open groups, by number
abbrev pub open_groups : Plan → Past → List Group
open_groups s past = filter is_open (groups s past)

-- open groups hold the run; without any it is drained
abbrev pub held_or_drained : ℕ → Stop
held_or_drained n = cond (n == 0) Drained (Held n)

-- a failed source is reported in place of any other stop
abbrev pub with_fault : Option ℕ → Stop → Stop
with_fault (Some s) stop = Faulted s
with_fault None stop = stop

-- why the run stops here, or none where it goes on
unfoldable pub stop_of : Plan → ℕ → Past → Option Stop
stop_of s limit past =
    cond (is_over s past) (Some (with_fault (first_fault past) (held_or_drained (length (open_groups s past)))))
    (cond ((turns past == limit) && (hands s past == 0)) (Some (with_fault (first_fault past) Spent)) None)

-- who acts next
pub data Actor : Type 0 where
  TheExchange : ℕ → Actor
  TheSource : ℕ → Actor
  TheQueue : ℕ → Actor
  TheClock : Actor
  TheForce : Actor
  Nobody : Actor

-- the first of a list acts, or else somebody of another
abbrev pub first_or : List ℕ → (ℕ → Actor) → Actor → Actor
first_or [] f a = a
first_or (x ∷ xs) f a = f x

-- who acts next: the one in hand, the pulled source, the least ready number, the first startable queue, the first unfinished source, the clock, force
unfoldable pub actor : Plan → Past → Actor
actor s past =
    first_or (numbers_at s past is_held) TheExchange
    (first_or (numbers_below (λ t. is_out (source_state t past)) s.routes) TheSource
    (first_or (ready_numbers s past) TheExchange
    (first_or (startable s past) TheQueue
    (first_or (unfinished s past) TheSource
    (cond (is_some (least (dues s past))) TheClock (cond (any_group (is_forced s) (groups s past)) TheForce Nobody))))))

-- is the entry one of this actor's
abbrev pub is_of : Actor → Kind → Bool
is_of (TheExchange x) (Take n) = n == x
is_of (TheExchange x) (Answer n a) = n == x
is_of (TheExchange x) (Starve n) = n == x
is_of (TheSource t) (Pull s) = s == t
is_of (TheSource t) (Accept s item m) = s == t
is_of (TheSource t) (Refuse s item c) = s == t
is_of (TheSource t) (SourceEnd s) = s == t
is_of (TheSource t) (SourceFault s) = s == t
is_of (TheQueue q) (Start r x) = r == q
is_of TheClock (Tick t) = true
is_of TheForce Force = true
is_of _ _ = false

-- each entry is made by worker 0 for the actor named on the past before it
unfoldable pub IsPlain : Plan → Past → Type 0
IsPlain s [] = Unit {0}
IsPlain s (e ∷ past) = IsPlain s past × (e.worker ≡ 0) × IsTrue (is_of (actor s past) e.kind)
