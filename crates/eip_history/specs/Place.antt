-- Where each exchange stands, and the counts that are read from the places.
use Rattle.std.specs.Prelude.{ℕ, zero, suc, ◌==◌, ◌+◌, ◌&&◌, not, nat_lt, Bool, true, false, cond, List, [], ◌∷◌, Option, Some, None, length, filter, filter_map, map, option_map, is_some}
use Rattle.eip_exchange.specs.declared.end.Ended.{Ended as Finish}
use Rattle.eip_exchange.specs.declared.birth.Origin.{Origin}
use Rattle.eip_exchange.specs.declared.birth.Origin.TheVariants as from
use Rattle.eip_exchange.specs.declared.birth.Birth.{Birth}
use Rattle.eip_frames.specs.declared.answer.Answer.{Answer as Reply}
use Rattle.eip_frames.specs.declared.answer.Answer.TheVariants as reply
use Rattle.eip_frames.specs.Fate.{Fate, Ends}
use Rattle.eip_ledger.specs.declared.place.Place.{Place}
use Rattle.eip_ledger.specs.declared.place.Place.TheVariants.{Ended, Queue, InHand, Retry, Joining, Ready}
use Rattle.eip_history.specs.Plan.{Plan}
use Rattle.eip_history.specs.Own.{Past, numbers_below, own, started, taker, last_answer, clock, numbered, source_state, is_out}
use Rattle.eip_history.specs.Births.{fate, births}

-- the end and the message of an exchange that has ended
abbrev pub end_of : Fate → Option Finish
end_of (Ends e m) = Some (record { end = e; message = m })
end_of _ = None

-- how a birth ended, if there is such a birth
abbrev pub end_at : Plan → Past → Option Birth → Option Finish
end_at s past (Some b) = end_of (fate s past b)
end_at s past None = None

-- how exchange x ended
unfoldable pub ended : Plan → Past → ℕ → Option Finish
ended s past x = end_at s past (numbered (births s past) x)

-- a list where there is both a first and a rest
abbrev pub cons_option : {A : Type 0} → Option A → Option (List A) → Option (List A)
cons_option (Some x) (Some xs) = Some (x ∷ xs)
cons_option _ _ = None

-- the ends and messages of the parts from a number on, by index, where all have ended
abbrev pub joined : Plan → Past → ℕ → ℕ → Option (List Finish)
joined s past first zero = Some []
joined s past first (suc k) = cons_option (ended s past first) (joined s past (first + 1) k)

-- is there something
abbrev pub is_waiting_for : Option ℕ → Bool
is_waiting_for o = is_some o

-- what the last answer leaves it waiting for
pub data Pause : Type 0 where
  Sleeps : ℕ → Pause
  Joins : ℕ → ℕ → Pause
  Runs : Pause

-- a sleep and the birth of parts are waited for; every other answer lets it run on
abbrev pub pause_of : Option Reply → Pause
pause_of (Some (reply.Slept d)) = Sleeps d
pause_of (Some (reply.Born first count)) = Joins first count
pause_of _ = Runs

-- where a pause leaves it: it sleeps while its moment is ahead, and joins until all parts have ended
abbrev pub paused : ℕ → (ℕ → ℕ → Bool) → Pause → Place
paused now all (Sleeps d) = cond (nat_lt now d) (Retry d) Ready
paused now all (Joins first count) = cond (all first count) Ready Joining
paused now all Runs = Ready

-- who has been taken is in that worker's hand
abbrev pub in_hand : Option ℕ → Place → Place
in_hand (Some w) p = InHand w
in_hand None p = p

-- who was born into a queue stays there until it starts
abbrev pub queued : Origin → Bool → Place → Place
queued (from.Queue q) false p = Queue q
queued _ _ p = p

-- the place, from the own entries, the clock and which parts have all ended
abbrev pub place_by : ℕ → (ℕ → ℕ → Bool) → Birth → Past → Fate → Place
place_by now all b o (Ends e m) = Ended e
place_by now all b o f = queued b.origin (started o) (in_hand (taker o) (paused now all (pause_of (last_answer o))))

-- have all parts from a number on ended
abbrev pub all_ended : Plan → Past → ℕ → ℕ → Bool
all_ended s past first count = is_some (joined s past first count)

-- where a birth stands
unfoldable pub place_of : Plan → Past → Birth → Place
place_of s past b = place_by (clock past) (all_ended s past) b (own b.number past) (fate s past b)

-- where exchange x stands, if it is born
unfoldable pub place : Plan → Past → ℕ → Option Place
place s past x = option_map (place_of s past) (numbered (births s past) x)

-- may it act
abbrev pub is_ready : Place → Bool
is_ready Ready = true
is_ready _ = false

-- is it in hand
abbrev pub is_held : Place → Bool
is_held (InHand w) = true
is_held _ = false

-- has it ended
abbrev pub is_ended : Place → Bool
is_ended (Ended e) = true
is_ended _ = false

-- does it wait in queue q
abbrev pub is_in : ℕ → Place → Bool
is_in q (Queue r) = r == q
is_in q _ = false

-- the births whose place passes a test
abbrev pub at_place : Plan → Past → (Place → Bool) → List Birth
at_place s past p = filter (λ (b : Birth). p (place_of s past b)) (births s past)

-- the number of a birth
abbrev pub number_of : Birth → ℕ
number_of b = b.number

-- the numbers of the births whose place passes a test, rising
unfoldable pub numbers_at : Plan → Past → (Place → Bool) → List ℕ
numbers_at s past p = map number_of (at_place s past p)

-- how many births' place passes a test
unfoldable pub count_at : Plan → Past → (Place → Bool) → ℕ
count_at s past p = length (at_place s past p)

-- the numbers of the exchanges that may act
abbrev pub ready_numbers : Plan → Past → List ℕ
ready_numbers s past = numbers_at s past is_ready

-- the numbers of the exchanges that wait in queue q, first born first
abbrev pub waiting : Plan → Past → ℕ → List ℕ
waiting s past q = numbers_at s past (is_in q)

-- was it born into queue q
abbrev pub is_born_into : ℕ → Origin → Bool
is_born_into q (from.Queue r) = r == q
is_born_into q _ = false

-- it has left queue q and hasn't ended
abbrev pub is_busy : ℕ → Birth → Place → Bool
is_busy q b p = is_born_into q b.origin && (not (is_in q p) && not (is_ended p))

-- how many of queue q's consumers are at work
unfoldable pub busy : Plan → Past → ℕ → ℕ
busy s past q = length (filter (λ (b : Birth). is_busy q b (place_of s past b)) (births s past))

-- is there a first
abbrev pub is_some_first : List ℕ → Bool
is_some_first [] = false
is_some_first (x ∷ xs) = true

-- somebody waits in queue q and a consumer is free
abbrev pub is_startable : Plan → Past → ℕ → Bool
is_startable s past q = is_some_first (waiting s past q) && nat_lt (busy s past q) (s.queue q).consumers

-- how many pulls are out
unfoldable pub pulls_out : Plan → Past → ℕ
pulls_out s past = length (numbers_below (λ t. is_out (source_state t past)) s.routes)

-- the newest own entry is a Take
abbrev pub is_taken : Past → Birth → Bool
is_taken past b = is_some (taker (own b.number past))

-- how many exchanges are taken
unfoldable pub takes_out : Plan → Past → ℕ
takes_out s past = length (filter (is_taken past) (births s past))

-- the Pulls and Takes that are out
abbrev pub hands : Plan → Past → ℕ
hands s past = pulls_out s past + takes_out s past

-- what a table holds of the births, by their places: ready numbers, sleepers with their moment, queues, hands, joins
unfoldable pub picked : {A : Type 0} → Plan → Past → (Birth → Place → Option A) → List A
picked s past pick = filter_map (λ (b : Birth). pick b (place_of s past b)) (births s past)
