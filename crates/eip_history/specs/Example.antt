-- A small history, computed.
use Rattle.std.specs.Prelude.{◌≡◌, ℕ, zero, suc, ◌==◌, true, false, List, [], ◌∷◌, ◌++◌, map, length, codes, reverse, Some, None, refl}
use Rattle.eip_exchange.specs.declared.message.Message.{Message}
use Rattle.eip_exchange.specs.declared.birth.Birth.{Birth}
use Rattle.eip_exchange.specs.declared.end.End.TheVariants.{Completed}
use Rattle.eip_exchange.specs.declared.birth.Work.{Work}
use Rattle.eip_exchange.specs.declared.birth.Work.TheVariants.{Block, To}
use Rattle.eip_exchange.specs.declared.birth.Care.TheVariants.{Full}
use Rattle.eip_exchange.specs.declared.end.Ended.{Ended}
use Rattle.eip_frames.specs.declared.request.Request.{Request}
use Rattle.eip_frames.specs.declared.request.Request.TheVariants as request
use Rattle.eip_frames.specs.declared.request.Seed.{Seed}
use Rattle.eip_frames.specs.Fate.{Fate, AsksNext, Ends, Strays}
use Rattle.eip_frames.specs.declared.answer.Answer.TheVariants as reply
use Rattle.eip_frames.specs.declared.answer.Completion.TheVariants as by
use Rattle.eip_ledger.specs.declared.entry.Entry.{Entry}
use Rattle.eip_ledger.specs.declared.entry.Kind.{Kind}
use Rattle.eip_ledger.specs.declared.entry.Kind.TheVariants as kind
use Rattle.eip_ledger.specs.declared.place.Stop.TheVariants.{Drained}
use Rattle.eip_ledger.specs.declared.place.Place.{Place}
use Rattle.eip_ledger.specs.declared.place.Place.TheVariants as place_is
use Rattle.eip_history.specs.Plan.{Plan, Gives}
use Rattle.eip_history.specs.Own.{Past, own, source_state, clock, turns}
use Rattle.eip_history.specs.Groups.{Group}
use Rattle.eip_history.specs.Births.{story, fate, births, groups}
use Rattle.eip_history.specs.Place.{takes_out, place_of, ended, numbers_at, count_at, busy, pulls_out, number_of}
use Rattle.eip_history.specs.Rules.{unfinished, startable, served, holder_of, dues, least}
use Rattle.eip_history.specs.Stop.{first_fault, is_over, stop_of, actor, TheClock}

-- a message with this body alone
abbrev pub plain : List ℕ → Message
plain b = record { body = b; headers = []; properties = [] }

-- a part that runs block 5
abbrev pub seed : List ℕ → Seed
seed b = record { work = Block 5; care = Full; message = plain b }

-- a completed end without commit
abbrev pub finish : Message → Request
finish m = request.Finish Completed m false

-- what each block asks, in order
abbrev pub script : ℕ → List Request
script zero =
    request.Offer 1 false (plain (codes "q")) ∷ request.Spawn (seed (codes "a") ∷ seed (codes "b") ∷ []) ∷ request.Join 3 2 ∷ request.Wait 7
    ∷ request.Idem (codes "r") (codes "k") true true ∷ request.Arrive 9 (codes "k") (plain (codes "one")) ∷ request.Arrive 9 (codes "k") (plain (codes "two")) ∷ []
script (suc zero) = request.Arrive 9 (codes "k") (plain (codes "queued")) ∷ []
script _ = []

-- the block that an exchange runs
abbrev pub block_number : Work → ℕ
block_number (Block b) = b
block_number (To t) = 0

-- the request behind so many answers; behind the last comes the end
abbrev pub asks_at : List Request → ℕ → Message → Fate
asks_at (q ∷ qs) zero m = AsksNext q (record { route = 0; depth = 0; index = 0 })
asks_at (q ∷ qs) (suc n) m = asks_at qs n m
asks_at [] zero m = AsksNext (finish m) (record { route = 0; depth = 0; index = 0 })
asks_at [] (suc zero) m = Ends Completed m
asks_at [] (suc (suc n)) m = Strays

-- one source, and one queue with room for two and one consumer; groups close at two parts or after 100 ticks
abbrev pub small : Plan
small = record {
  mean = λ b given. asks_at (script (block_number b.work)) (length given) b.message;
  routes = 2;
  is_source = λ t. t == 0;
  is_queue = λ q. q == 1;
  block_of = λ r. r;
  queue = λ q. record { size = 2; consumers = 1 };
  group = λ a. record { size = Some 2; timeout = Some 100; force = false; closes = λ n r m. false; add = λ old m. Gives m; route = 0 };
}

-- an entry of worker 0
abbrev pub by_zero : Kind → Entry
by_zero k = record { worker = 0; kind = k }

-- a part that completed with this body
abbrev pub done : List ℕ → Ended
done b = record { end = Completed; message = plain b }

-- an item is queued on, then split in two; one part has ended
abbrev pub early : List Kind
early =
    kind.Pull 0
    ∷ kind.Accept 0 (codes "1") (plain (codes "in"))
    ∷ kind.Answer 1 (reply.Queued 2)
    ∷ kind.Answer 1 (reply.Born 3 2)
    ∷ kind.Answer 3 reply.Finished
    ∷ []

-- the parts are joined, the item sleeps, the copy arrives at a group, and the source ends
abbrev pub middle : List Kind
middle =
    kind.Answer 4 reply.Finished
    ∷ kind.Answer 1 (reply.Joined (done (codes "a") ∷ done (codes "b") ∷ []))
    ∷ kind.Answer 1 (reply.Slept 7)
    ∷ kind.Start 1 2
    ∷ kind.Answer 2 (reply.Arrived 1)
    ∷ kind.Answer 2 reply.Finished
    ∷ kind.Pull 0
    ∷ kind.SourceEnd 0
    ∷ []

-- the clock wakes the sleeper; it takes the key, closes the group and begins another, which times out
abbrev pub late : List Kind
late =
    kind.Tick 7
    ∷ kind.Answer 1 reply.Fresh
    ∷ kind.Answer 1 (reply.Closed 1 by.Size 5)
    ∷ kind.Answer 1 (reply.Arrived 2)
    ∷ kind.Answer 1 reply.Finished
    ∷ kind.Answer 5 reply.Finished
    ∷ kind.Tick 107
    ∷ []

-- a list of entries in order, as a past
abbrev pub past_of : List Kind → Past
past_of ks = reverse (map by_zero ks)

-- their numbers
abbrev pub numbers : List Birth → List ℕ
numbers bs = map number_of bs

-- where all exchanges stand
abbrev pub places : Past → List Place
places past = map (λ (b : Birth). place_of small past b) (births small past)

-- the place of who completed
abbrev pub ended_well : Place
ended_well = place_is.Ended Completed

pub splits : places (past_of early) ≡ place_is.Joining ∷ place_is.Queue 1 ∷ ended_well ∷ place_is.Ready ∷ []
unfolding own story fate ended place_of clock
splits = refl

pub sleeps : places (past_of (early ++ middle)) ≡ place_is.Retry 7 ∷ ended_well ∷ ended_well ∷ ended_well ∷ []
unfolding own story fate ended place_of clock
sleeps = refl

pub ticks : least (dues small (past_of (early ++ middle))) ≡ Some 7
unfolding own story fate ended place_of clock dues
ticks = refl

pub clock_acts : actor small (past_of (early ++ middle)) ≡ TheClock
unfolding own story fate ended place_of clock dues unfinished startable actor source_state numbers_at busy count_at
clock_acts = refl

pub is_not_over : stop_of small 100 (past_of (early ++ middle)) ≡ None
unfolding own story fate ended place_of clock dues unfinished startable actor source_state numbers_at busy count_at stop_of is_over turns pulls_out takes_out first_fault
is_not_over = refl

pub closes : map (λ (g : Group). length g.parts) (groups small (past_of (early ++ middle ++ late))) ≡ 2 ∷ 1 ∷ []
unfolding own story fate ended place_of clock
closes = refl

pub births_are : numbers (births small (past_of (early ++ middle ++ late))) ≡ 1 ∷ 2 ∷ 3 ∷ 4 ∷ 5 ∷ 6 ∷ []
unfolding own story fate ended place_of clock
births_are = refl

pub holds : holder_of small (past_of (early ++ middle ++ late)) (codes "r") (codes "k") ≡ Some 1
unfolding own story fate ended place_of clock served holder_of
holds = refl

pub drains : stop_of small 100 (past_of (early ++ middle ++ late ++ kind.Answer 6 reply.Finished ∷ [])) ≡ Some Drained
unfolding own story fate ended place_of clock dues unfinished startable actor source_state numbers_at busy count_at stop_of is_over turns pulls_out takes_out first_fault
drains = refl

-- a plan whose exchanges finish at once
abbrev pub tiny : Plan
tiny = record small { mean = λ b given. asks_at [] (length given) b.message }
