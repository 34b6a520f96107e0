-- The births that the entries make. One fold carries the births and the groups.
use Rattle.std.specs.Prelude.{ℕ, ◌+◌, cond, codes, List, [], ◌∷◌, ◌++◌, Option, Some, None, length, filter}
use Rattle.eip_exchange.specs.declared.message.Message.{Message}
use Rattle.eip_exchange.specs.declared.birth.Birth.{Birth}
use Rattle.eip_exchange.specs.declared.birth.Work.TheVariants.{Block}
use Rattle.eip_exchange.specs.declared.birth.Care.TheVariants.{Full}
use Rattle.eip_exchange.specs.Ends.{out_of_memory}
use Rattle.eip_exchange.specs.declared.birth.Origin.TheVariants as from
use Rattle.eip_frames.specs.declared.answer.Answer.{Answer as Reply}
use Rattle.eip_frames.specs.declared.answer.Answer.TheVariants as reply
use Rattle.eip_frames.specs.declared.request.Request.{Request}
use Rattle.eip_frames.specs.declared.request.Request.TheVariants.{Offer, Spawn, Arrive}
use Rattle.eip_frames.specs.declared.answer.Completion.{Completion}
use Rattle.eip_frames.specs.declared.answer.Completion.TheVariants as by
use Rattle.eip_frames.specs.declared.request.At.{At}
use Rattle.eip_frames.specs.declared.request.Seed.{Seed}
use Rattle.eip_frames.specs.Fate.{Fate, AsksNext, Ends}
use Rattle.eip_ledger.specs.declared.entry.Kind.{Kind}
use Rattle.eip_ledger.specs.declared.entry.Kind.TheVariants.{Accept, Answer, Tick, Force}
use Rattle.eip_history.specs.Plan.{Plan}
use Rattle.eip_history.specs.Own.{Past, own, answers, starved, clock, numbered}
use Rattle.eip_history.specs.Groups.{Group, Arrival, arrived, put_group, closed_by, is_due, is_forced, message_of, greatest_hops, property}

-- who was starved has failed; all others go by the meaning
abbrev pub fate_by : Plan → Birth → Past → Fate
fate_by s b o = cond (starved o) (Ends out_of_memory b.message) (s.mean b (answers o))

-- the fate of a birth, read from its own entries
unfoldable pub fate : Plan → Past → Birth → Fate
fate s past b = fate_by s b (own b.number past)

-- an exchange that asks, with its request
pub record Asked : Type 0 where
  pub birth : Birth
  pub request : Request
  pub at : At

-- what a birth asks, by its fate
abbrev pub asked_by : Birth → Fate → Option Asked
asked_by b (AsksNext q p) = Some (record { birth = b; request = q; at = p })
asked_by b _ = None

-- what a birth asks behind a past, if there is such a birth
abbrev pub asked_of : Plan → Past → Option Birth → Option Asked
asked_of s past (Some b) = asked_by b (fate s past b)
asked_of s past None = None

-- the exchange of an accepted item
abbrev pub item_birth : Plan → ℕ → ℕ → List ℕ → Message → Birth
item_birth s n source item m =
    record { number = n; origin = from.Source source item; work = Block (s.block_of source); hops = 0; depth = 0; route = source; care = Full; message = m }

-- the copy that an exchange puts into a queue
abbrev pub queue_birth : Plan → ℕ → Asked → ℕ → Message → Birth
queue_birth s n k q m =
    record { number = n; origin = from.Queue q; work = Block (s.block_of q); hops = k.birth.hops + 1; depth = 0; route = q; care = Full; message = m }

-- the parts that an exchange asks for, numbered on, indexed on
abbrev pub part_births : ℕ → Asked → ℕ → List Seed → List Birth
part_births n k i [] = []
part_births n k i (d ∷ ds) =
    (record {
      number = n;
      origin = from.Part k.birth.number i;
      work = d.work;
      hops = k.birth.hops;
      depth = k.at.depth;
      route = k.at.route;
      care = d.care;
      message = d.message;
    })
    ∷ part_births (n + 1) k (i + 1) ds

-- a cause as its property says it
abbrev pub name_of : Completion → List ℕ
name_of by.Size = codes "size"
name_of by.Predicate = codes "predicate"
name_of by.Timeout = codes "timeout"
name_of by.Force = codes "force"

-- the exchange of a closed group
abbrev pub group_birth : Plan → ℕ → Completion → Group → Birth
group_birth s n c g = record {
  number = n;
  origin = from.Group g.number;
  work = Block g.aggregator;
  hops = greatest_hops g.parts;
  depth = 0;
  route = (s.group g.aggregator).route;
  care = Full;
  message = property (codes "CamelAggregatedCompletedBy") (name_of c) (message_of s g);
}

-- the exchanges of groups that one entry closes, by group number
abbrev pub group_births : Plan → ℕ → Completion → List Group → List Birth
group_births s n c [] = []
group_births s n c (g ∷ gs) = group_birth s n c g ∷ group_births s (n + 1) c gs

-- all births, and all groups, open and closed
pub record Story : Type 0 where
  pub births : List Birth
  pub groups : List Group

-- the arrival of an exchange that asks Arrive
abbrev pub arrival_of : Past → Asked → Message → Arrival
arrival_of past k m = record { number = k.birth.number; route = k.at.route; hops = k.birth.hops; at = clock past; message = m }

-- the number of the next birth
abbrev pub next_number : Story → ℕ
next_number t = length t.births + 1

-- the births that an answer makes, by the request that it answers
abbrev pub made_for : Plan → Story → Past → Asked → Request → Reply → List Birth
made_for s t past k (Offer q discard m) (reply.Queued n) = queue_birth s (next_number t) k q m ∷ []
made_for s t past k (Spawn seeds) (reply.Born first count) = part_births (next_number t) k k.at.index seeds
made_for s t past k (Arrive a key m) (reply.Closed g c n) = group_birth s (next_number t) c (arrived 1 t.groups a key (arrival_of past k m)) ∷ []
made_for s t past k _ _ = []

-- none where nobody asks
abbrev pub made_by : Plan → Story → Past → Option Asked → Reply → List Birth
made_by s t past None a = []
made_by s t past (Some k) a = made_for s t past k k.request a

-- the births that an entry makes
abbrev pub made : Plan → Story → Past → Kind → List Birth
made s t past (Accept source item m) = item_birth s (next_number t) source item m ∷ []
made s t past (Answer x a) = made_by s t past (asked_of s past (numbered t.births x)) a
made s t past (Tick now) = group_births s (next_number t) by.Timeout (filter (is_due s now) t.groups)
made s t past Force = group_births s (next_number t) by.Force (filter (is_forced s) t.groups)
made s t past _ = []

-- the groups behind an answer
abbrev pub grouped_for : Story → Past → Asked → Request → Reply → List Group
grouped_for t past k (Arrive a key m) (reply.Arrived n) = put_group (arrived 1 t.groups a key (arrival_of past k m)) t.groups
grouped_for t past k (Arrive a key m) (reply.Closed g c n) = put_group (record (arrived 1 t.groups a key (arrival_of past k m)) { closed = Some c }) t.groups
grouped_for t past k _ _ = t.groups

-- as they were where nobody asks
abbrev pub grouped_by : Story → Past → Option Asked → Reply → List Group
grouped_by t past None a = t.groups
grouped_by t past (Some k) a = grouped_for t past k k.request a

-- the groups behind an entry
abbrev pub grouped : Plan → Story → Past → Kind → List Group
grouped s t past (Answer x a) = grouped_by t past (asked_of s past (numbered t.births x)) a
grouped s t past (Tick now) = closed_by by.Timeout (is_due s now) t.groups
grouped s t past Force = closed_by by.Force (is_forced s) t.groups
grouped s t past _ = t.groups

-- the births and groups behind a past
unfoldable pub story : Plan → Past → Story
story s [] = record { births = []; groups = [] }
story s (e ∷ past) = record { births = (story s past).births ++ made s (story s past) past e.kind; groups = grouped s (story s past) past e.kind }

-- the births that an entry makes behind a past
abbrev pub made_at : Plan → Past → Kind → List Birth
made_at s past k = made s (story s past) past k

-- the exchanges that a past has made, by number
abbrev pub births : Plan → Past → List Birth
births s past = (story s past).births

-- the groups that a past has made, by number
abbrev pub groups : Plan → Past → List Group
groups s past = (story s past).groups

-- what exchange x asks
abbrev pub asked : Plan → Past → ℕ → Option Asked
asked s past x = asked_of s past (numbered (births s past) x)
