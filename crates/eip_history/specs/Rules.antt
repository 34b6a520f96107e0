-- Where each entry may come.
use Rattle.std.specs.Prelude.{ℕ, ◌≡◌, ◌+◌, ◌<◌, ◌≤◌, ◌&&◌, ◌||◌, not, min, bytes_eq, Bool, true, false, List, [], ◌∷◌, ◌++◌, Option, Some, None, length, filter, filter_map, map, find, ◌⊎◌}
use Rattle.eip_exchange.specs.declared.end.Ended.{Ended as Finished}
use Rattle.eip_exchange.specs.declared.end.End.TheVariants as end
use Rattle.eip_exchange.specs.declared.end.End.{End}
use Rattle.eip_exchange.specs.declared.message.Message.{Message}
use Rattle.eip_exchange.specs.declared.birth.Birth.{Birth}
use Rattle.eip_frames.specs.declared.answer.Answer.{Answer as Reply}
use Rattle.eip_frames.specs.declared.answer.Answer.TheVariants as reply
use Rattle.eip_frames.specs.declared.request.Request.{Request}
use Rattle.eip_frames.specs.declared.request.Request.TheVariants.{Offer, Spawn, Join, Arrive, Idem, Wait}
use Rattle.eip_frames.specs.Fits.{fits, is_outside}
use Rattle.eip_ledger.specs.declared.entry.Kind.{Kind}
use Rattle.eip_ledger.specs.declared.entry.Kind.TheVariants.{Pull, Accept, Refuse, SourceEnd, SourceFault, Start, Take, Answer, Tick, Force, Starve, Return}
use Rattle.eip_ledger.specs.declared.place.Place.{Place}
use Rattle.eip_ledger.specs.declared.place.Place.TheVariants as place_is
use Rattle.eip_history.specs.Plan.{Plan, Added, Gives, Faults}
use Rattle.eip_history.specs.Own.{Past, numbers_below, clock, source_state, Idle, Out, is_done, turns}
use Rattle.eip_history.specs.Groups.{Group, is_for, arrived, cause_at, folded_of, due_of, is_forced}
use Rattle.eip_history.specs.Births.{Asked, births, groups, asked, arrival_of}
use Rattle.eip_history.specs.Place.{ended, joined, place, place_of, ready_numbers, waiting, busy, is_startable, hands}

-- an answer with the request that it answers
pub record Served : Type 0 where
  pub worker : ℕ
  pub asked : Asked
  pub answer : Reply

-- an answer to nobody is none
abbrev pub served_by : ℕ → Option Asked → Reply → List Served
served_by w (Some k) a = record { worker = w; asked = k; answer = a } ∷ []
served_by w None a = []

-- the answer that an entry gives, with its request
abbrev pub served_in : Plan → Past → ℕ → Kind → List Served
served_in s past w (Answer x a) = served_by w (asked s past x) a
served_in s past w _ = []

-- all answers with their requests, the oldest first: log, calls, commits and keys are read from it
unfoldable pub served : Plan → Past → List Served
served s [] = []
served s (e ∷ past) = served s past ++ served_in s past e.worker e.kind

-- an exchange's claim to a key of a repository: an eager one holds the key at once, one that isn't eager from its exchange's
-- end on; where `remove` is set, an end that doesn't complete gives it up
pub record Claim : Type 0 where
  pub number : ℕ
  pub repository : List ℕ
  pub key : List ℕ
  pub eager : Bool
  pub remove : Bool

-- a Fresh answer to an offered key is a claim
abbrev pub claim_for : ℕ → Request → Reply → Option Claim
claim_for x (Idem r k eager remove) reply.Fresh = Some (record { number = x; repository = r; key = k; eager = eager; remove = remove })
claim_for x _ _ = None

-- the claim that an answer makes
abbrev pub claim_of : Served → Option Claim
claim_of v = claim_for v.asked.birth.number v.asked.request v.answer

-- all claims, the oldest first
abbrev pub claims : Plan → Past → List Claim
claims s past = filter_map claim_of (served s past)

-- the end of who completes
abbrev pub completes : End → Bool
completes end.Completed = true
completes _ = false

-- a claim lasts beyond an end at which its exchange completes, and beyond every end where it isn't to be removed
abbrev pub lasts : Claim → Finished → Bool
lasts c f = completes f.end || not c.remove

-- a claim that hasn't been given up, by how its exchange ended
abbrev pub keeps : Claim → Option Finished → Bool
keeps c None = true
keeps c (Some f) = lasts c f

-- a claim that holds its key, by how its exchange ended: before the end only an eager one does
abbrev pub holds : Claim → Option Finished → Bool
holds c None = c.eager
holds c (Some f) = lasts c f

-- a claim to this key
abbrev pub is_key : List ℕ → List ℕ → Claim → Bool
is_key r k c = bytes_eq c.repository r && bytes_eq c.key k

-- a claim that holds its key behind a past
abbrev pub is_holding : Plan → Past → Claim → Bool
is_holding s past c = holds c (ended s past c.number)

-- a claim to this key that holds it
abbrev pub is_claim_of : Plan → Past → List ℕ → List ℕ → Claim → Bool
is_claim_of s past r k c = is_key r k c && is_holding s past c

-- whose claim it is
abbrev pub claimer : Claim → ℕ
claimer c = c.number

-- the lesser of a number and another, if there is one
abbrev pub or_least : ℕ → Option ℕ → Option ℕ
or_least x None = Some x
or_least x (Some y) = Some (min x y)

-- the least number
abbrev pub least : List ℕ → Option ℕ
least [] = None
least (x ∷ xs) = or_least x (least xs)

-- the holders of a key, in the order of their claims: several where claims weren't eager
abbrev pub holders : Plan → Past → List ℕ → List ℕ → List ℕ
holders s past r k = map claimer (filter (is_claim_of s past r k) (claims s past))

-- the least holder of a key, whom an answer names
unfoldable pub holder_of : Plan → Past → List ℕ → List ℕ → Option ℕ
holder_of s past r k = least (holders s past r k)

-- the message of a group before one more arrival, or none
abbrev pub message_so_far : Plan → Option Group → Option Message
message_so_far s (Some g) = folded_of s g
message_so_far s None = None

-- what the strategy says of an arrival
abbrev pub added_at : Plan → Past → ℕ → List ℕ → Message → Added
added_at s past a key m = (s.group a).add (message_so_far s (find (is_for a key) (groups s past))) m

-- does the strategy fault
abbrev pub is_fault : Added → Bool
is_fault (Faults f) = true
is_fault (Gives m) = false

-- the group of an arrival, with it
abbrev pub group_at : Plan → Past → Asked → ℕ → List ℕ → Message → Group
group_at s past k a key m = arrived 1 (groups s past) a key (arrival_of past k m)

-- the number of the next birth
abbrev pub next : Plan → Past → ℕ
next s past = length (births s past) + 1

-- what an answer must say
abbrev pub Content : Plan → Past → Asked → Request → Reply → Type 0
Content s past k (Offer q discard m) (reply.Queued n) = (n ≡ next s past) × (length (waiting s past q) < (s.queue q).size)
Content s past k (Offer q discard m) (reply.Full l) = (l ≡ length (waiting s past q)) × ((s.queue q).size ≤ l)
Content s past k (Offer q discard m) reply.Dropped = (s.queue q).size ≤ length (waiting s past q)
Content s past k (Spawn seeds) (reply.Born first count) = first ≡ next s past
Content s past k (Join first count) (reply.Joined parts) = joined s past first count ≡ Some parts
Content s past k (Arrive a key m) (reply.Arrived n) =
    (is_fault (added_at s past a key m) ≡ false) × ((group_at s past k a key m).number ≡ n) × (cause_at s (group_at s past k a key m) (arrival_of past k m) ≡ None)
Content s past k (Arrive a key m) (reply.Closed g c n) =
    (is_fault (added_at s past a key m) ≡ false) × ((group_at s past k a key m).number
    ≡ g) × (cause_at s (group_at s past k a key m) (arrival_of past k m) ≡ Some c) × (n ≡ next s past)
Content s past k (Arrive a key m) (reply.Unfit f) = added_at s past a key m ≡ Faults f
Content s past k (Idem r key eager remove) reply.Fresh = holder_of s past r key ≡ None
Content s past k (Idem r key eager remove) (reply.Duplicate h) = holder_of s past r key ≡ Some h
Content s past k (Wait t) (reply.Slept d) = d ≡ min (clock past + t) 18446744073709551615
Content s past k _ _ = Unit {0}

-- turns and hands leave room for one more
abbrev pub IsBelow : Plan → ℕ → Past → Type 0
IsBelow s limit past = turns past + hands s past < limit

-- who may answer: outside the holder, inner a Ready exchange below the limit
abbrev pub MayAct : Plan → ℕ → Past → ℕ → ℕ → Bool → Type 0
MayAct s limit past w x true = place s past x ≡ Some (place_is.InHand w)
MayAct s limit past w x false = (place s past x ≡ Some place_is.Ready) × IsBelow s limit past

-- the exchange asks a request, the answer fits it and says what it must, and the worker may give it
pub record MayAnswer (s : Plan) (limit : ℕ) (past : Past) (w x : ℕ) (a : Reply) : Type 0 where
  pub asks : Asked
  pub asked_is : asked s past x ≡ Some asks
  pub fitting : fits asks.request a ≡ true
  pub act : MayAct s limit past w x (is_outside asks.request)
  pub content : Content s past asks asks.request a

-- is the request one of the outside
abbrev pub outside_asked : Option Asked → Bool
outside_asked (Some k) = is_outside k.request
outside_asked None = false

-- the sources that may still give something
unfoldable pub unfinished : Plan → Past → List ℕ
unfinished s past = numbers_below (λ t. s.is_source t && not (is_done (source_state t past))) s.routes

-- the queues that may start somebody
unfoldable pub startable : Plan → Past → List ℕ
startable s past = numbers_below (λ q. s.is_queue q && is_startable s past q) s.routes

-- nobody may act: no exchange Ready, no hand out, no queue startable, every source finished
pub record IsQuiet (s : Plan) (past : Past) : Type 0 where
  pub none_ready : ready_numbers s past ≡ []
  pub no_hand : hands s past ≡ 0
  pub none_startable : startable s past ≡ []
  pub sources_done : unfinished s past ≡ []

-- the moment until which it sleeps
abbrev pub retry_due : Place → Option ℕ
retry_due (place_is.Retry d) = Some d
retry_due _ = None

-- the moments at which somebody is due
unfoldable pub dues : Plan → Past → List ℕ
dues s past = filter_map (λ (b : Birth). retry_due (place_of s past b)) (births s past) ++ filter_map (due_of s) (groups s past)

-- the first of a list
abbrev pub first : List ℕ → Option ℕ
first [] = None
first (x ∷ xs) = Some x

-- does some group pass the test
abbrev pub any_group : (Group → Bool) → List Group → Bool
any_group p [] = false
any_group p (g ∷ gs) = p g || any_group p gs

-- a route of the set that reads from a source
abbrev pub IsSource : Plan → ℕ → Type 0
IsSource s t = (t < s.routes) × (s.is_source t ≡ true)

-- the rule of an entry of worker w behind a past
abbrev pub May : Plan → ℕ → Past → ℕ → Kind → Type 0
May s limit past w (Pull t) = (IsSource s t) × (source_state t past ≡ Idle) × IsBelow s limit past
May s limit past w (Accept t item m) = (IsSource s t) × (source_state t past ≡ Out w) × (m.properties ≡ [])
May s limit past w (Refuse t item cause) = (IsSource s t) × (source_state t past ≡ Out w)
May s limit past w (SourceEnd t) = (IsSource s t) × (source_state t past ≡ Out w)
May s limit past w (SourceFault t) = (IsSource s t) × (source_state t past ≡ Out w)
May s limit past w (Start q x) = (first (waiting s past q) ≡ Some x) × (busy s past q < (s.queue q).consumers) × IsBelow s limit past
May s limit past w (Take x) = (place s past x ≡ Some place_is.Ready) × (outside_asked (asked s past x) ≡ true) × IsBelow s limit past
May s limit past w (Answer x a) = MayAnswer s limit past w x a
May s limit past w (Tick t) = IsQuiet s past × IsBelow s limit past × (least (dues s past) ≡ Some t)
May s limit past w Force = IsQuiet s past × IsBelow s limit past × (least (dues s past) ≡ None) × (any_group (is_forced s) (groups s past) ≡ true)
May s limit past w (Starve x) = (place s past x ≡ Some place_is.Ready) ⊎ (place s past x ≡ Some (place_is.InHand w))
May s limit past w (Return x) = ⊥

-- each entry is of one of the workers, and meets its rule on the prefix before it
unfoldable pub KeepsRules : Plan → ℕ → ℕ → Past → Type 0
KeepsRules s workers limit [] = Unit {0}
KeepsRules s workers limit (e ∷ past) = KeepsRules s workers limit past × (e.worker ≤ workers) × May s limit past e.worker e.kind

-- a legal journal: at most 16 workers beside worker 0, a limit of 1 to 1,000,000 turns, and entries that keep their rules
pub record IsLegal (s : Plan) (workers limit : ℕ) (past : Past) : Type 0 where
  pub few_workers : workers ≤ 16
  pub some_turns : 1 ≤ limit
  pub few_turns : limit ≤ 1000000
  pub entries : KeepsRules s workers limit past
