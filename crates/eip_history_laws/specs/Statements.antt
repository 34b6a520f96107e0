-- What is always true of a journal that keeps the rules, as a legal one does.
use Rattle.std.specs.Prelude.{ℕ, ◌≡◌, ◌≢◌, ◌+◌, ◌<◌, ◌≤◌, ◌⊎◌, Bool, true, false, List, ◌∷◌, Some, None, is_some, length, filter, map}
use Rattle.std.specs.List.{flat_map}
use Rattle.eip_frames.specs.declared.answer.Answer.{Answer as Reply}
use Rattle.eip_frames.specs.declared.answer.Completion.{Completion}
use Rattle.eip_frames.specs.declared.request.Request.TheVariants.{Idem}
use Rattle.eip_frames.specs.Fits.{is_outside}
use Rattle.eip_ledger.specs.declared.entry.Entry.{Entry}
use Rattle.eip_ledger.specs.declared.entry.Kind.{Kind}
use Rattle.eip_ledger.specs.declared.entry.Kind.TheVariants.{Answer}
use Rattle.eip_ledger.specs.declared.place.Place.TheVariants.{Ready}
use Rattle.eip_history.specs.Counts.{completed_count, handled_count, failed_count, waiting_count, total_count}
use Rattle.eip_history.specs.Laws.{PlanLaws}
use Rattle.eip_history.specs.Own.{Past, numbered, turns}
use Rattle.eip_history.specs.Owner.{owner}
use Rattle.eip_history.specs.Groups.{Group, is_open, message_of}
use Rattle.eip_history.specs.Births.{Asked, asked, births, group_birth, groups}
use Rattle.eip_history.specs.Pieces.{Mark, marked, is_of_key}
use Rattle.eip_history.specs.Place.{ended, hands, place}
use Rattle.eip_history.specs.Plan.{Plan}
use Rattle.eip_history.specs.Rules.{KeepsRules, IsBelow, MayAnswer, Claim, claims, is_holding}
use Rattle.eip_history.specs.Keys.{IsKeyAnswer, is_eager_of}
use Rattle.eip_history.specs.Stop.{stop_of}
use Rattle.eip_history.specs.Work.{work}
use Rattle.eip_history.proofs.Waits.{Acts}
use Rattle.eip_history_laws.specs.Folds.{FoldsFrom}

-- where no hand is out and no stop is met, turns are left and somebody may act
abbrev pub SomebodyActs : Type 0
SomebodyActs = (s : Plan) → PlanLaws s → (workers limit : ℕ) (past : Past) → KeepsRules s workers limit past → hands s past ≡ 0 → stop_of s limit past ≡ None
    → IsBelow s limit past × Acts s limit past

-- each request of a Ready exchange that is none of the outside has an answer that may come, where turns are left
abbrev pub InnerAnswered : Type 0
InnerAnswered = (s : Plan) → PlanLaws s → (limit : ℕ) (past : Past) (x : ℕ) (k : Asked) → place s past x ≡ Some Ready → asked s past x ≡ Some k
    → is_outside k.request ≡ false → IsBelow s limit past → (a : Reply) × MayAnswer s limit past 0 x a

-- each entry is a turn, or there is less left to do behind it
abbrev pub TurnOrProgress : Type 0
TurnOrProgress = (s : Plan) → PlanLaws s → (workers limit worker : ℕ) (k : Kind) (past : Past) → KeepsRules s workers limit ((record { worker = worker; kind = k }) ∷ past)
    → (turns ((record { worker = worker; kind = k }) ∷ past) ≡ turns past + 1) ⊎ (work s ((record { worker = worker; kind = k }) ∷ past) < work s past)

-- who has ended has ended behind each further entry
abbrev pub EndsOnce : Type 0
EndsOnce = (s : Plan) (workers limit : ℕ) (e : Entry) (past : Past) (x : ℕ) → KeepsRules s workers limit (e ∷ past) → is_some (ended s past x) ≡ true
    → is_some (ended s (e ∷ past) x) ≡ true

-- no two eager claims hold one key
abbrev pub OneEagerHolder : Type 0
OneEagerHolder = (s : Plan) (workers limit : ℕ) (past : Past) (repository key : List ℕ) → KeepsRules s workers limit past
    → length (filter (is_eager_of s past repository key) (claims s past)) ≤ 1

-- an offered key is answered Fresh where nobody holds it, else Duplicate of its least holder
abbrev pub KeysAnswered : Type 0
KeysAnswered = (s : Plan) (workers limit worker x : ℕ) (a : Reply) (past : Past) (k : Asked) (repository key : List ℕ) (eager remove : Bool)
    → KeepsRules s workers limit ((record { worker = worker; kind = Answer x a }) ∷ past) → asked s past x ≡ Some k
    → k.request ≡ Idem repository key eager remove → IsKeyAnswer s past repository key a

-- whether a claim of who has ended holds its key, no further entry changes
abbrev pub HeldForEver : Type 0
HeldForEver = (s : Plan) (workers limit : ℕ) (e : Entry) (past : Past) (c : Claim) → KeepsRules s workers limit (e ∷ past)
    → is_some (ended s past c.number) ≡ true → is_holding s (e ∷ past) c ≡ is_holding s past c

-- the parts of the groups of an aggregator and key, group by group, are its arrivals in the journal's order
abbrev pub EachArrivalOnce : Type 0
EachArrivalOnce = (s : Plan) (aggregator : ℕ) (key : List ℕ) (past : Past)
    → flat_map (λ (g : Group). g.parts) (filter (is_of_key aggregator key) (groups s past)) ≡ map (λ (m : Mark). m.arrival) (marked s aggregator key past)

-- the message of a group, open or closed, is that of its parts, taken in one behind the other by the strategy; at none of them it faulted
abbrev pub GroupsFold : Type 0
GroupsFold = (s : Plan) (workers limit : ℕ) (past : Past) (n : ℕ) (g : Group) → KeepsRules s workers limit past → numbered (groups s past) n ≡ Some g
    → FoldsFrom (s.group g.aggregator) g.key 0 None g.parts (message_of s g)

-- a group has at most as many parts as its size says, and fewer while it is open
abbrev pub GroupsWithin : Type 0
GroupsWithin = (s : Plan) (workers limit : ℕ) (past : Past) (n most : ℕ) (g : Group) → KeepsRules s workers limit past → numbered (groups s past) n ≡ Some g
    → (s.group g.aggregator).size ≡ Some most → 1 ≤ most → (length g.parts ≤ most) × (is_open g ≡ true → length g.parts < most)

-- a closed group has its exchange, with its message and by what closed it
abbrev pub ClosedGroupsRun : Type 0
ClosedGroupsRun = (s : Plan) (past : Past) (n : ℕ) (g : Group) (c : Completion) → numbered (groups s past) n ≡ Some g → g.closed ≡ Some c
    → (x : ℕ) × (numbered (births s past) x ≡ Some (group_birth s x c g))

-- each exchange is counted once
abbrev pub TotalsAddUp : Type 0
TotalsAddUp = (s : Plan) (past : Past) → completed_count s past + handled_count s past + failed_count s past + waiting_count s past ≡ total_count s past

-- the owner of the lane or inlet with an index is one of the workers from 1 on
abbrev pub OwnersAreWorkers : Type 0
OwnersAreWorkers = (workers index : ℕ) → 1 ≤ workers → (1 ≤ owner workers index) × (owner workers index ≤ workers)
