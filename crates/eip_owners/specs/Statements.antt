-- What is always true of the parts that workers have in a journal.
use Rattle.std.specs.Prelude.{ℕ, ◌≡◌, List, [], ◌∷◌, ◌++◌, Some, All}
use Rattle.eip_ledger.specs.declared.entry.Entry.{Entry}
use Rattle.eip_ledger.specs.declared.place.Place.TheVariants.{InHand}
use Rattle.eip_endpoint.specs.Inlets.{InletView, InletsGrew, commits_at, faults_at}
use Rattle.eip_endpoint.specs.Lanes.{LaneView, LanesGrew, calls_at}
use Rattle.eip_endpoint.specs.Outside.{Answered, Doors, calls, commits}
use Rattle.eip_history.specs.Births.{asked}
use Rattle.eip_history.specs.Own.{Past, Out, source_state}
use Rattle.eip_history.specs.Owner.{owner, Outlets, IsOwned}
use Rattle.eip_history.specs.Place.{hands, place}
use Rattle.eip_history.specs.Plan.{Plan}
use Rattle.eip_history.specs.Rules.{KeepsRules, served, served_in}
use Rattle.eip_owners.specs.Acts.{seen_answers, inlet_acts}
use Rattle.eip_owners.specs.Owners.{entries_of, answers_of, answered, IsSentBy, IsToldBy, entries_at, LeadsTo, OwnersPull, IsOwnedBehind, LanesGrewByOwners, InletsGrewByOwners}

-- where each answer to a Send on lane k is worker w's, the calls of lane k in that worker's part of the answers are all its calls, in order
abbrev pub CallsInPart : Type 0
CallsInPart = (d : Doors) (k w : ℕ) (vs : List Answered) → All (IsSentBy d k w) vs
    → calls_at k (calls d (answers_of w vs)) ≡ calls_at k (calls d vs)

-- where each answer to a Finish with commit that tells inlet k is worker w's, what inlet k was told in that worker's part of the answers is
-- all that it was told, in order, and so are the failures among it
abbrev pub CommitsInPart : Type 0
CommitsInPart = (d : Doors) (k w : ℕ) (vs : List Answered) → All (IsToldBy d k w) vs
    → ((u : List ℕ) → commits_at k u (commits d (answers_of w vs)) ≡ commits_at k u (commits d vs))
    × (faults_at k (commits d (answers_of w vs)) ≡ faults_at k (commits d vs))

-- the calls of a lane are those in the part of its owner, where each Send is the owner's
abbrev pub OwnedCalls : Type 0
OwnedCalls = (s : Plan) (d : Doors) (o : Outlets) (workers k : ℕ) (past behind : Past) → LeadsTo d o → IsOwnedBehind s o workers past behind
    → calls_at k (calls d (answers_of (owner workers k) (answered s past behind))) ≡ calls_at k (calls d (answered s past behind))

-- what an inlet was told is what it was told in the part of its owner, where each commit is the owner's
abbrev pub OwnedCommits : Type 0
OwnedCommits = (s : Plan) (d : Doors) (o : Outlets) (workers k : ℕ) (past behind : Past) → LeadsTo d o → IsOwnedBehind s o workers past behind
    → ((u : List ℕ) → commits_at k u (commits d (answers_of (owner workers k) (answered s past behind))) ≡ commits_at k u (commits d (answered s past behind)))
    × (faults_at k (commits d (answers_of (owner workers k) (answered s past behind))) ≡ faults_at k (commits d (answered s past behind)))

-- the entries of the sources that an inlet reads, and so the items that it gave, are those in the part of its owner, where each Pull is the
-- owner's, also those that were out before
abbrev pub OwnedSources : Type 0
OwnedSources = (s : Plan) (d : Doors) (o : Outlets) (workers limit k : ℕ) (past behind : Past) → LeadsTo d o → KeepsRules s workers limit (behind ++ past)
    → OwnersPull o workers past → IsOwnedBehind s o workers past behind
    → entries_at d k (entries_of (owner workers k) behind) ≡ entries_at d k behind

-- behind an owned journal each Pull that is out is the owner's, where it was so before
abbrev pub OwnersPullOn : Type 0
OwnersPullOn = (s : Plan) (o : Outlets) (workers : ℕ) (past behind : Past) → OwnersPull o workers past → IsOwnedBehind s o workers past behind
    → OwnersPull o workers (behind ++ past)

-- where no hand is out, each Pull that is out is the owner's
abbrev pub HomeIsOwned : Type 0
HomeIsOwned = (s : Plan) (o : Outlets) (workers made limit : ℕ) (past : Past) → KeepsRules s made limit past → hands s past ≡ 0
    → OwnersPull o workers past

-- lanes that are each behind the calls of its owner's part are behind all the calls of an owned journal
abbrev pub LanesByOwners : Type 0
LanesByOwners = (s : Plan) (d : Doors) (o : Outlets) (workers : ℕ) (past behind : Past) (views ws : List LaneView) → LeadsTo d o
    → IsOwnedBehind s o workers past behind → LanesGrewByOwners d workers (answered s past behind) 0 views ws
    → LanesGrew 0 (calls d (answered s past behind)) views ws

-- inlets that are each behind what its owner's part says are behind all that an owned journal says that inlets did
abbrev pub InletsByOwners : Type 0
InletsByOwners = (s : Plan) (d : Doors) (o : Outlets) (workers limit : ℕ) (past behind : Past) (views ws : List InletView) → LeadsTo d o
    → KeepsRules s workers limit (behind ++ past) → OwnersPull o workers past → IsOwnedBehind s o workers past behind
    → InletsGrewByOwners d workers behind (answered s past behind) 0 views ws
    → InletsGrew 0 (inlet_acts d behind (answered s past behind)) views ws

-- a whole journal is owned where it is so up to a past and behind it
abbrev pub OwnedInParts : Type 0
OwnedInParts = (s : Plan) (o : Outlets) (workers : ℕ) (past behind : Past) → IsOwned s o workers past → IsOwnedBehind s o workers past behind
    → IsOwned s o workers (behind ++ past)

-- a journal is owned behind a past where it is so up to some entry and behind it
abbrev pub OwnedGoesOn : Type 0
OwnedGoesOn = (s : Plan) (o : Outlets) (workers : ℕ) (past behind later : Past) → IsOwnedBehind s o workers past behind
    → IsOwnedBehind s o workers (behind ++ past) later → IsOwnedBehind s o workers past (later ++ behind)

-- the answers of a whole journal are those up to a past and then those behind it
abbrev pub AnswersInParts : Type 0
AnswersInParts = (s : Plan) (past behind : Past)
    → seen_answers (served s (behind ++ past)) ≡ seen_answers (served s past) ++ answered s past behind

-- a worker's part of the journal, its entries and its answers, stays as it is while it makes no entry
abbrev pub PartStays : Type 0
PartStays = (s : Plan) (w : ℕ) (past behind later : Past) → entries_of w later ≡ []
    → (entries_of w (later ++ behind) ≡ entries_of w behind) × (answers_of w (answered s past (later ++ behind)) ≡ answers_of w (answered s past behind))

-- and an entry of the worker adds itself and the answer that it gives
abbrev pub PartGrows : Type 0
PartGrows = (s : Plan) (past behind : Past) (e : Entry) → (entries_of e.worker (e ∷ behind) ≡ e ∷ entries_of e.worker behind)
    × (answers_of e.worker (answered s past (e ∷ behind))
    ≡ answers_of e.worker (answered s past behind) ++ seen_answers (served_in s (behind ++ past) e.worker e.kind))

-- an exchange stays in the hand of a worker that makes no entry, with the request that it asks
abbrev pub HandStays : Type 0
HandStays = (s : Plan) (workers limit w x : ℕ) (past behind : Past) → KeepsRules s workers limit (behind ++ past) → entries_of w behind ≡ []
    → place s past x ≡ Some (InHand w)
    → (place s (behind ++ past) x ≡ Some (InHand w)) × (asked s (behind ++ past) x ≡ asked s past x)

-- a Pull of a worker that makes no entry stays out
abbrev pub PullStays : Type 0
PullStays = (s : Plan) (workers limit w t : ℕ) (past behind : Past) → KeepsRules s workers limit (behind ++ past) → entries_of w behind ≡ []
    → source_state t past ≡ Out w → source_state t (behind ++ past) ≡ Out w
