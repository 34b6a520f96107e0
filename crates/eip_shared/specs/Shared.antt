-- What contracts see of a run that workers share: what was done since it began to be shared, by whom, and what was before.
use Rattle.std.specs.Prelude.{ℕ, ◌≡◌, ◌≤◌, ◌-◌, true, List, [], ◌++◌, Some, length, take, drop}
use Rattle.eip_exchange.specs.declared.birth.Origin.{Origin}
use Rattle.eip_frames.specs.Fits.{fits}
use Rattle.eip_frames.specs.declared.request.Request.{Request}
use Rattle.eip_route.specs.declared.route.RouteSet.{RouteSet}
use Rattle.eip_ledger.specs.declared.entry.Kind.{Kind}
use Rattle.eip_ledger.specs.declared.entry.Kind.TheVariants.{Accept, Refuse, SourceEnd, SourceFault, Starve, Answer}
use Rattle.eip_ledger.specs.declared.place.Place.TheVariants.{InHand}
use Rattle.eip_history.specs.Births.{Asked, asked}
use Rattle.eip_history.specs.Own.{Past, Out, source_state}
use Rattle.eip_history.specs.Owner.{Outlets, owner, outlet_for, IsOwner}
use Rattle.eip_history.specs.Place.{place}
use Rattle.eip_history.specs.Plan.{Plan}
use Rattle.eip_history.specs.Rules.{IsSource}
use Rattle.eip_hub.specs.View.{BooksView, plan, IsSameRun}
use Rattle.eip_plan.specs.Plan.{plan_of}
use Rattle.eip_outlets.specs.Outlets.{outlets}
use Rattle.eip_owners.specs.Owners.{entries_of, answers_of, answered, IsOwnedBehind}
use Rattle.eip_turnstile.specs.Rule.{entries_by}
use Rattle.eip_shared.specs.Deeds.{deeds, done_by, own_entries, own_answers, silent}
use Rattle.eip_shared.specs.declared.beginning.Beginning.{Beginning}
use Rattle.eip_shared.specs.declared.deed.Deed.{Deed}
use Rattle.eip_shared.specs.declared.outcome.Outcome.{Outcome}
use Rattle.eip_shared.specs.declared.outcome.Outcome.TheVariants.{Settled, GivenUp, Accepted, Refused, Ended, Faulted}

-- the run, and how many entries it had when it began to be shared
pub record SharedView : Type 0 where
  pub hub : BooksView
  pub began : ℕ

-- the entries before it was shared, and those since
abbrev pub before : SharedView → Past
before v = drop (length v.hub.journal.past - v.began) v.hub.journal.past

abbrev pub since : SharedView → Past
since v = take (length v.hub.journal.past - v.began) v.hub.journal.past

-- what was done since, the oldest first, each with who did it
abbrev pub log : SharedView → List (ℕ × Deed)
log v = deeds (plan v.hub) (before v) (since v)

-- what there is of a run that begins to be shared
abbrev pub beginning_of : BooksView → Beginning
beginning_of v = record { set = v.set; workers = v.journal.workers; turns = v.journal.turns; past = v.journal.past }

-- what no turn changes
abbrev pub beginning : SharedView → Beginning
beginning v = record { set = v.hub.set; workers = v.hub.journal.workers; turns = v.hub.journal.turns; past = before v }

-- what is true of every run that is shared: each entry since on a lane or an inlet is its owner's
pub record FactsAt (set : RouteSet) (workers : ℕ) (past : Past) (began : ℕ) : Type 0 where
  pub within : began ≤ length past
  pub owned : IsOwnedBehind (plan_of set) (outlets set) workers (drop (length past - began) past) (take (length past - began) past)

abbrev pub SharedFacts : SharedView → Type 0
SharedFacts v = FactsAt v.hub.set v.hub.journal.workers v.hub.journal.past v.began

-- the part of worker w in what was done since is what its deeds say
pub record Part (v : SharedView) (w : ℕ) : Type 0 where
  pub entries : entries_of w (since v) ≡ own_entries w (entries_by w (log v))
  pub answers : answers_of w (answered (plan v.hub) (before v) (since v)) ≡ own_answers w (entries_by w (log v))

-- worker w did exactly this
pub record Makes (old new : SharedView) (w : ℕ) (ds : List Deed) : Type 0 where
  pub log : log new ≡ log old ++ done_by w ds
  pub beginning : beginning new ≡ beginning old

-- worker w did exactly this to a run, and used its own lanes and inlets alone
pub record Does (old new : BooksView) (w : ℕ) (ds : List Deed) : Type 0 where
  pub same : IsSameRun old new
  pub behind : Past
  pub past : new.journal.past ≡ behind ++ old.journal.past
  pub done : deeds (plan old) old.journal.past behind ≡ done_by w ds
  pub owned : IsOwnedBehind (plan old) (outlets old.set) old.journal.workers old.journal.past behind

-- ---- what a worker has in hand

-- an exchange that came from there is in the hand of worker w and asks this, on a lane or an inlet of the worker, if it is on one
pub record IsHeld (s : Plan) (o : Outlets) (workers : ℕ) (past : Past) (w x : ℕ) (from : Origin) (q : Request) : Type 0 where
  pub there : place s past x ≡ Some (InHand w)
  pub asker : Asked
  pub asks : asked s past x ≡ Some asker
  pub origin : asker.birth.origin ≡ from
  pub request : asker.request ≡ q
  pub own : IsOwner workers w (outlet_for o asker.birth asker.request)

-- worker w pulls a source by its own inlet
pub record IsPulled (s : Plan) (o : Outlets) (workers : ℕ) (past : Past) (w t : ℕ) : Type 0 where
  pub source : IsSource s t
  pub out : source_state t past ≡ Out w
  pub own : w ≡ owner workers (o.inlet t)

-- the entry that an outcome becomes
abbrev pub kind_of : Outcome → Kind
kind_of (Settled t a) = Answer t.number a
kind_of (GivenUp t) = Starve t.number
kind_of (Accepted s item m) = Accept s item m
kind_of (Refused s item cause) = Refuse s item cause
kind_of (Ended s) = SourceEnd s
kind_of (Faulted s) = SourceFault s

-- the deed that it becomes, by where the exchange in hand came from
abbrev pub deed_of : Origin → Outcome → Deed
deed_of from (Settled t a) = record { kind = Answer t.number a; given = Some (record { origin = from; request = t.request; answer = a }) }
deed_of from o = silent (kind_of o)

-- which outcomes worker w may enter: those of what it has in hand, and of its pulls
abbrev pub MayEnterAt : Plan → Outlets → ℕ → Past → ℕ → Origin → Outcome → Type 0
MayEnterAt s o workers past w from (Settled t a) = IsHeld s o workers past w t.number from t.request × (t.worker ≡ w) × (fits t.request a ≡ true)
MayEnterAt s o workers past w from (GivenUp t) = (place s past t.number ≡ Some (InHand w)) × (t.worker ≡ w)
MayEnterAt s o workers past w from (Accepted t item m) = IsPulled s o workers past w t × (m.properties ≡ [])
MayEnterAt s o workers past w from (Refused t item cause) = IsPulled s o workers past w t
MayEnterAt s o workers past w from (Ended t) = IsPulled s o workers past w t
MayEnterAt s o workers past w from (Faulted t) = IsPulled s o workers past w t

-- the same behind the journal so far
abbrev pub MayEnter : SharedView → ℕ → Origin → Outcome → Type 0
MayEnter v w from o = MayEnterAt (plan v.hub) (outlets v.hub.set) v.hub.journal.workers v.hub.journal.past w from o
