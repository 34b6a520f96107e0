-- The part of a journal that each worker made, and whose entries those on a lane or an inlet are.
use Rattle.std.specs.Prelude.{ℕ, ◌≡◌, ◌+◌, ◌==◌, Bool, true, false, List, [], ◌∷◌, ◌++◌, Option, Some, None, filter}
use Rattle.eip_exchange.specs.declared.birth.Origin.{Origin}
use Rattle.eip_exchange.specs.declared.birth.Origin.TheVariants as from
use Rattle.eip_frames.specs.declared.request.Request.{Request}
use Rattle.eip_frames.specs.declared.request.Request.TheVariants.{Send, Finish}
use Rattle.eip_frames.specs.declared.request.Target.{Target}
use Rattle.eip_ledger.specs.declared.entry.Entry.{Entry}
use Rattle.eip_ledger.specs.declared.entry.Kind.{Kind}
use Rattle.eip_ledger.specs.declared.entry.Kind.TheVariants.{Pull, Accept, Refuse, SourceEnd, SourceFault}
use Rattle.eip_endpoint.specs.Inlets.{InletAct, InletView, InletGrew}
use Rattle.eip_endpoint.specs.Lanes.{LaneView, LaneGrew}
use Rattle.eip_endpoint.specs.Outside.{Answered, Doors, calls}
use Rattle.eip_history.specs.Plan.{Plan}
use Rattle.eip_history.specs.Own.{Past, Out, source_state}
use Rattle.eip_history.specs.Owner.{owner, Outlets, outlet_in, IsOwner}
use Rattle.eip_history.specs.Rules.{served_in}
use Rattle.eip_owners.specs.Acts.{seen_answers, inlet_acts}

-- ---- parts

-- the entries that worker w made
abbrev pub entries_of : ℕ → Past → Past
entries_of w past = filter (λ (e : Entry). e.worker == w) past

-- the answers that worker w gave
abbrev pub answers_of : ℕ → List Answered → List Answered
answers_of w vs = filter (λ (v : Answered). v.worker == w) vs

-- the answers that the entries behind a past give, the oldest first, as lanes and inlets see them
unfoldable pub answered : Plan → Past → Past → List Answered
answered s past [] = []
answered s past (e ∷ behind) = answered s past behind ++ seen_answers (served_in s (behind ++ past) e.worker e.kind)

-- ---- whose a lane or an inlet is

-- is it the lane or inlet with index k
abbrev pub is_door : ℕ → Option ℕ → Bool
is_door k (Some e) = e == k
is_door k None = false

-- is it a Send on lane k
abbrev pub sends_on : Doors → ℕ → Request → Bool
sends_on d k (Send t m) = is_door k (d.lane t)
sends_on d k _ = false

-- is it a Finish with commit, which tells inlet k how an exchange of this origin ended
abbrev pub tells : Doors → ℕ → Origin → Request → Bool
tells d k (from.Source r item) (Finish e m true) = is_door k (d.inlet r)
tells d k _ _ = false

-- an answer to a Send on lane k is worker w's
abbrev pub IsSentBy : Doors → ℕ → ℕ → Answered → Type 0
IsSentBy d k w v = sends_on d k v.request ≡ true → v.worker ≡ w

-- an answer to a Finish with commit that tells inlet k is worker w's
abbrev pub IsToldBy : Doors → ℕ → ℕ → Answered → Type 0
IsToldBy d k w v = tells d k v.origin v.request ≡ true → v.worker ≡ w

-- is it an entry of a source that inlet k reads
abbrev pub is_read_by : Doors → ℕ → Kind → Bool
is_read_by d k (Pull t) = is_door k (d.inlet t)
is_read_by d k (Accept t item m) = is_door k (d.inlet t)
is_read_by d k (Refuse t item cause) = is_door k (d.inlet t)
is_read_by d k (SourceEnd t) = is_door k (d.inlet t)
is_read_by d k (SourceFault t) = is_door k (d.inlet t)
is_read_by d k _ = false

-- an entry of a source that inlet k reads is worker w's
abbrev pub IsReadBy : Doors → ℕ → ℕ → Entry → Type 0
IsReadBy d k w e = is_read_by d k e.kind ≡ true → e.worker ≡ w

-- the entries of the sources that inlet k reads
abbrev pub entries_at : Doors → ℕ → Past → Past
entries_at d k past = filter (λ (e : Entry). is_read_by d k e.kind) past

-- ---- owned journals

-- the outlets have the lanes and inlets of the doors, under the same indices
pub record LeadsTo (d : Doors) (o : Outlets) : Type 0 where
  pub inlet : (t k : ℕ) → d.inlet t ≡ Some k → o.inlet t ≡ k
  pub lane : (t : Target) (k : ℕ) → d.lane t ≡ Some k → o.lane t ≡ k

-- behind a past, each Pull and each answer to a Send or to a Finish with commit is an entry of the owner of that lane or inlet
unfoldable pub IsOwnedBehind : Plan → Outlets → ℕ → Past → Past → Type 0
IsOwnedBehind s o workers past [] = Unit {0}
IsOwnedBehind s o workers past (e ∷ behind) = IsOwnedBehind s o workers past behind × IsOwner workers e.worker (outlet_in s o (behind ++ past) e.kind)

-- each Pull that is out was made by the owner of its source's inlet, as where none is out
abbrev pub OwnersPull : Outlets → ℕ → Past → Type 0
OwnersPull o workers past = (t w : ℕ) → source_state t past ≡ Out w → w ≡ owner workers (o.inlet t)

-- each lane, from index k on, is behind the calls that its owner's part of the answers tells of
abbrev pub LanesGrewByOwners : Doors → ℕ → List Answered → ℕ → List LaneView → List LaneView → Type 0
LanesGrewByOwners d workers vs k [] [] = Unit {0}
LanesGrewByOwners d workers vs k (v ∷ views) (w ∷ ws) =
    LaneGrew k (calls d (answers_of (owner workers k) vs)) v w × LanesGrewByOwners d workers vs (k + 1) views ws
LanesGrewByOwners d workers vs k [] (w ∷ ws) = ⊥
LanesGrewByOwners d workers vs k (v ∷ views) [] = ⊥

-- what inlets did by the entries and the answers that worker w made
abbrev pub acts_by_worker : Doors → ℕ → Past → List Answered → List InletAct
acts_by_worker d w behind vs = inlet_acts d (entries_of w behind) (answers_of w vs)

-- each inlet, from index k on, is behind what its owner's entries and answers say that it did
abbrev pub InletsGrewByOwners : Doors → ℕ → Past → List Answered → ℕ → List InletView → List InletView → Type 0
InletsGrewByOwners d workers behind vs k [] [] = Unit {0}
InletsGrewByOwners d workers behind vs k (v ∷ views) (w ∷ ws) =
    InletGrew k (acts_by_worker d (owner workers k) behind vs) v w × InletsGrewByOwners d workers behind vs (k + 1) views ws
InletsGrewByOwners d workers behind vs k [] (w ∷ ws) = ⊥
InletsGrewByOwners d workers behind vs k (v ∷ views) [] = ⊥
