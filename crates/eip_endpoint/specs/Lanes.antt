-- What contracts see of lanes, and how calls change it.
use Rattle.std.specs.Prelude.{ℕ, ◌≡◌, ◌+◌, ◌==◌, bytes_eq, cond, List, [], ◌∷◌, Option, map}
use Rattle.std.specs.List.{position_from}
use Rattle.eip_text.specs.Causes.{Rises}
use Rattle.eip_endpoint.specs.declared.endpoint.Call.{Call}
use Rattle.eip_endpoint.specs.declared.endpoint.Endpoint.{Ghosts}
use Rattle.eip_endpoint.specs.declared.lanes.Lane.{Lane}
use Rattle.eip_endpoint.specs.Content.{extended}
use Rattle.eip_endpoint.specs.Calls.{failures}

-- a lane: its name, the calls that its object tells, and its count of faults
pub record LaneView : Type 0 where
  pub name : List ℕ
  pub calls : Option (List Call)
  pub faults : ℕ

-- a lane, by the members of its object
abbrev pub lane_view : {E : Type 0} → Ghosts E → Lane E → LaneView
lane_view m l = record { name = l.name; calls = m.calls l.object; faults = m.lane_faults l.object }

-- lanes, by the members of their objects
abbrev pub lane_views : {E : Type 0} → Ghosts E → List (Lane E) → List LaneView
lane_views m ls = map (lane_view m) ls

-- the names of lanes
abbrev pub lane_names : List LaneView → List (List ℕ)
lane_names vs = map (λ v. v.name) vs

-- a call of the lane with an index, from 0
pub record LaneCall : Type 0 where
  pub lane : ℕ
  pub call : Call

-- the calls of lane k among calls of all lanes
abbrev pub calls_at : ℕ → List LaneCall → List Call
calls_at k [] = []
calls_at k (j ∷ js) = cond (j.lane == k) (j.call ∷ calls_at k js) (calls_at k js)

-- calls, all of lane k
abbrev pub at_lane : ℕ → List Call → List LaneCall
at_lane k [] = []
at_lane k (c ∷ cs) = record { lane = k; call = c } ∷ at_lane k cs

-- lane k behind these calls: its own calls are behind its content, and its count rose by the failures among them
pub record LaneGrew (k : ℕ) (js : List LaneCall) (old new : LaneView) : Type 0 where
  pub name : new.name ≡ old.name
  pub calls : new.calls ≡ extended old.calls (calls_at k js)
  pub faults : Rises (failures (calls_at k js)) old.faults new.faults

-- the lanes from index k on behind these calls
abbrev pub LanesGrew : ℕ → List LaneCall → List LaneView → List LaneView → Type 0
LanesGrew k js [] [] = Unit {0}
LanesGrew k js (v ∷ vs) (w ∷ ws) = LaneGrew k js v w × LanesGrew (k + 1) js vs ws
LanesGrew k js [] (w ∷ ws) = ⊥
LanesGrew k js (v ∷ vs) [] = ⊥

-- the index of the first of these names that is this one
abbrev pub first_named : List ℕ → List (List ℕ) → Option ℕ
first_named n names = position_from (λ m. bytes_eq m n) 0 names
