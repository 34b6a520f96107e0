-- Lanes that are gathered from those that were dealt out.
use Rattle.std.proofs.Common.{◌≡◌, ℕ, ◌+◌, ◌<◌, ◌%◌, ◌==◌, Bool, true, false, List, [], ◌∷◌, ◌++◌, map, Option, Some, None, refl, sym, ap, subst, ◌∙◌}
use Rattle.std.specs.Prelude.{All}
use Rattle.std.proofs.lemmas.Bool.{eqb-true, eqb-false}
use Rattle.std.proofs.lemmas.List.Elements.{All-head, All-tail}
use Rattle.eip_route.specs.declared.route.RouteSet.{RouteSet}
use Rattle.eip_frames.specs.Targets.{lane_of}
use Rattle.eip_frames.specs.declared.answer.Answer.{Answer as Reply}
use Rattle.eip_frames.specs.declared.request.Request.{Request}
use Rattle.eip_frames.specs.declared.request.Target.{Target}
use Rattle.eip_frames.specs.declared.request.Request.TheVariants.{Send}
use Rattle.eip_endpoint.specs.declared.endpoint.Call.{Call}
use Rattle.eip_endpoint.specs.Inlets.{InletView}
use Rattle.eip_endpoint.specs.Lanes.{LaneCall, LaneView, LaneGrew, LanesGrew, at_lane, calls_at, first_named, lane_names}
use Rattle.eip_endpoint.specs.Outside.{Answered, Doors, calls, calls_in, calls_for, calls_by, call_by}
use Rattle.eip_endpoint.proofs.LaneLaws.{calls_at-append, calls_at-own, calls_at-other}
use Rattle.eip_history.specs.Own.{Past}
use Rattle.eip_history.specs.Owner.{owner}
use Rattle.eip_history.specs.Plan.{Plan}
use Rattle.eip_outlets.specs.Outlets.{outlets}
use Rattle.eip_owners.specs.Owners.{answers_of, answered, is_door, sends_on, IsSentBy, LanesGrewByOwners}
use Rattle.eip_owners.proofs.Owned.{LaneGrew-same, lanes-grew, sends-owned}
use Rattle.eip_shares.specs.Shares.{share, indexed, GoWith}
use Rattle.eip_shares.proofs.Dealt.{share-map}
use Rattle.eip_shares.proofs.Woven.{weave}
use Rattle.eip_dealt.specs.Dealt.{AreOwners, doors_over}
use Rattle.eip_dealt.proofs.Owning.{leads-to}
use Rattle.eip_dealt.proofs.Parts.{mine}
use Rattle.eip_dealt.proofs.Places.{PairsFrom, pairs-all, pairs-any, door-pairs, share-goes}

-- ---- one lane under two indices

-- the lane of a target is the first of its name among these
abbrev FindsLane : Doors → List LaneView → Type 0
FindsLane d views = (t : Target) → d.lane t ≡ first_named (lane_of t) (lane_names views)

door-calls : (e i : ℕ) (o r : Option ℕ) (cs : List Call) → is_door e o ≡ is_door i r → calls_at e (calls_by o cs) ≡ calls_at i (calls_by r cs)
door-calls e i None None cs h = refl
door-calls e i (Some a) None cs h = calls_at-other e a cs (eqb-false a e h)
door-calls e i None (Some b) cs h = sym (calls_at-other i b cs (eqb-false b i (sym h)))
door-calls e i (Some a) (Some b) cs h = by_test (a == e) refl
  where
    by_test : (t : Bool) → (a == e) ≡ t → calls_at e (at_lane a cs) ≡ calls_at i (at_lane b cs)
    by_test true g =
        let there : a ≡ e = eqb-true a e g in
        let here : b ≡ i = eqb-true b i (sym h ∙ g) in
        ap (λ j. calls_at e (at_lane j cs)) there ∙ (calls_at-own e cs ∙ (sym (calls_at-own i cs) ∙ ap (λ j. calls_at i (at_lane j cs)) (sym here)))
    by_test false g = calls_at-other e a cs (eqb-false a e g) ∙ sym (calls_at-other i b cs (eqb-false b i (sym h ∙ g)))

request-calls : (d own : Doors) (e i : ℕ) (q : Request) (a : Reply) → sends_on d e q ≡ sends_on own i q → calls_at e (calls_for d q a) ≡ calls_at i (calls_for own q a)
request-calls d own e i (Send t m) a h = door-calls e i (d.lane t) (own.lane t) (call_by t m a) h
request-calls d own e i _ a h = refl

-- the lane with index e among all is the one with index i among one's own, for this answer
abbrev AreOne : Doors → Doors → Answered → ℕ → ℕ → Type 0
AreOne d own v e i = sends_on d e v.request ≡ sends_on own i v.request

one-lane : (d own : Doors) (e i : ℕ) (vs : List Answered) → All (λ v. AreOne d own v e i) vs → calls_at e (calls d vs) ≡ calls_at i (calls own vs)
one-lane d own e i [] all = refl
one-lane d own e i (v ∷ vs) all =
    let here = request-calls d own e i v.request v.answer (All-head (λ w. AreOne d own w e i) v vs all) in
    let rest = one-lane d own e i vs (All-tail (λ w. AreOne d own w e i) v vs all) in
    calls_at-append e (calls_in d v) (calls d vs)
    ∙ (ap (λ xs. xs ++ calls_at e (calls d vs)) here
    ∙ (ap (λ xs. calls_at i (calls_in own v) ++ xs) rest ∙ sym (calls_at-append i (calls_in own v) (calls own vs))))

-- a Send on lanes of a share is on the same lane among all and in the share
agree : (d own : Doors) (n k : ℕ) (old : List LaneView) (q : Request) → FindsLane d old → FindsLane own (share n k 0 old)
    → ((e : ℕ) → sends_on d e q ≡ true → e % n ≡ k) → PairsFrom (λ a b. sends_on d a q ≡ sends_on own b q) n k 0 0 old
agree d own n k old (Send t m) finds found on =
    door-pairs (λ (v : LaneView). v.name) n k old (Some (lane_of t)) (d.lane t) (own.lane t) (finds t) (found t) on
agree d own n k old _ finds found on = pairs-any (λ a b. false ≡ false) n k 0 0 old (λ a b l m. refl)

-- ---- lanes of a share, and of all

-- a lane has had the calls of the part of its owner
abbrev HasHadOwners : {L : Type 0} → (L → LaneView) → Doors → ℕ → List Answered → ℕ → LaneView → L → Type 0
HasHadOwners f d n vs e v w = LaneGrew e (calls d (answers_of (owner n e) vs)) v (f w)

go-lanes : {L : Type 0} (f : L → LaneView) (js : List LaneCall) (i : ℕ) (old : List LaneView) (new : List L) → LanesGrew i js old (map f new)
    → GoWith (λ k v w. LaneGrew k js v (f w)) (indexed i old) new
go-lanes f js i [] [] grew = tt
go-lanes f js i (v ∷ old) (w ∷ new) grew = (grew.0, go-lanes f js (i + 1) old new grew.1)
go-lanes f js i [] (w ∷ new) grew = absurd grew
go-lanes f js i (v ∷ old) [] grew = absurd grew

grew-by-owners : {L : Type 0} (f : L → LaneView) (d : Doors) (n e : ℕ) (vs : List Answered) (old : List LaneView) (new : List L)
    → GoWith (HasHadOwners f d n vs) (indexed e old) new → LanesGrewByOwners d n vs e old (map f new)
grew-by-owners f d n e vs [] [] go = tt
grew-by-owners f d n e vs [] (w ∷ ws) go = absurd go
grew-by-owners f d n e vs (v ∷ views) [] go = absurd go
grew-by-owners f d n e vs (v ∷ views) (w ∷ ws) go = (go.0, grew-by-owners f d n (e + 1) vs views ws go.1)

-- the lanes that one worker found in its share
own-lanes : {L : Type 0} (f : L → LaneView) (d own : Doors) (n k : ℕ) (vs : List Answered) (old : List LaneView) (new : List L) → FindsLane d old
    → FindsLane own (share n k 0 old) → ((e : ℕ) → All (IsSentBy d e (owner n e)) vs)
    → LanesGrew 0 (calls own (answers_of (k + 1) vs)) (share n k 0 old) (map f new)
    → GoWith (HasHadOwners f d n vs) (share n k 0 (indexed 0 old)) new
own-lanes {L = L} f d own n k vs old new finds found owned grew =
    share-goes (λ a b. All (λ v. AreOne d own v a b) (answers_of (k + 1) vs)) (λ b v w. LaneGrew b (calls own (answers_of (k + 1) vs)) v (f w))
    (HasHadOwners f d n vs) n k 0 0 old new step
    (pairs-all (AreOne d own) (λ v. (e : ℕ) → sends_on d e v.request ≡ true → e % n ≡ k) n k old (answers_of (k + 1) vs)
    (λ v on. agree d own n k old v.request finds found on)
    (mine (λ (v : Answered). v.worker) (λ e v. sends_on d e v.request) n k vs owned))
    (go-lanes f (calls own (answers_of (k + 1) vs)) 0 (share n k 0 old) new grew)
  where
    step : (a b : ℕ) (v : LaneView) (w : L) → a % n ≡ k → All (λ u. AreOne d own u a b) (answers_of (k + 1) vs)
        → LaneGrew b (calls own (answers_of (k + 1) vs)) v (f w) → HasHadOwners f d n vs a v w
    step a b v w turn all has =
        subst (λ (j : ℕ). LaneGrew a (calls d (answers_of (j + 1) vs)) v (f w)) (sym turn)
        (LaneGrew-same b a _ _ v (f w) (sym (one-lane d own a b (answers_of (k + 1) vs) all)) has)

pub dealt-lanes : {L I : Type 0} (f : L → LaneView) (g : I → InletView) (set : RouteSet) (s : Plan) (n limit : ℕ) (past behind : Past) (lanes : List L)
    (inlets : List I) (lists : ℕ → List L) → AreOwners set s n limit past behind (map f lanes) (map g inlets)
    → ((k : ℕ) → k < n → LanesGrew 0 (calls (doors_over set f g (share n k 0 lanes) (share n k 0 inlets)) (answers_of (k + 1) (answered s past behind)))
    (map f (share n k 0 lanes)) (map f (lists k)))
    → (new : List L) × ((k : ℕ) → k < n → lists k ≡ share n k 0 new)
    × LanesGrew 0 (calls (doors_over set f g lanes inlets) (answered s past behind)) (map f lanes) (map f new)
dealt-lanes f g set s n limit past behind lanes inlets lists are grew =
    let vs = answered s past behind in
    let d = doors_over set f g lanes inlets in
    let leads = leads-to set (map f lanes) (map g inlets) are.lanes_named are.inlets_named in
    let woven = weave (HasHadOwners f d n vs) n 0 (map f lanes) lists are.some
    (λ k h. own-lanes f d (doors_over set f g (share n k 0 lanes) (share n k 0 inlets)) n k vs (map f lanes) (lists k) (λ t. refl)
    (λ t. ap (λ views. first_named (lane_of t) (lane_names views)) (share-map f n k 0 lanes))
    (λ e. sends-owned s d (outlets set) n e past behind leads are.owned)
    (subst (λ views. LanesGrew 0 (calls (doors_over set f g (share n k 0 lanes) (share n k 0 inlets)) (answers_of (k + 1) vs)) views (map f (lists k)))
    (share-map f n k 0 lanes) (grew k h))) in (
      woven.0,
      woven.1,
      lanes-grew s d (outlets set) n past behind (map f lanes) (map f woven.0) leads are.owned
          (grew-by-owners f d n 0 vs (map f lanes) woven.0 woven.2),
    )
