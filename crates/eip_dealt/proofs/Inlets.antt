-- Inlets that are gathered from those that were dealt out.
use Rattle.std.proofs.Common.{◌≡◌, ℕ, ◌+◌, ◌<◌, ◌%◌, true, false, List, [], ◌∷◌, ◌++◌, map, Option, Some, None, refl, sym, ap, subst, ◌∙◌}
use Rattle.std.specs.Prelude.{All, slice_get}
use Rattle.std.proofs.lemmas.List.Elements.{All-head, All-tail}
use Rattle.eip_exchange.specs.declared.birth.Origin.{Origin}
use Rattle.eip_exchange.specs.declared.birth.Origin.TheVariants as from
use Rattle.eip_uri.specs.Inlets.{inlet_of}
use Rattle.eip_route.specs.declared.route.Route.{Route}
use Rattle.eip_route.specs.declared.route.RouteSet.{RouteSet}
use Rattle.eip_frames.specs.declared.answer.Answer.{Answer as Reply}
use Rattle.eip_frames.specs.declared.request.Request.{Request}
use Rattle.eip_frames.specs.declared.request.Request.TheVariants.{Finish}
use Rattle.eip_ledger.specs.declared.entry.Entry.{Entry}
use Rattle.eip_ledger.specs.declared.entry.Kind.{Kind}
use Rattle.eip_ledger.specs.declared.entry.Kind.TheVariants.{Pull, Accept, Refuse, SourceEnd, SourceFault}
use Rattle.eip_endpoint.specs.Inlets.{Act, InletAct, InletView, InletGrew, InletsGrew, inlet_names}
use Rattle.eip_endpoint.specs.Lanes.{LaneView}
use Rattle.eip_endpoint.specs.Outside.{Answered, Doors, acts_of, commits, commits_in, commits_for, told_by}
use Rattle.eip_history.specs.Own.{Past}
use Rattle.eip_history.specs.Owner.{owner}
use Rattle.eip_history.specs.Plan.{Plan}
use Rattle.eip_outlets.specs.Doors.{inlet_at}
use Rattle.eip_outlets.specs.Outlets.{outlets}
use Rattle.eip_owners.specs.Acts.{pulls, pulls_in, inlet_acts}
use Rattle.eip_owners.specs.Owners.{entries_of, answers_of, acts_by_worker, answered, is_door, is_read_by, tells, IsReadBy, IsToldBy, InletsGrewByOwners}
use Rattle.eip_owners.proofs.Acts.{acts_on, acts_on-append, acts-alike, InletGrew-same}
use Rattle.eip_owners.proofs.Owned.{inlets-grew, commits-owned, reads-owned}
use Rattle.eip_shares.specs.Shares.{share, indexed, GoWith}
use Rattle.eip_shares.proofs.Dealt.{share-map}
use Rattle.eip_shares.proofs.Woven.{weave}
use Rattle.eip_dealt.specs.Dealt.{AreOwners, doors_over}
use Rattle.eip_dealt.proofs.Owning.{leads-to}
use Rattle.eip_dealt.proofs.Parts.{mine}
use Rattle.eip_dealt.proofs.Places.{PairsFrom, pairs-all, pairs-any, pairs-both, door-pairs, share-goes}

-- ---- one inlet under two indices

door-acts : (d own : Doors) (e i t : ℕ) (acts : List Act) → own.uri t ≡ d.uri t → is_door e (d.inlet t) ≡ is_door i (own.inlet t)
    → acts_on e (acts_of d t acts) ≡ acts_on i (acts_of own t acts)
door-acts d own e i t acts uri h = rw uri (acts-alike e i (d.inlet t) (own.inlet t) (d.uri t) acts h)

-- the inlet with index e among all is the one with index i among one's own, for this entry
abbrev IsOneAt : Doors → Doors → Entry → ℕ → ℕ → Type 0
IsOneAt d own a e i = is_read_by d e a.kind ≡ is_read_by own i a.kind

-- for this answer
abbrev IsOneFor : Doors → Doors → Answered → ℕ → ℕ → Type 0
IsOneFor d own v e i = tells d e v.origin v.request ≡ tells own i v.origin v.request

kind-acts : (d own : Doors) (e i : ℕ) (a : Kind) → ((t : ℕ) → own.uri t ≡ d.uri t) → is_read_by d e a ≡ is_read_by own i a
    → acts_on e (pulls_in d a) ≡ acts_on i (pulls_in own a)
kind-acts d own e i (Accept t item m) uri h = door-acts d own e i t _ (uri t) h
kind-acts d own e i (Refuse t item c) uri h = door-acts d own e i t _ (uri t) h
kind-acts d own e i (SourceEnd t) uri h = door-acts d own e i t _ (uri t) h
kind-acts d own e i (SourceFault t) uri h = door-acts d own e i t _ (uri t) h
kind-acts d own e i _ uri h = refl

request-acts : (d own : Doors) (e i : ℕ) (r : Origin) (q : Request) (a : Reply) → ((t : ℕ) → own.uri t ≡ d.uri t) → tells d e r q ≡ tells own i r q
    → acts_on e (commits_for d r q a) ≡ acts_on i (commits_for own r q a)
request-acts d own e i (from.Source t item) (Finish x m true) a uri h = door-acts d own e i t (told_by item x a) (uri t) h
request-acts d own e i _ _ a uri h = refl

pulls-alike : (d own : Doors) (e i : ℕ) (es : Past) → ((t : ℕ) → own.uri t ≡ d.uri t) → All (λ a. IsOneAt d own a e i) es
    → acts_on e (pulls d es) ≡ acts_on i (pulls own es)
unfolding pulls
pulls-alike d own e i [] uri all = refl
pulls-alike d own e i (a ∷ es) uri all =
    let here = kind-acts d own e i a.kind uri (All-head (λ b. IsOneAt d own b e i) a es all) in
    let rest = pulls-alike d own e i es uri (All-tail (λ b. IsOneAt d own b e i) a es all) in
    acts_on-append e (pulls d es) (pulls_in d a.kind)
    ∙ (ap (λ xs. xs ++ acts_on e (pulls_in d a.kind)) rest
    ∙ (ap (λ xs. acts_on i (pulls own es) ++ xs) here ∙ sym (acts_on-append i (pulls own es) (pulls_in own a.kind))))

commits-alike : (d own : Doors) (e i : ℕ) (vs : List Answered) → ((t : ℕ) → own.uri t ≡ d.uri t) → All (λ v. IsOneFor d own v e i) vs
    → acts_on e (commits d vs) ≡ acts_on i (commits own vs)
commits-alike d own e i [] uri all = refl
commits-alike d own e i (v ∷ vs) uri all =
    let here = request-acts d own e i v.origin v.request v.answer uri (All-head (λ w. IsOneFor d own w e i) v vs all) in
    let rest = commits-alike d own e i vs uri (All-tail (λ w. IsOneFor d own w e i) v vs all) in
    acts_on-append e (commits_in d v) (commits d vs)
    ∙ (ap (λ xs. xs ++ acts_on e (commits d vs)) here
    ∙ (ap (λ xs. acts_on i (commits_in own v) ++ xs) rest ∙ sym (acts_on-append i (commits_in own v) (commits own vs))))

-- what an inlet did by entries and answers, under either index
acts-one : (d own : Doors) (e i : ℕ) (es : Past) (vs : List Answered) → ((t : ℕ) → own.uri t ≡ d.uri t) → All (λ a. IsOneAt d own a e i) es
    → All (λ v. IsOneFor d own v e i) vs → acts_on e (inlet_acts d es vs) ≡ acts_on i (inlet_acts own es vs)
acts-one d own e i es vs uri reads told =
    acts_on-append e (pulls d es) (commits d vs)
    ∙ (ap (λ xs. xs ++ acts_on e (commits d vs)) (pulls-alike d own e i es uri reads)
    ∙ (ap (λ xs. acts_on i (pulls own es) ++ xs) (commits-alike d own e i vs uri told) ∙ sym (acts_on-append i (pulls own es) (commits own vs))))

-- the inlet of a source is the first among these of the name that it asks for, if it asks for any
abbrev FindsInlet : RouteSet → Doors → List InletView → Type 0
FindsInlet set d views = (t : ℕ) → d.inlet t ≡ inlet_at (inlet_names views) (slice_get set.routes t)

-- what is done on inlets of a share is done on the same inlet among all and in the share
module _ (set : RouteSet) (d own : Doors) (n k : ℕ) (old : List InletView) (finds : FindsInlet set d old) (found : FindsInlet set own (share n k 0 old)) where
  route-pairs : (r : Option Route) (o p : Option ℕ) → o ≡ inlet_at (inlet_names old) r → p ≡ inlet_at (inlet_names (share n k 0 old)) r
      → ((e : ℕ) → is_door e o ≡ true → e % n ≡ k) → PairsFrom (λ a b. is_door a o ≡ is_door b p) n k 0 0 old
  route-pairs None o p at_o at_p on = door-pairs (λ (v : InletView). v.name) n k old None o p at_o at_p on
  route-pairs (Some r) o p at_o at_p on = door-pairs (λ (v : InletView). v.name) n k old (inlet_of r.from) o p at_o at_p on

  source-pairs : (t : ℕ) → ((e : ℕ) → is_door e (d.inlet t) ≡ true → e % n ≡ k)
      → PairsFrom (λ a b. is_door a (d.inlet t) ≡ is_door b (own.inlet t)) n k 0 0 old
  source-pairs t on = route-pairs (slice_get set.routes t) (d.inlet t) (own.inlet t) (finds t) (found t) on

  kind-pairs : (a : Kind) → ((e : ℕ) → is_read_by d e a ≡ true → e % n ≡ k)
      → PairsFrom (λ e i. is_read_by d e a ≡ is_read_by own i a) n k 0 0 old
  kind-pairs (Pull t) on = source-pairs t on
  kind-pairs (Accept t item m) on = source-pairs t on
  kind-pairs (Refuse t item c) on = source-pairs t on
  kind-pairs (SourceEnd t) on = source-pairs t on
  kind-pairs (SourceFault t) on = source-pairs t on
  kind-pairs _ on = pairs-any (λ a b. false ≡ false) n k 0 0 old (λ a b l m. refl)

  request-pairs : (r : Origin) (q : Request) → ((e : ℕ) → tells d e r q ≡ true → e % n ≡ k)
      → PairsFrom (λ e i. tells d e r q ≡ tells own i r q) n k 0 0 old
  request-pairs (from.Source t item) (Finish x m true) on = source-pairs t on
  request-pairs _ _ on = pairs-any (λ a b. false ≡ false) n k 0 0 old (λ a b l m. refl)

-- ---- inlets of a share, and of all

-- an inlet did what the entries and answers of its owner say
abbrev DidOwners : {L : Type 0} → (L → InletView) → Doors → ℕ → Past → List Answered → ℕ → InletView → L → Type 0
DidOwners f d n behind vs e v w = InletGrew e (acts_by_worker d (owner n e) behind vs) v (f w)

go-inlets : {L : Type 0} (f : L → InletView) (js : List InletAct) (i : ℕ) (old : List InletView) (new : List L) → InletsGrew i js old (map f new)
    → GoWith (λ k v w. InletGrew k js v (f w)) (indexed i old) new
go-inlets f js i [] [] grew = tt
go-inlets f js i (v ∷ old) (w ∷ new) grew = (grew.0, go-inlets f js (i + 1) old new grew.1)
go-inlets f js i [] (w ∷ new) grew = absurd grew
go-inlets f js i (v ∷ old) [] grew = absurd grew

grew-by-owners : {L : Type 0} (f : L → InletView) (d : Doors) (n e : ℕ) (behind : Past) (vs : List Answered) (old : List InletView) (new : List L)
    → GoWith (DidOwners f d n behind vs) (indexed e old) new → InletsGrewByOwners d n behind vs e old (map f new)
grew-by-owners f d n e behind vs [] [] go = tt
grew-by-owners f d n e behind vs [] (w ∷ ws) go = absurd go
grew-by-owners f d n e behind vs (v ∷ views) [] go = absurd go
grew-by-owners f d n e behind vs (v ∷ views) (w ∷ ws) go = (go.0, grew-by-owners f d n (e + 1) behind vs views ws go.1)

-- the inlets that one worker found in its share
own-inlets : {L : Type 0} (f : L → InletView) (set : RouteSet) (d own : Doors) (n k : ℕ) (behind : Past) (vs : List Answered)
    (old : List InletView) (new : List L) → FindsInlet set d old → FindsInlet set own (share n k 0 old) → ((t : ℕ) → own.uri t ≡ d.uri t)
    → ((e : ℕ) → All (IsReadBy d e (owner n e)) behind) → ((e : ℕ) → All (IsToldBy d e (owner n e)) vs)
    → InletsGrew 0 (acts_by_worker own (k + 1) behind vs) (share n k 0 old) (map f new)
    → GoWith (DidOwners f d n behind vs) (share n k 0 (indexed 0 old)) new
own-inlets {L = L} f set d own n k behind vs old new finds found uri reads told grew =
    share-goes Alike (λ b v w. InletGrew b (acts_by_worker own (k + 1) behind vs) v (f w)) (DidOwners f d n behind vs) n k 0 0 old new step
    (pairs-both (λ a b. All (λ x. IsOneAt d own x a b) (entries_of (k + 1) behind)) (λ a b. All (λ v. IsOneFor d own v a b) (answers_of (k + 1) vs)) n k old
    (pairs-all (IsOneAt d own) (λ x. (e : ℕ) → is_read_by d e x.kind ≡ true → e % n ≡ k) n k old (entries_of (k + 1) behind)
    (λ x on. kind-pairs set d own n k old finds found x.kind on)
    (mine (λ (x : Entry). x.worker) (λ e x. is_read_by d e x.kind) n k behind reads))
    (pairs-all (IsOneFor d own) (λ v. (e : ℕ) → tells d e v.origin v.request ≡ true → e % n ≡ k) n k old (answers_of (k + 1) vs)
    (λ v on. request-pairs set d own n k old finds found v.origin v.request on)
    (mine (λ (v : Answered). v.worker) (λ e v. tells d e v.origin v.request) n k vs told)))
    (go-inlets f (acts_by_worker own (k + 1) behind vs) 0 (share n k 0 old) new grew)
  where
    Alike : ℕ → ℕ → Type 0
    Alike a b = All (λ x. IsOneAt d own x a b) (entries_of (k + 1) behind) × All (λ v. IsOneFor d own v a b) (answers_of (k + 1) vs)

    step : (a b : ℕ) (v : InletView) (w : L) → a % n ≡ k → Alike a b → InletGrew b (acts_by_worker own (k + 1) behind vs) v (f w)
        → DidOwners f d n behind vs a v w
    step a b v w turn alike did =
        subst (λ (j : ℕ). InletGrew a (acts_by_worker d (j + 1) behind vs) v (f w)) (sym turn)
        (InletGrew-same b a _ _ v (f w) (sym (acts-one d own a b (entries_of (k + 1) behind) (answers_of (k + 1) vs) uri alike.0 alike.1)) did)

pub dealt-inlets : {L I : Type 0} (f : L → LaneView) (g : I → InletView) (set : RouteSet) (s : Plan) (n limit : ℕ) (past behind : Past) (lanes : List L)
    (inlets : List I) (lists : ℕ → List I) → AreOwners set s n limit past behind (map f lanes) (map g inlets)
    → ((k : ℕ) → k < n
    → InletsGrew 0 (acts_by_worker (doors_over set f g (share n k 0 lanes) (share n k 0 inlets)) (k + 1) behind (answered s past behind))
    (map g (share n k 0 inlets)) (map g (lists k)))
    → (new : List I) × ((k : ℕ) → k < n → lists k ≡ share n k 0 new)
    × InletsGrew 0 (inlet_acts (doors_over set f g lanes inlets) behind (answered s past behind)) (map g inlets) (map g new)
dealt-inlets f g set s n limit past behind lanes inlets lists are grew =
    let vs = answered s past behind in
    let d = doors_over set f g lanes inlets in
    let leads = leads-to set (map f lanes) (map g inlets) are.lanes_named are.inlets_named in
    let woven = weave (DidOwners g d n behind vs) n 0 (map g inlets) lists are.some
    (λ k h. own-inlets g set d (doors_over set f g (share n k 0 lanes) (share n k 0 inlets)) n k behind vs (map g inlets) (lists k) (λ t. refl)
    (λ t. ap (λ views. inlet_at (inlet_names views) (slice_get set.routes t)) (share-map g n k 0 inlets)) (λ t. refl)
    (λ e. reads-owned s d (outlets set) n limit e past behind leads are.legal are.home are.owned)
    (λ e. commits-owned s d (outlets set) n e past behind leads are.owned)
    (subst (λ views. InletsGrew 0 (acts_by_worker (doors_over set f g (share n k 0 lanes) (share n k 0 inlets)) (k + 1) behind vs) views (map g (lists k)))
    (share-map g n k 0 inlets) (grew k h))) in (
      woven.0,
      woven.1,
      inlets-grew s d (outlets set) n limit past behind (map g inlets) (map g woven.0) leads are.legal are.home are.owned
          (grew-by-owners g d n 0 behind vs (map g inlets) woven.0 woven.2),
    )
