-- What an owned journal says of the parts of its workers.
use Rattle.std.proofs.Common.{◌≡◌, ℕ, ◌+◌, ◌==◌, Bool, true, false, cond, List, [], ◌∷◌, ◌++◌, Option, Some, None, refl, sym, ap, subst, ◌∙◌, append_assoc}
use Rattle.std.specs.Prelude.{All}
use Rattle.std.proofs.lemmas.Bool.{eqb-true}
use Rattle.std.proofs.lemmas.List.Elements.{All-nil, All-cons, All-append}
use Rattle.eip_exchange.specs.declared.birth.Birth.{Birth}
use Rattle.eip_exchange.specs.declared.birth.Origin.{Origin}
use Rattle.eip_exchange.specs.declared.birth.Origin.TheVariants as from
use Rattle.eip_frames.specs.declared.answer.Answer.{Answer as Reply}
use Rattle.eip_frames.specs.declared.request.Request.{Request}
use Rattle.eip_frames.specs.declared.request.Request.TheVariants.{Send, Finish}
use Rattle.eip_ledger.specs.declared.entry.Kind.{Kind}
use Rattle.eip_ledger.specs.declared.entry.Kind.TheVariants.{Pull, Accept, Refuse, SourceEnd, SourceFault, Answer}
use Rattle.eip_endpoint.specs.Inlets.{InletView, InletsGrew, commits_at, faults_at}
use Rattle.eip_endpoint.specs.Lanes.{LaneView, LaneCall, LaneGrew, LanesGrew, calls_at}
use Rattle.eip_endpoint.specs.Outside.{Answered, Doors, calls, commits}
use Rattle.eip_history.specs.Births.{Asked, asked}
use Rattle.eip_history.specs.Own.{Past, SourceState, Idle, Out, Done, moved, is_out, source_state}
use Rattle.eip_history.specs.Owner.{owner, Outlets, outlet_in, outlet_by, outlet_for, IsOwner, IsOwned}
use Rattle.eip_history.specs.Plan.{Plan}
use Rattle.eip_history.specs.Rules.{KeepsRules, May, served_in, served_by}
use Rattle.eip_history.proofs.Owned.{owned-add}
use Rattle.eip_history.proofs.Unborn.{legal-tail, legal-may}
use Rattle.eip_owners.specs.Acts.{seen_answers, pulls, inlet_acts}
use Rattle.eip_owners.specs.Owners.{entries_of, answers_of, acts_by_worker, answered, is_door, sends_on, tells, IsSentBy, IsToldBy, IsReadBy, is_read_by, entries_at, LeadsTo, OwnersPull, IsOwnedBehind, LanesGrewByOwners, InletsGrewByOwners}
use Rattle.eip_owners.proofs.Acts.{acts_on, acts_on-append, InletGrew-same}
use Rattle.eip_owners.proofs.Parts.{calls-part, commits-part, commits-told, entries-part, pulls-part}

pub owned-whole : (s : Plan) (o : Outlets) (workers : ℕ) (past behind : Past) → IsOwned s o workers past → IsOwnedBehind s o workers past behind
    → IsOwned s o workers (behind ++ past)
unfolding IsOwnedBehind
owned-whole s o workers past [] before owned = before
owned-whole s o workers past (e ∷ behind) before owned =
    owned-add s o workers e (behind ++ past) (owned-whole s o workers past behind before owned.0) owned.1

pub owned-append : (s : Plan) (o : Outlets) (workers : ℕ) (past behind later : Past) → IsOwnedBehind s o workers past behind
    → IsOwnedBehind s o workers (behind ++ past) later → IsOwnedBehind s o workers past (later ++ behind)
unfolding IsOwnedBehind
owned-append s o workers past behind [] before owned = before
owned-append s o workers past behind (e ∷ later) before owned = (
  owned-append s o workers past behind later before owned.0,
  subst (λ (p : Past). IsOwner workers e.worker (outlet_in s o p e.kind)) (sym (append_assoc later behind past)) owned.1,
)

-- ---- answers

-- what is the door with index k
door-is : (k : ℕ) (o : Option ℕ) → is_door k o ≡ true → o ≡ Some k
door-is k None h = absurd (cc h)
door-is k (Some e) h = ap Some (eqb-true e k h)

-- the owner of the outlet is the owner of the door that it leads from
sender : (d : Doors) (o : Outlets) (workers k w : ℕ) (b : Birth) (q : Request) → LeadsTo d o → IsOwner workers w (outlet_for o b q) → sends_on d k q ≡ true
    → w ≡ owner workers k
sender d o workers k w b (Send t m) leads own h = own ∙ ap (owner workers) (leads.lane t k (door-is k (d.lane t) h))
sender d o workers k w b _ leads own h = absurd (cc h)

teller-from : (d : Doors) (o : Outlets) (workers k w : ℕ) (b : Birth) (r : Origin) (q : Request) → b.origin ≡ r → LeadsTo d o
    → IsOwner workers w (outlet_for o b q) → tells d k r q ≡ true → w ≡ owner workers k
teller-from d o workers k w b (from.Source t item) (Finish e m true) same leads own h =
    let at : IsOwner workers w (Some (o.inlet t)) = rw same at own in
    at ∙ ap (owner workers) (leads.inlet t k (door-is k (d.inlet t) h))
teller-from d o workers k w b _ _ same leads own h = absurd (cc h)

-- each of the answers that an entry gives meets a test, where the one to its request does
one-answer : (P : Answered → Type 0) (s : Plan) (past : Past) (w : ℕ) (k : Kind)
    → ((x : ℕ) (a : Reply) (q : Asked) → k ≡ Answer x a → asked s past x ≡ Some q
    → P (record { worker = w; origin = q.birth.origin; request = q.request; answer = a }))
    → All P (seen_answers (served_in s past w k))
one-answer P s past w (Answer x a) each = by_asked (asked s past x) refl
  where
    by_asked : (q : Option Asked) → asked s past x ≡ q → All P (seen_answers (served_by w q a))
    by_asked None t = All-nil P
    by_asked (Some q) t = All-cons P _ [] (each x a q refl t) (All-nil P)
one-answer P s past w _ each = All-nil P

-- the one who gave the answer is the owner of what it was asked on
answerer : (s : Plan) (o : Outlets) (workers w x : ℕ) (past : Past) (k : Kind) (a : Reply) (q : Asked) → k ≡ Answer x a → asked s past x ≡ Some q
    → IsOwner workers w (outlet_in s o past k) → IsOwner workers w (outlet_for o q.birth q.request)
answerer s o workers w x past k a q is at own =
    let by : IsOwner workers w (outlet_by o (asked s past x)) = subst (λ (l : Kind). IsOwner workers w (outlet_in s o past l)) is own in
    subst (λ (r : Option Asked). IsOwner workers w (outlet_by o r)) at by

pub sends-owned : (s : Plan) (d : Doors) (o : Outlets) (workers k : ℕ) (past behind : Past) → LeadsTo d o → IsOwnedBehind s o workers past behind
    → All (IsSentBy d k (owner workers k)) (answered s past behind)
unfolding answered IsOwnedBehind
sends-owned s d o workers k past [] leads owned = All-nil (IsSentBy d k (owner workers k))
sends-owned s d o workers k past (e ∷ behind) leads owned =
    All-append (IsSentBy d k (owner workers k)) (answered s past behind) _ (sends-owned s d o workers k past behind leads owned.0)
    (one-answer (IsSentBy d k (owner workers k)) s (behind ++ past) e.worker e.kind
    (λ x a q is at h. sender d o workers k e.worker q.birth q.request leads (answerer s o workers e.worker x (behind ++ past) e.kind a q is at owned.1) h))

pub commits-owned : (s : Plan) (d : Doors) (o : Outlets) (workers k : ℕ) (past behind : Past) → LeadsTo d o → IsOwnedBehind s o workers past behind
    → All (IsToldBy d k (owner workers k)) (answered s past behind)
unfolding answered IsOwnedBehind
commits-owned s d o workers k past [] leads owned = All-nil (IsToldBy d k (owner workers k))
commits-owned s d o workers k past (e ∷ behind) leads owned =
    All-append (IsToldBy d k (owner workers k)) (answered s past behind) _ (commits-owned s d o workers k past behind leads owned.0)
    (one-answer (IsToldBy d k (owner workers k)) s (behind ++ past) e.worker e.kind
    (λ x a q is at h. teller-from d o workers k e.worker q.birth q.birth.origin q.request refl leads
    (answerer s o workers e.worker x (behind ++ past) e.kind a q is at owned.1) h))

pub owned-calls : (s : Plan) (d : Doors) (o : Outlets) (workers k : ℕ) (past behind : Past) → LeadsTo d o → IsOwnedBehind s o workers past behind
    → calls_at k (calls d (answers_of (owner workers k) (answered s past behind))) ≡ calls_at k (calls d (answered s past behind))
owned-calls s d o workers k past behind leads owned =
    calls-part d k (owner workers k) (answered s past behind) (sends-owned s d o workers k past behind leads owned)

pub owned-commits : (s : Plan) (d : Doors) (o : Outlets) (workers k : ℕ) (past behind : Past) → LeadsTo d o → IsOwnedBehind s o workers past behind
    → ((u : List ℕ) → commits_at k u (commits d (answers_of (owner workers k) (answered s past behind))) ≡ commits_at k u (commits d (answered s past behind)))
    × (faults_at k (commits d (answers_of (owner workers k) (answered s past behind))) ≡ faults_at k (commits d (answered s past behind)))
owned-commits s d o workers k past behind leads owned =
    commits-told d k (owner workers k) (answered s past behind) (commits-owned s d o workers k past behind leads owned)

-- ---- lanes

-- a lane behind calls is behind others among which its own are the same, whatever its index there
pub LaneGrew-same : (k i : ℕ) (js ks : List LaneCall) (v w : LaneView) → calls_at k js ≡ calls_at i ks → LaneGrew k js v w → LaneGrew i ks v w
LaneGrew-same k i js ks v w same grew = record { name = grew.name; calls = rw (← same) grew.calls; faults = rw (← same) grew.faults }

lanes-from : (s : Plan) (d : Doors) (o : Outlets) (workers k : ℕ) (past behind : Past) (views ws : List LaneView) → LeadsTo d o
    → IsOwnedBehind s o workers past behind → LanesGrewByOwners d workers (answered s past behind) k views ws
    → LanesGrew k (calls d (answered s past behind)) views ws
lanes-from s d o workers k past behind [] [] leads owned grew = tt
lanes-from s d o workers k past behind (v ∷ views) (w ∷ ws) leads owned grew = (
  LaneGrew-same k k _ _ v w (owned-calls s d o workers k past behind leads owned) grew.0,
  lanes-from s d o workers (k + 1) past behind views ws leads owned grew.1,
)
lanes-from s d o workers k past behind [] (w ∷ ws) leads owned grew = absurd grew
lanes-from s d o workers k past behind (v ∷ views) [] leads owned grew = absurd grew

pub lanes-grew : (s : Plan) (d : Doors) (o : Outlets) (workers : ℕ) (past behind : Past) (views ws : List LaneView) → LeadsTo d o
    → IsOwnedBehind s o workers past behind → LanesGrewByOwners d workers (answered s past behind) 0 views ws
    → LanesGrew 0 (calls d (answered s past behind)) views ws
lanes-grew s d o workers past behind views ws leads owned grew = lanes-from s d o workers 0 past behind views ws leads owned grew

-- ---- sources

-- who has a pull out is the owner of the source's inlet
pub puller : (s : Plan) (o : Outlets) (workers : ℕ) (past behind : Past) → OwnersPull o workers past → IsOwnedBehind s o workers past behind
    → OwnersPull o workers (behind ++ past)
unfolding source_state IsOwnedBehind
puller s o workers past [] home owned t w h = home t w h
puller s o workers past (e ∷ behind) home owned t w h = by_kind e.kind owned.1 h (puller s o workers past behind home owned.0 t w)
  where
    by_pull : (u : ℕ) (b : Bool) → (u == t) ≡ b → e.worker ≡ owner workers (o.inlet u) → cond b (Out e.worker) (source_state t (behind ++ past)) ≡ Out w
        → (source_state t (behind ++ past) ≡ Out w → w ≡ owner workers (o.inlet t)) → w ≡ owner workers (o.inlet t)
    by_pull u true same own g ih =
        let mine : e.worker ≡ w = cc in
        let there : u ≡ t = eqb-true u t same in
        sym mine ∙ (own ∙ ap (λ r. owner workers (o.inlet r)) there)
    by_pull u false same own g ih = ih g

    by_end : (b : Bool) (state : SourceState) → is_out state ≡ false → cond b state (source_state t (behind ++ past)) ≡ Out w
        → (source_state t (behind ++ past) ≡ Out w → w ≡ owner workers (o.inlet t)) → w ≡ owner workers (o.inlet t)
    by_end true state home g ih = absurd (let k = rw g at home in cc k)
    by_end false state home g ih = ih g

    by_kind : (k : Kind) → IsOwner workers e.worker (outlet_in s o (behind ++ past) k) → moved e.worker t k (source_state t (behind ++ past)) ≡ Out w
        → (source_state t (behind ++ past) ≡ Out w → w ≡ owner workers (o.inlet t)) → w ≡ owner workers (o.inlet t)
    by_kind (Pull u) own g ih = by_pull u (u == t) refl own g ih
    by_kind (Accept u item m) own g ih = by_end (u == t) Idle refl g ih
    by_kind (Refuse u item cause) own g ih = by_end (u == t) Idle refl g ih
    by_kind (SourceEnd u) own g ih = by_end (u == t) Done refl g ih
    by_kind (SourceFault u) own g ih = by_end (u == t) Done refl g ih
    by_kind _ own g ih = ih g

-- an entry of a source that inlet k reads is the owner's
reader : (s : Plan) (d : Doors) (o : Outlets) (workers limit k w : ℕ) (past behind : Past) (a : Kind) → LeadsTo d o
    → OwnersPull o workers past → IsOwnedBehind s o workers past behind → IsOwner workers w (outlet_in s o (behind ++ past) a)
    → May s limit (behind ++ past) w a → is_read_by d k a ≡ true → w ≡ owner workers k
reader s d o workers limit k w past behind (Pull t) leads home owned own may h = own ∙ ap (owner workers) (leads.inlet t k (door-is k (d.inlet t) h))
reader s d o workers limit k w past behind (Accept t item m) leads home owned own may h =
    puller s o workers past behind home owned t w may.1 ∙ ap (owner workers) (leads.inlet t k (door-is k (d.inlet t) h))
reader s d o workers limit k w past behind (Refuse t item cause) leads home owned own may h =
    puller s o workers past behind home owned t w may.1 ∙ ap (owner workers) (leads.inlet t k (door-is k (d.inlet t) h))
reader s d o workers limit k w past behind (SourceEnd t) leads home owned own may h =
    puller s o workers past behind home owned t w may.1 ∙ ap (owner workers) (leads.inlet t k (door-is k (d.inlet t) h))
reader s d o workers limit k w past behind (SourceFault t) leads home owned own may h =
    puller s o workers past behind home owned t w may.1 ∙ ap (owner workers) (leads.inlet t k (door-is k (d.inlet t) h))
reader s d o workers limit k w past behind _ leads home owned own may h = absurd (cc h)

pub reads-owned : (s : Plan) (d : Doors) (o : Outlets) (workers limit k : ℕ) (past behind : Past) → LeadsTo d o → KeepsRules s workers limit (behind ++ past)
    → OwnersPull o workers past → IsOwnedBehind s o workers past behind
    → All (IsReadBy d k (owner workers k)) behind
unfolding IsOwnedBehind
reads-owned s d o workers limit k past [] leads legal home owned = All-nil (IsReadBy d k (owner workers k))
reads-owned s d o workers limit k past (e ∷ behind) leads legal home owned =
    All-cons (IsReadBy d k (owner workers k)) e behind
    (reader s d o workers limit k e.worker past behind e.kind leads home owned.0 owned.1 (legal-may s workers limit e (behind ++ past) legal))
    (reads-owned s d o workers limit k past behind leads (legal-tail s workers limit e (behind ++ past) legal) home owned.0)

pub owned-sources : (s : Plan) (d : Doors) (o : Outlets) (workers limit k : ℕ) (past behind : Past) → LeadsTo d o → KeepsRules s workers limit (behind ++ past)
    → OwnersPull o workers past → IsOwnedBehind s o workers past behind
    → entries_at d k (entries_of (owner workers k) behind) ≡ entries_at d k behind
owned-sources s d o workers limit k past behind leads legal home owned =
    entries-part d k (owner workers k) behind (reads-owned s d o workers limit k past behind leads legal home owned)

-- ---- inlets

-- what an inlet did by its owner's part of the journal is what it did by all of it
acts-owned : (s : Plan) (d : Doors) (o : Outlets) (workers limit k : ℕ) (past behind : Past) → LeadsTo d o → KeepsRules s workers limit (behind ++ past)
    → OwnersPull o workers past → IsOwnedBehind s o workers past behind
    → acts_on k (acts_by_worker d (owner workers k) behind (answered s past behind)) ≡ acts_on k (inlet_acts d behind (answered s past behind))
acts-owned s d o workers limit k past behind leads legal home owned =
    let mine = entries_of (owner workers k) behind in
    let vs = answered s past behind in
    let gave : acts_on k (pulls d mine) ≡ acts_on k (pulls d behind) =
    sym (pulls-part d k mine)
    ∙ (ap (λ es. acts_on k (pulls d es)) (owned-sources s d o workers limit k past behind leads legal home owned) ∙ pulls-part d k behind) in
    let told = commits-part d k (owner workers k) vs (commits-owned s d o workers k past behind leads owned) in
    acts_on-append k (pulls d mine) (commits d (answers_of (owner workers k) vs))
    ∙ (ap (λ xs. xs ++ acts_on k (commits d (answers_of (owner workers k) vs))) gave
    ∙ (ap (λ xs. acts_on k (pulls d behind) ++ xs) told ∙ sym (acts_on-append k (pulls d behind) (commits d vs))))

inlets-from : (s : Plan) (d : Doors) (o : Outlets) (workers limit k : ℕ) (past behind : Past) (views ws : List InletView) → LeadsTo d o
    → KeepsRules s workers limit (behind ++ past) → OwnersPull o workers past → IsOwnedBehind s o workers past behind
    → InletsGrewByOwners d workers behind (answered s past behind) k views ws
    → InletsGrew k (inlet_acts d behind (answered s past behind)) views ws
inlets-from s d o workers limit k past behind [] [] leads legal home owned grew = tt
inlets-from s d o workers limit k past behind (v ∷ views) (w ∷ ws) leads legal home owned grew = (
  InletGrew-same k k _ _ v w (acts-owned s d o workers limit k past behind leads legal home owned) grew.0,
  inlets-from s d o workers limit (k + 1) past behind views ws leads legal home owned grew.1,
)
inlets-from s d o workers limit k past behind [] (w ∷ ws) leads legal home owned grew = absurd grew
inlets-from s d o workers limit k past behind (v ∷ views) [] leads legal home owned grew = absurd grew

pub inlets-grew : (s : Plan) (d : Doors) (o : Outlets) (workers limit : ℕ) (past behind : Past) (views ws : List InletView) → LeadsTo d o
    → KeepsRules s workers limit (behind ++ past) → OwnersPull o workers past → IsOwnedBehind s o workers past behind
    → InletsGrewByOwners d workers behind (answered s past behind) 0 views ws
    → InletsGrew 0 (inlet_acts d behind (answered s past behind)) views ws
inlets-grew s d o workers limit past behind views ws leads legal home owned grew =
    inlets-from s d o workers limit 0 past behind views ws leads legal home owned grew
