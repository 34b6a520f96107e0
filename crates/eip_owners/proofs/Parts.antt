-- What lanes and inlets did stands in the part of the worker who made each call of them.
use Rattle.std.proofs.Common.{◌≡◌, ℕ, ◌==◌, Bool, true, false, cond, List, [], ◌∷◌, ◌++◌, Option, Some, None, refl, sym, ap, ◌∙◌, append-nil}
use Rattle.std.specs.Prelude.{All}
use Rattle.std.proofs.lemmas.Bool.{eqb-false, false_from_ne_true}
use Rattle.std.proofs.lemmas.List.Elements.{All-head, All-tail}
use Rattle.eip_exchange.specs.declared.birth.Origin.{Origin}
use Rattle.eip_exchange.specs.declared.birth.Origin.TheVariants as from
use Rattle.eip_frames.specs.declared.answer.Answer.{Answer as Reply}
use Rattle.eip_frames.specs.declared.request.Request.{Request}
use Rattle.eip_frames.specs.declared.request.Request.TheVariants.{Send, Finish}
use Rattle.eip_ledger.specs.declared.entry.Kind.{Kind}
use Rattle.eip_ledger.specs.declared.entry.Kind.TheVariants.{Accept, Refuse, SourceEnd, SourceFault}
use Rattle.eip_endpoint.specs.Inlets.{commits_at, faults_at}
use Rattle.eip_endpoint.specs.Lanes.{calls_at}
use Rattle.eip_endpoint.specs.Outside.{Answered, Doors, calls, calls_in, calls_for, calls_by, call_by, commits, commits_in, commits_for, told_by}
use Rattle.eip_endpoint.proofs.LaneLaws.{calls_at-append, calls_at-other}
use Rattle.eip_history.specs.Own.{Past}
use Rattle.eip_owners.specs.Acts.{pulls, pulls_in}
use Rattle.eip_owners.specs.Owners.{answers_of, is_door, sends_on, tells, IsSentBy, IsToldBy, IsReadBy, is_read_by, entries_of, entries_at}
use Rattle.eip_owners.proofs.Acts.{acts_on, acts_on-append, acts-beside, commits-on, faults-on}

-- ---- of another lane or inlet

beside-door : (d : Doors) (k : ℕ) (o : Option ℕ) → is_door k o ≡ false → (t : _) (m : _) (a : Reply) → calls_at k (calls_by o (call_by t m a)) ≡ []
beside-door d k None h t m a = refl
beside-door d k (Some e) h t m a = calls_at-other k e (call_by t m a) (eqb-false e k h)

-- is no call of lane k
calls-beside : (d : Doors) (k : ℕ) (q : Request) (a : Reply) → sends_on d k q ≡ false → calls_at k (calls_for d q a) ≡ []
calls-beside d k (Send t m) a h = beside-door d k (d.lane t) h t m a
calls-beside d k _ a h = refl

-- tells inlet k of nothing
commits-beside : (d : Doors) (k : ℕ) (o : Origin) (q : Request) (a : Reply) → tells d k o q ≡ false → acts_on k (commits_for d o q a) ≡ []
commits-beside d k (from.Source r item) (Finish e m true) a h = acts-beside k (d.inlet r) (d.uri r) (told_by item e a) h
commits-beside d k _ _ a h = refl

-- is nothing of inlet k
pulls-beside : (d : Doors) (k : ℕ) (a : Kind) → is_read_by d k a ≡ false → acts_on k (pulls_in d a) ≡ []
pulls-beside d k (Accept t item m) h = acts-beside k (d.inlet t) (d.uri t) _ h
pulls-beside d k (Refuse t item c) h = acts-beside k (d.inlet t) (d.uri t) _ h
pulls-beside d k (SourceEnd t) h = acts-beside k (d.inlet t) (d.uri t) _ h
pulls-beside d k (SourceFault t) h = acts-beside k (d.inlet t) (d.uri t) _ h
pulls-beside d k _ h = refl

-- ---- one worker's part

-- where all that pass a test are worker w's, an answer of another worker doesn't pass it
others-fail : (b : Bool) (v w : ℕ) → (b ≡ true → v ≡ w) → (v == w) ≡ false → b ≡ false
others-fail b v w all other = false_from_ne_true b (λ t. eqb-false v w other (all t))

pub calls-part :
    (d : Doors) (k w : ℕ) (vs : List Answered) → All (IsSentBy d k w) vs
    → calls_at k (calls d (answers_of w vs)) ≡ calls_at k (calls d vs)
calls-part d k w [] all = refl
calls-part d k w (v ∷ vs) all = by_worker (v.worker == w) refl (calls-part d k w vs (All-tail (IsSentBy d k w) v vs all))
  where
    by_worker : (b : Bool) → (v.worker == w) ≡ b → calls_at k (calls d (answers_of w vs)) ≡ calls_at k (calls d vs)
        → calls_at k (calls d (cond b (v ∷ answers_of w vs) (answers_of w vs))) ≡ calls_at k (calls_in d v ++ calls d vs)
    by_worker true t ih =
        calls_at-append k (calls_in d v) (calls d (answers_of w vs))
        ∙ (ap (λ xs. calls_at k (calls_in d v) ++ xs) ih ∙ sym (calls_at-append k (calls_in d v) (calls d vs)))
    by_worker false t ih =
        let none = calls-beside d k v.request v.answer (others-fail (sends_on d k v.request) v.worker w (All-head (IsSentBy d k w) v vs all) t) in
        ih ∙ (ap (λ xs. xs ++ calls_at k (calls d vs)) (sym none) ∙ sym (calls_at-append k (calls_in d v) (calls d vs)))

pub commits-part :
    (d : Doors) (k w : ℕ) (vs : List Answered) → All (IsToldBy d k w) vs
    → acts_on k (commits d (answers_of w vs)) ≡ acts_on k (commits d vs)
commits-part d k w [] all = refl
commits-part d k w (v ∷ vs) all = by_worker (v.worker == w) refl (commits-part d k w vs (All-tail (IsToldBy d k w) v vs all))
  where
    by_worker : (b : Bool) → (v.worker == w) ≡ b → acts_on k (commits d (answers_of w vs)) ≡ acts_on k (commits d vs)
        → acts_on k (commits d (cond b (v ∷ answers_of w vs) (answers_of w vs))) ≡ acts_on k (commits_in d v ++ commits d vs)
    by_worker true t ih =
        acts_on-append k (commits_in d v) (commits d (answers_of w vs))
        ∙ (ap (λ xs. acts_on k (commits_in d v) ++ xs) ih ∙ sym (acts_on-append k (commits_in d v) (commits d vs)))
    by_worker false t ih =
        let none = commits-beside d k v.origin v.request v.answer (others-fail (tells d k v.origin v.request) v.worker w (All-head (IsToldBy d k w) v vs all) t) in
        ih ∙ (ap (λ xs. xs ++ acts_on k (commits d vs)) (sym none) ∙ sym (acts_on-append k (commits_in d v) (commits d vs)))

pub commits-told : (d : Doors) (k w : ℕ) (vs : List Answered) → All (IsToldBy d k w) vs
    → ((u : List ℕ) → commits_at k u (commits d (answers_of w vs)) ≡ commits_at k u (commits d vs))
    × (faults_at k (commits d (answers_of w vs)) ≡ faults_at k (commits d vs))
commits-told d k w vs all =
    let same = commits-part d k w vs all in (
      λ u. commits-on k u (commits d (answers_of w vs)) ∙ (ap (commits_at 0 u) same ∙ sym (commits-on k u (commits d vs))),
      faults-on k (commits d (answers_of w vs)) ∙ (ap (faults_at 0) same ∙ sym (faults-on k (commits d vs))),
    )

pub entries-part : (d : Doors) (k w : ℕ) (es : Past) → All (IsReadBy d k w) es → entries_at d k (entries_of w es) ≡ entries_at d k es
entries-part d k w [] all = refl
entries-part d k w (e ∷ es) all =
    by_worker (e.worker == w) refl (is_read_by d k e.kind) refl (entries-part d k w es (All-tail (IsReadBy d k w) e es all))
  where
    by_worker : (b : Bool) → (e.worker == w) ≡ b → (c : Bool) → is_read_by d k e.kind ≡ c → entries_at d k (entries_of w es) ≡ entries_at d k es
        → entries_at d k (cond b (e ∷ entries_of w es) (entries_of w es)) ≡ cond c (e ∷ entries_at d k es) (entries_at d k es)
    by_worker true t true r ih = rw r (ap (λ xs. e ∷ xs) ih)
    by_worker true t false r ih = rw r ih
    by_worker false t true r ih = absurd (eqb-false e.worker w t (All-head (IsReadBy d k w) e es all r))
    by_worker false t false r ih = ih

-- what came of the pulls of inlet k stands in the entries of its sources
pub pulls-part : (d : Doors) (k : ℕ) (past : Past) → acts_on k (pulls d (entries_at d k past)) ≡ acts_on k (pulls d past)
unfolding pulls
pulls-part d k [] = refl
pulls-part d k (e ∷ past) = by_test (is_read_by d k e.kind) refl (pulls-part d k past)
  where
    by_test : (b : Bool) → is_read_by d k e.kind ≡ b → acts_on k (pulls d (entries_at d k past)) ≡ acts_on k (pulls d past)
        → acts_on k (pulls d (cond b (e ∷ entries_at d k past) (entries_at d k past))) ≡ acts_on k (pulls d past ++ pulls_in d e.kind)
    by_test true t ih =
        acts_on-append k (pulls d (entries_at d k past)) (pulls_in d e.kind)
        ∙ (ap (λ xs. xs ++ acts_on k (pulls_in d e.kind)) ih ∙ sym (acts_on-append k (pulls d past) (pulls_in d e.kind)))
    by_test false t ih =
        ih ∙ (sym (append-nil (acts_on k (pulls d past)))
        ∙ (ap (λ xs. acts_on k (pulls d past) ++ xs) (sym (pulls-beside d k e.kind t)) ∙ sym (acts_on-append k (pulls d past) (pulls_in d e.kind))))
