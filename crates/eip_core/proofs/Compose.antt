-- How drains follow one another.
use Rattle.std.proofs.Common.{◌≡◌, ℕ, IsTrue, List, [], ◌∷◌, ◌++◌, refl, sym, ap, subst, ◌∙◌, append_assoc}
use Rattle.std.proofs.lemmas.List.{append-nil, map-append}
use Rattle.eip_ledger.specs.declared.entry.Kind.{Kind}
use Rattle.eip_ledger.specs.declared.entry.Entry.{Entry}
use Rattle.eip_endpoint.specs.Lanes.{LaneView, LaneCall, LanesGrew, lane_names}
use Rattle.eip_endpoint.specs.Inlets.{InletView, InletAct, InletsGrew, inlet_names, commits_at}
use Rattle.eip_endpoint.specs.Outside.{Doors, calls, commits}
use Rattle.eip_endpoint.proofs.LaneLaws.{LanesGrew-none, LanesGrew-trans, LanesGrew-names}
use Rattle.eip_endpoint.proofs.InletLaws.{InletsGrew-none, InletsGrew-trans, InletsGrew-names}
use Rattle.eip_endpoint.proofs.OutsideLaws.{calls-append}
use Rattle.eip_history.specs.Plan.{Plan}
use Rattle.eip_history.specs.Own.{Past}
use Rattle.eip_history.specs.Rules.{Served, served, served_in}
use Rattle.eip_history.specs.Stop.{IsPlain, is_of, actor}
use Rattle.eip_history.proofs.ServedSteps.{served-more}
use Rattle.eip_history.proofs.Steps.{plain-add}
use Rattle.eip_owners.proofs.Pulled.{pulls-none, pulls-more, pulls-append, pulls-tell, kind-tells, acts-follow}
use Rattle.eip_plan.specs.Plan.{plan_of}
use Rattle.eip_hub.specs.View.{BooksView, plan, IsSameRun, Adds, AddsNone}
use Rattle.eip_processor.specs.Registered.{RegistryView}
use Rattle.eip_core.specs.Doors.{doors_of}
use Rattle.eip_core.specs.Outside.{AreTheirs, seen_answer, seen_answers, pulls, pulls_in, inlet_acts}
use Rattle.eip_core.specs.Drain.{Drains, IsPlainBehind, doors}

pub same-refl : (v : BooksView) → IsSameRun v v
same-refl v = record { set = refl; workers = refl; turns = refl }

pub same-trans : {u v w : BooksView} → IsSameRun u v → IsSameRun v w → IsSameRun u w
same-trans a b = record { set = b.set ∙ a.set; workers = b.workers ∙ a.workers; turns = b.turns ∙ a.turns }

-- the calls of lanes by more answers
served-calls : (d : Doors) (vs ws : List Served) → calls d (seen_answers (vs ++ ws)) ≡ calls d (seen_answers vs) ++ calls d (seen_answers ws)
served-calls d vs ws = ap (calls d) (map-append seen_answer vs ws) ∙ calls-append d (seen_answers vs) (seen_answers ws)

-- acts of inlets follow acts of inlets
inlets-follow : (d : Doors) (p q : Past) (vs ws : List Served) (more : List InletAct) (i j k : List InletView) → ((n : ℕ) (u : List ℕ) → commits_at n u more ≡ [])
    → InletsGrew 0 (inlet_acts d q (seen_answers vs)) i j → InletsGrew 0 (more ++ commits d (seen_answers ws)) j k → pulls d (p ++ q) ≡ pulls d q ++ more
    → InletsGrew 0 (inlet_acts d (p ++ q) (seen_answers (vs ++ ws))) i k
inlets-follow d p q vs ws more i j k tells first second are =
    rw (map-append seen_answer vs ws) (acts-follow d p q (seen_answers vs) (seen_answers ws) more i j k tells first second are)

-- a plain past stays plain behind such entries
pub plain-behind : (s : Plan) (past behind : Past) → IsPlain s past → IsPlainBehind s past behind → IsPlain s (behind ++ past)
plain-behind s past [] plain t = plain
plain-behind s past (e ∷ behind) plain t = plain-add s e (behind ++ past) (plain-behind s past behind plain t.0) t.1 t.2

plain-append : (s : Plan) (past p q : Past) → IsPlainBehind s past q → IsPlainBehind s (q ++ past) p → IsPlainBehind s past (p ++ q)
plain-append s past [] q before after = before
plain-append s past (e ∷ p) q before after =
    (plain-append s past p q before after.0, after.1, subst (λ (r : Past). IsTrue (is_of (actor s r) e.kind)) (sym (append_assoc p q past)) after.2)

-- answers behind answers, each of whoever was asked
theirs-append : (r : RegistryView) (vs ws : List Served) → AreTheirs r vs → AreTheirs r ws → AreTheirs r (vs ++ ws)
theirs-append r [] ws before after = after
theirs-append r (v ∷ vs) ws before after = (before.0, theirs-append r vs ws before.1 after)

-- the doors of a run are the same behind any calls and acts
pub doors-same : {u v : BooksView} (js : List LaneCall) (ks : List InletAct) (l m : List LaneView) (i j : List InletView) → IsSameRun u v → LanesGrew 0 js l m → InletsGrew 0 ks i j → doors v m j ≡ doors u l i
doors-same {u} {v} js ks l m i j same lanes inlets =
    ap (λ s. doors_of s (lane_names m) (inlet_names j)) same.set
    ∙ (ap (λ ns. doors_of u.set ns (inlet_names j)) (sym (LanesGrew-names 0 js l m lanes))
    ∙ ap (λ ns. doors_of u.set (lane_names l) ns) (sym (InletsGrew-names 0 ks i j inlets)))

pub drains-refl : {r : RegistryView} (v : BooksView) (l : List LaneView) (i : List InletView) → Drains v v l l i i r
drains-refl v l i = record {
  behind = [];
  past = refl;
  same = same-refl v;
  plain = tt;
  answered = [];
  answers = sym (append-nil (served (plan v) v.journal.past));
  lanes = LanesGrew-none 0 l;
  inlets = rw (pulls-none (doors v l i)) (InletsGrew-none 0 i);
  theirs = tt;
}

-- a call that made no entry
pub drains-none : {u v w : BooksView} {l m : List LaneView} {i j : List InletView} {r : RegistryView} → Drains u v l m i j r → AddsNone v w → Drains u w l m i j r
drains-none {u} {v} d a = record {
  behind = d.behind;
  past = a.past ∙ d.past;
  answered = d.answered;
  answers = ap (served (plan u)) a.past ∙ d.answers;
  same = same-trans d.same a.same;
  plain = d.plain;
  lanes = d.lanes;
  inlets = d.inlets;
  theirs = d.theirs;
}

-- lanes and inlets that were asked for nothing
pub drains-still : {u v : BooksView} {l m n : List LaneView} {i j k : List InletView} {r : RegistryView} → Drains u v l m i j r → LanesGrew 0 [] m n → InletsGrew 0 [] j k → Drains u v l n i k r
drains-still {u} {v} {l} {m} {n} {i} {j} {k} d lanes inlets = record {
  behind = d.behind;
  past = d.past;
  answered = d.answered;
  answers = d.answers;
  same = d.same;
  plain = d.plain;
  lanes = subst (λ js. LanesGrew 0 js l n) (append-nil (calls (doors u l i) (seen_answers d.answered))) (LanesGrew-trans 0 _ [] l m n d.lanes lanes);
  inlets = subst (λ js. InletsGrew 0 js i k) (append-nil (inlet_acts (doors u l i) d.behind (seen_answers d.answered))) (InletsGrew-trans 0 _ [] i j k d.inlets inlets);
  theirs = d.theirs;
}

-- one more entry, of the actor whose turn it is; lanes and inlets did what it says
pub drains-add : {u v w : BooksView} {l m n : List LaneView} {i j k : List InletView} {kind : Kind} {r : RegistryView} → Drains u v l m i j r → Adds v w 0 kind
    → LanesGrew 0 (calls (doors v m j) (seen_answers (served_in (plan v) v.journal.past 0 kind))) m n
    → InletsGrew 0 (pulls_in (doors v m j) kind ++ commits (doors v m j) (seen_answers (served_in (plan v) v.journal.past 0 kind))) j k
    → IsTrue (is_of (actor (plan v) v.journal.past) kind) → AreTheirs r (served_in (plan v) v.journal.past 0 kind) → Drains u w l n i k r
drains-add {u} {v} {w} {l} {m} {n} {i} {j} {k} {kind} {r} d a lanes inlets acts theirs =
    let s = doors-same _ _ l m i j d.same d.lanes d.inlets in
    let p : plan v ≡ plan u = ap plan_of d.same.set in
    let e : Entry = record { worker = 0; kind = kind } in
    let more = served_in (plan u) v.journal.past 0 kind in
    record {
      behind = e ∷ d.behind;
      past = a.past ∙ ap (λ q. e ∷ q) d.past;
      answered = d.answered ++ more;
      answers = ap (served (plan u)) a.past ∙ (served-more (plan u) e v.journal.past
          ∙ (ap (λ xs. xs ++ more) d.answers ∙ append_assoc (served (plan u) u.journal.past) d.answered more));
      same = same-trans d.same a.same;
      plain =
          (d.plain, refl, subst (λ (q : Past). IsTrue (is_of (actor (plan u) q) kind)) d.past (subst (λ x. IsTrue (is_of (actor x v.journal.past) kind)) p acts));
      lanes = rw (served-calls (doors u l i) d.answered more)
          (LanesGrew-trans 0 _ _ l m n d.lanes
          (subst (λ x. LanesGrew 0 (calls (doors u l i) (seen_answers (served_in x v.journal.past 0 kind))) m n) p
          (subst (λ x. LanesGrew 0 (calls x (seen_answers (served_in (plan v) v.journal.past 0 kind))) m n) s lanes)));
      inlets = inlets-follow (doors u l i) (e ∷ []) d.behind d.answered more (pulls_in (doors u l i) kind) i j k
          (λ x y. kind-tells (doors u l i) x y kind) d.inlets
          (subst (λ x. InletsGrew 0 (pulls_in (doors u l i) kind ++ commits (doors u l i) (seen_answers (served_in x v.journal.past 0 kind))) j k) p
          (subst (λ x. InletsGrew 0 (pulls_in x kind ++ commits x (seen_answers (served_in (plan v) v.journal.past 0 kind))) j k) s inlets))
          (pulls-more (doors u l i) e d.behind);
      theirs = theirs-append r d.answered more d.theirs (subst (λ x. AreTheirs r (served_in x v.journal.past 0 kind)) p theirs);
    }

pub drains-trans : {u v w : BooksView} {l m n : List LaneView} {i j k : List InletView} {r : RegistryView} → Drains u v l m i j r → Drains v w m n j k r → Drains u w l n i k r
drains-trans {u} {v} {w} {l} {m} {n} {i} {j} {k} {r} d e =
    let s = doors-same _ _ l m i j d.same d.lanes d.inlets in
    let p : plan v ≡ plan u = ap plan_of d.same.set in
    let later : served (plan u) w.journal.past ≡ served (plan u) v.journal.past ++ e.answered =
    subst (λ (x : Plan). served x w.journal.past ≡ served x v.journal.past ++ e.answered) p e.answers in
    record {
      behind = e.behind ++ d.behind;
      past = e.past ∙ (ap (λ q. e.behind ++ q) d.past ∙ sym (append_assoc e.behind d.behind u.journal.past));
      answered = d.answered ++ e.answered;
      answers = later ∙ (ap (λ xs. xs ++ e.answered) d.answers ∙ append_assoc (served (plan u) u.journal.past) d.answered e.answered);
      same = same-trans d.same e.same;
      plain =
          plain-append (plan u) u.journal.past e.behind d.behind d.plain
          (subst (λ (q : Past). IsPlainBehind (plan u) q e.behind) d.past (subst (λ (x : Plan). IsPlainBehind x v.journal.past e.behind) p e.plain));
      lanes = rw (served-calls (doors u l i) d.answered e.answered)
          (LanesGrew-trans 0 _ _ l m n d.lanes (subst (λ x. LanesGrew 0 (calls x (seen_answers e.answered)) m n) s e.lanes));
      inlets = inlets-follow (doors u l i) e.behind d.behind d.answered e.answered (pulls (doors u l i) e.behind) i j k
          (pulls-tell (doors u l i) e.behind) d.inlets
          (subst (λ x. InletsGrew 0 (inlet_acts x e.behind (seen_answers e.answered)) j k) s e.inlets) (pulls-append (doors u l i) e.behind d.behind);
      theirs = theirs-append r d.answered e.answered d.theirs e.theirs;
    }
