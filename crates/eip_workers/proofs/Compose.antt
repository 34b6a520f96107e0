-- How rounds of workers follow one another.
use Rattle.std.proofs.Common.{◌≡◌, ◌==◌, ℕ, List, [], ◌++◌, refl, sym, ap, subst, ◌∙◌, append-nil, append_assoc, Option, Some, None, IfSome, inr}
use Rattle.std.proofs.lemmas.List.{map-append}
use Rattle.std.proofs.lemmas.List.Elements.{filter-append}
use Rattle.eip_ledger.specs.declared.entry.Entry.{Entry}
use Rattle.eip_route.specs.declared.route.Names.{Names}
use Rattle.eip_route.specs.declared.route.RouteSet.{RouteSet}
use Rattle.eip_endpoint.specs.Inlets.{InletAct, InletView, InletsGrew, commits_at, inlet_names}
use Rattle.eip_endpoint.specs.Lanes.{LaneView, LanesGrew, lane_names}
use Rattle.eip_endpoint.specs.Outside.{Doors, calls, commits}
use Rattle.eip_endpoint.proofs.InletLaws.{InletsGrew-none, InletsGrew-names}
use Rattle.eip_endpoint.proofs.LaneLaws.{LanesGrew-none, LanesGrew-trans, LanesGrew-names}
use Rattle.eip_endpoint.proofs.OutsideLaws.{calls-append}
use Rattle.eip_history.specs.Own.{Past}
use Rattle.eip_history.specs.Plan.{Plan}
use Rattle.eip_history.specs.Rules.{Served, served}
use Rattle.eip_history.specs.Stop.{stop_of}
use Rattle.eip_ledger.specs.declared.place.Stop.{Stop}
use Rattle.eip_crew.specs.View.{BooksView, plan}
use Rattle.eip_outlets.specs.Outlets.{outlets}
use Rattle.eip_owners.specs.Acts.{inlet_acts, pulls, seen_answer, seen_answers}
use Rattle.eip_owners.specs.Owners.{IsOwnedBehind, OwnersPull, entries_of}
use Rattle.eip_owners.proofs.Owned.{owned-append, puller}
use Rattle.eip_owners.proofs.Pulled.{acts-follow, pulls-append, pulls-none, pulls-tell}
use Rattle.eip_plan.specs.Plan.{plan_of}
use Rattle.eip_processor.specs.Registered.{RegistryView}
use Rattle.eip_crew.specs.Doors.{CanRun, doors_among}
use Rattle.eip_crew.specs.Drain.{CanDrain, IsStop}
use Rattle.eip_crew.proofs.DrainCompose.{same-refl, same-trans, doors-same}
use Rattle.eip_workers.specs.Works.{Works}
use Rattle.eip_workers.proofs.Answering.{theirs-append}

-- what a hub answers for its stop is one, if it is any
pub stop-is : (v : BooksView) (o : Option Stop) → o ≡ stop_of (plan v) v.journal.turns v.journal.past → IfSome o (λ s. IsStop v s)
stop-is v None is = tt
stop-is v (Some s) is = inr (sym is)

pub works-refl : {r : RegistryView} (v : BooksView) (l : List LaneView) (i : List InletView) → Works v v l l i i r
unfolding IsOwnedBehind
works-refl v l i = record {
  behind = [];
  past = refl;
  given = [];
  answers = sym (append-nil (served (plan v) v.journal.past));
  same = same-refl v;
  staffed = refl;
  owned = tt;
  lanes = LanesGrew-none 0 l;
  inlets = rw (pulls-none (doors_among v.set l i)) (InletsGrew-none 0 i);
  theirs = tt;
}

-- entries that worker 0 did not make, behind such entries
none-more : (p q : Past) → entries_of 0 p ≡ [] → entries_of 0 q ≡ [] → entries_of 0 (p ++ q) ≡ []
none-more p q after before = filter-append (λ (e : Entry). e.worker == 0) p q ∙ (ap (λ es. es ++ entries_of 0 q) after ∙ before)

-- the calls of lanes by more answers
calls-more : (d : Doors) (vs ws : List Served) → calls d (seen_answers (vs ++ ws)) ≡ calls d (seen_answers vs) ++ calls d (seen_answers ws)
calls-more d vs ws = ap (calls d) (map-append seen_answer vs ws) ∙ calls-append d (seen_answers vs) (seen_answers ws)

-- acts of inlets behind acts of inlets
acts-more : (d : Doors) (p q : Past) (vs ws : List Served) (more : List InletAct) (i j k : List InletView) → ((n : ℕ) (u : List ℕ) → commits_at n u more ≡ [])
    → InletsGrew 0 (inlet_acts d q (seen_answers vs)) i j → InletsGrew 0 (more ++ commits d (seen_answers ws)) j k → pulls d (p ++ q) ≡ pulls d q ++ more
    → InletsGrew 0 (inlet_acts d (p ++ q) (seen_answers (vs ++ ws))) i k
acts-more d p q vs ws more i j k tells first second are =
    rw (map-append seen_answer vs ws) (acts-follow d p q (seen_answers vs) (seen_answers ws) more i j k tells first second are)

pub works-trans : {u v w : BooksView} {l m n : List LaneView} {i j k : List InletView} {r : RegistryView} → Works u v l m i j r → Works v w m n j k r → Works u w l n i k r
works-trans {u} {v} {w} {l} {m} {n} {i} {j} {k} {r} d e =
    let s = doors-same _ _ l m i j d.same d.lanes d.inlets in
    let p : plan v ≡ plan u = ap plan_of d.same.set in
    let later : served (plan u) w.journal.past ≡ served (plan u) v.journal.past ++ e.given =
    subst (λ (x : Plan). served x w.journal.past ≡ served x v.journal.past ++ e.given) p e.answers in
    record {
      behind = e.behind ++ d.behind;
      past = e.past ∙ (ap (λ q. e.behind ++ q) d.past ∙ sym (append_assoc e.behind d.behind u.journal.past));
      given = d.given ++ e.given;
      answers = later ∙ (ap (λ xs. xs ++ e.given) d.answers ∙ append_assoc (served (plan u) u.journal.past) d.given e.given);
      same = same-trans d.same e.same;
      staffed = none-more e.behind d.behind e.staffed d.staffed;
      owned =
          owned-append (plan u) (outlets u.set) u.journal.workers u.journal.past d.behind e.behind d.owned
          (subst (λ (q : Past). IsOwnedBehind (plan u) (outlets u.set) u.journal.workers q e.behind) d.past
          (subst (λ (c : ℕ). IsOwnedBehind (plan u) (outlets u.set) c v.journal.past e.behind) d.same.workers
          (subst (λ (x : RouteSet). IsOwnedBehind (plan_of x) (outlets x) v.journal.workers v.journal.past e.behind) d.same.set e.owned)));
      lanes = rw (calls-more (doors_among u.set l i) d.given e.given)
          (LanesGrew-trans 0 _ _ l m n d.lanes (subst (λ x. LanesGrew 0 (calls x (seen_answers e.given)) m n) s e.lanes));
      inlets = acts-more (doors_among u.set l i) e.behind d.behind d.given e.given (pulls (doors_among u.set l i) e.behind) i j k
          (pulls-tell (doors_among u.set l i) e.behind) d.inlets
          (subst (λ x. InletsGrew 0 (inlet_acts x e.behind (seen_answers e.given)) j k) s e.inlets) (pulls-append (doors_among u.set l i) e.behind d.behind);
      theirs = theirs-append r d.given e.given d.theirs e.theirs;
    }

-- behind what workers did the set can still be run
pub still-runs : {u v : BooksView} {l m : List LaneView} {i j : List InletView} {r : RegistryView} → Works u v l m i j r → CanDrain u l i r → CanDrain v m j r
still-runs {u} {v} {l} {m} {i} {j} {r} d can =
    let with_names : List (List ℕ) → List (List ℕ) → Names = λ ls is. record { lanes = ls; inlets = is; processors = r.processors; predicates = r.predicates } in
    subst (λ (s : RouteSet). CanRun s (with_names (lane_names m) (inlet_names j))) (sym d.same.set)
    (subst (λ (ns : List (List ℕ)). CanRun u.set (with_names ns (inlet_names j))) (LanesGrew-names 0 _ l m d.lanes)
    (subst (λ (ns : List (List ℕ)). CanRun u.set (with_names (lane_names l) ns)) (InletsGrew-names 0 _ i j d.inlets) can))

-- and each pull that is out is still its inlet's owner's
pub still-owners : {u v : BooksView} {l m : List LaneView} {i j : List InletView} {r : RegistryView} (n : ℕ) → Works u v l m i j r → u.journal.workers ≡ n
    → OwnersPull (outlets u.set) n u.journal.past → OwnersPull (outlets v.set) n v.journal.past
still-owners {u} {v} n d count pull =
    let owned : IsOwnedBehind (plan u) (outlets u.set) n u.journal.past d.behind =
    subst (λ (c : ℕ). IsOwnedBehind (plan u) (outlets u.set) c u.journal.past d.behind) count d.owned in
    subst (λ (x : RouteSet). OwnersPull (outlets x) n v.journal.past) (sym d.same.set)
    (subst (λ (q : Past). OwnersPull (outlets u.set) n q) (sym d.past) (puller (plan u) (outlets u.set) n u.journal.past d.behind pull owned))
