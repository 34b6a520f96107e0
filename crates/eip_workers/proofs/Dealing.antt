-- What a crew may rely on of what was dealt out to it, and what comes of all that it did.
use Rattle.std.proofs.Common.{◌≡◌, ◌≤◌, ℕ, zero, suc, ◌+◌, ◌<◌, List, [], ◌++◌, length, map, Vec, Global, All, ⊎_elim, sym, ap, subst, ◌∙◌, arith}
use Rattle.std.proofs.lemmas.Bool.{cases_lt}
use Rattle.std.proofs.lemmas.List.{length-map}
use Rattle.eip_route.specs.declared.route.RouteSet.{RouteSet}
use Rattle.eip_endpoint.specs.Inlets.{InletView, InletsGrew}
use Rattle.eip_endpoint.specs.Lanes.{LaneView, LanesGrew}
use Rattle.eip_endpoint.specs.Outside.{calls, commits}
use Rattle.eip_endpoint.proofs.InletLaws.{InletsGrew-length}
use Rattle.eip_endpoint.proofs.LaneLaws.{LanesGrew-length}
use Rattle.eip_history.specs.Own.{Past}
use Rattle.eip_history.specs.Rules.{KeepsRules, served}
use Rattle.eip_plan.specs.Plan.{plan_of}
use Rattle.eip_crew.specs.View.{BooksView, plan, IsLegalRun, IsSameRun}
use Rattle.eip_outlets.specs.Outlets.{outlets}
use Rattle.eip_owners.specs.Acts.{inlet_acts, pulls, seen_answers}
use Rattle.eip_owners.specs.Owners.{IsOwnedBehind, OwnersPull, acts_by_worker, answered, answers_of, entries_of}
use Rattle.eip_shares.specs.Shares.{share}
use Rattle.eip_dealt.specs.Dealt.{AreOwners, doors_over}
use Rattle.eip_dealt.proofs.Inlets.{dealt-inlets}
use Rattle.eip_dealt.proofs.Lanes.{dealt-lanes}
use Rattle.eip_dealt.proofs.Owning.{own-inlet, own-lane}
use Rattle.eip_processor.specs.Registered.{RegistryView}
use Rattle.eip_crew.specs.Doors.{doors_among}
use Rattle.eip_crew.specs.Drain.{CanDrain}
use Rattle.eip_crew.specs.Outside.{AreTheirs}
use Rattle.eip_turnstile.specs.Rule.{entries_by}
use Rattle.eip_turnstile.proofs.Lists.{by-below}
use Rattle.eip_crew.specs.Deeds.{own_answers, own_entries}
use Rattle.eip_crew.specs.Shared.{Part, SharedFacts, SharedView, before, beginning, beginning_of, log, since}
use Rattle.eip_crew.specs.Beginning.{Beginning}
use Rattle.eip_crew.specs.Serves.{AreTheirDeeds, IsEquipped}
use Rattle.eip_crew.specs.Team.{MayWork, Together, items_at}
use Rattle.eip_workers.specs.Works.{Works}
use Rattle.eip_workers.proofs.Answering.{all-theirs, given_behind, seen-behind, served-behind}

next : (k : ℕ) → k + 1 ≡ suc k
next k = omega arith

-- L and I are lanes and inlets, seen by f and h
module _ {L I : Type 0} (f : L → LaneView) (h : I → InletView) (old : BooksView) (lanes : List L) (inlets : List I) (registry : RegistryView)
    (can : CanDrain old (map f lanes) (map h inlets) registry) where
  -- a worker is equipped with its shares
  equipped : (k : ℕ) → IsEquipped old.set old.journal.workers (k + 1) (map f (share old.journal.workers k 0 lanes)) (map h (share old.journal.workers k 0 inlets)) registry
  equipped k = record {
    valid = can.valid;
    processors = ap (λ ns. ns.processors) can.named;
    predicates = ap (λ ns. ns.predicates) can.named;
    lanes = λ t there own. own-lane f old.set old.journal.workers k t lanes (ap (λ ns. ns.lanes) can.named) there own;
    inlets = λ t there own. own-inlet h old.set old.journal.workers k t inlets (ap (λ ns. ns.inlets) can.named) there own;
  }

  pub may-work : (sources : List RouteSet) (ls : List (Vec L Global)) (is : List (Vec I Global)) → IsLegalRun old → All (λ (s : RouteSet). s.routes ≡ old.set.routes) sources
      → ((k : ℕ) → k < old.journal.workers → items_at ls k ≡ share old.journal.workers k 0 lanes)
      → ((k : ℕ) → k < old.journal.workers → items_at is k ≡ share old.journal.workers k 0 inlets)
      → MayWork (beginning_of old) sources (λ k. map f (items_at ls k)) (λ k. map h (items_at is k)) registry
  may-work sources ls is legal routes dealt_ls dealt_is = record {
    legal = legal;
    routes = routes;
    equipped = λ k within.
        subst (λ vs. IsEquipped old.set old.journal.workers (k + 1) (map f (items_at ls k)) vs registry) (ap (map h) (sym (dealt_is k within)))
        (subst (λ vs. IsEquipped old.set old.journal.workers (k + 1) vs (map h (share old.journal.workers k 0 inlets)) registry) (ap (map f) (sym (dealt_ls k within)))
        (equipped k));
  }

  -- what comes of all that a crew did: the lanes and inlets whose shares its lists are, and what workers did to the run and to these
  pub record Outcome (new : BooksView) (lane_lists : ℕ → List L) (inlet_lists : ℕ → List I) : Type 0 where
    pub lanes_now : List L
    pub inlets_now : List I
    pub lanes_count : length lanes_now ≡ length lanes
    pub inlets_count : length inlets_now ≡ length inlets
    pub lanes_dealt : (k : ℕ) → k < old.journal.workers → lane_lists k ≡ share old.journal.workers k 0 lanes_now
    pub inlets_dealt : (k : ℕ) → k < old.journal.workers → inlet_lists k ≡ share old.journal.workers k 0 inlets_now
    pub works : Works old new (map f lanes) (map f lanes_now) (map h inlets) (map h inlets_now) registry

  -- what is told of the run since it began: behind the run that began so
  module _ (run : SharedView) (lane_lists : ℕ → List L) (inlet_lists : ℕ → List I) (ls : ℕ → List L) (is : ℕ → List I)
      (dealt_ls : (k : ℕ) → k < old.journal.workers → ls k ≡ share old.journal.workers k 0 lanes)
      (dealt_is : (k : ℕ) → k < old.journal.workers → is k ≡ share old.journal.workers k 0 inlets)
      (did : Together (beginning_of old) run (λ k. map f (ls k)) (λ k. map f (lane_lists k)) (λ k. map h (is k)) (λ k. map h (inlet_lists k)) registry)
      (parts : (w : ℕ) → Part run w) where
    -- the entries of a worker, and its answers, are its deeds
    entries-are : (w : ℕ) → entries_of w (since run) ≡ own_entries w (entries_by w (log run))
    entries-are w = (parts w).entries

    answers-are : (w : ℕ) → answers_of w (answered (plan old) old.journal.past (since run)) ≡ own_answers w (entries_by w (log run))
    answers-are w =
        subst (λ (b : Beginning). answers_of w (answered (plan_of b.set) b.past (since run)) ≡ own_answers w (entries_by w (log run))) did.began (parts w).answers

    staffed : entries_of 0 (since run) ≡ []
    staffed = entries-are 0 ∙ ap (own_entries 0) did.no_first

    -- what each worker answered is of whoever was asked
    theirs-by : (w : ℕ) → AreTheirDeeds registry (entries_by w (log run))
    theirs-by zero = subst (AreTheirDeeds registry) (sym did.no_first) tt
    theirs-by (suc k) = ⊎_elim
        (λ (within : k < old.journal.workers). subst (λ (m : ℕ). AreTheirDeeds registry (entries_by m (log run))) (next k) (did.each k within).theirs)
        (λ (beyond : old.journal.workers ≤ k). subst (AreTheirDeeds registry) (sym (by-below (suc k) (old.journal.workers + 1) (log run) (omega arith) did.below)) tt)
        (cases_lt k old.journal.workers)

    theirs : AreTheirs registry (given_behind (plan old) old.journal.past (since run))
    theirs =
        subst (λ (b : Beginning). AreTheirs registry (given_behind (plan_of b.set) b.past (since run))) did.began
        (all-theirs registry (plan run.hub) (before run) (since run) theirs-by)

    owned : SharedFacts run → IsOwnedBehind (plan old) (outlets old.set) old.journal.workers old.journal.past (since run)
    owned facts = subst (λ (b : Beginning). IsOwnedBehind (plan_of b.set) (outlets b.set) b.workers b.past (since run)) did.began facts.owned

    module _ (new : BooksView) (same : new ≡ run.hub) (legal : IsLegalRun new) (past : new.journal.past ≡ since run ++ (beginning run).past) where
      past-is : new.journal.past ≡ since run ++ old.journal.past
      past-is = past ∙ ap (λ (b : Beginning). since run ++ b.past) did.began

      same-run : IsSameRun old new
      same-run = record {
        set = ap (λ v. v.set) same ∙ ap (λ (b : Beginning). b.set) did.began;
        workers = ap (λ v. v.journal.workers) same ∙ ap (λ (b : Beginning). b.workers) did.began;
        turns = ap (λ v. v.journal.turns) same ∙ ap (λ (b : Beginning). b.turns) did.began;
      }

      keeps : KeepsRules (plan old) old.journal.workers old.journal.turns (since run ++ old.journal.past)
      keeps =
          subst (λ (q : Past). KeepsRules (plan old) old.journal.workers old.journal.turns q) past-is
          (subst (λ (t : ℕ). KeepsRules (plan old) old.journal.workers t new.journal.past) same-run.turns
          (subst (λ (c : ℕ). KeepsRules (plan old) c new.journal.turns new.journal.past) same-run.workers
          (subst (λ (x : RouteSet). KeepsRules (plan_of x) new.journal.workers new.journal.turns new.journal.past) same-run.set legal.entries)))

      pub outcome : 0 < old.journal.workers → OwnersPull (outlets old.set) old.journal.workers old.journal.past → SharedFacts run → Outcome new lane_lists inlet_lists
      outcome some pull facts =
          let vs = answered (plan old) old.journal.past (since run) in
          let are : AreOwners old.set (plan old) old.journal.workers old.journal.turns old.journal.past (since run) (map f lanes) (map h inlets) = record {
            some = some;
            lanes_named = ap (λ ns. ns.lanes) can.named;
            inlets_named = ap (λ ns. ns.inlets) can.named;
            legal = keeps;
            home = pull;
            owned = owned facts;
          } in
          let given_lanes = dealt-lanes f h old.set (plan old) old.journal.workers old.journal.turns old.journal.past (since run) lanes inlets lane_lists are grew-lanes in
          let given_inlets = dealt-inlets f h old.set (plan old) old.journal.workers old.journal.turns old.journal.past (since run) lanes inlets inlet_lists are grew-inlets in
          let seen : vs ≡ seen_answers (given_behind (plan old) old.journal.past (since run)) = sym (seen-behind (plan old) old.journal.past (since run)) in
          record {
            lanes_now = given_lanes.0;
            inlets_now = given_inlets.0;
            lanes_count = omega (arith, LanesGrew-length 0 _ (map f lanes) (map f given_lanes.0) given_lanes.2, length-map lanes f, length-map given_lanes.0 f);
            inlets_count = omega (arith, InletsGrew-length 0 _ (map h inlets) (map h given_inlets.0) given_inlets.2, length-map inlets h, length-map given_inlets.0 h);
            lanes_dealt = given_lanes.1;
            inlets_dealt = given_inlets.1;
            works = record {
              behind = since run;
              past = past-is;
              given = given_behind (plan old) old.journal.past (since run);
              answers = ap (served (plan old)) past-is ∙ served-behind (plan old) old.journal.past (since run);
              same = same-run;
              staffed = staffed;
              owned = owned facts;
              lanes = subst (λ ws. LanesGrew 0 (calls (doors_among old.set (map f lanes) (map h inlets)) ws) (map f lanes) (map f given_lanes.0)) seen given_lanes.2;
              inlets = subst (λ ws. InletsGrew 0 (inlet_acts (doors_among old.set (map f lanes) (map h inlets)) (since run) ws) (map h inlets) (map h given_inlets.0)) seen given_inlets.2;
              theirs = theirs;
            };
          }
        where
          grew-lanes : (k : ℕ) → k < old.journal.workers
              → LanesGrew 0 (calls (doors_over old.set f h (share old.journal.workers k 0 lanes) (share old.journal.workers k 0 inlets)) (answers_of (k + 1) (answered (plan old) old.journal.past (since run))))
              (map f (share old.journal.workers k 0 lanes)) (map f (lane_lists k))
          grew-lanes k within =
              subst (λ xs. LanesGrew 0 (calls (doors_over old.set f h xs (share old.journal.workers k 0 inlets)) (answers_of (k + 1) (answered (plan old) old.journal.past (since run)))) (map f xs) (map f (lane_lists k))) (dealt_ls k within)
              (subst (λ ys. LanesGrew 0 (calls (doors_over old.set f h (ls k) ys) (answers_of (k + 1) (answered (plan old) old.journal.past (since run)))) (map f (ls k)) (map f (lane_lists k))) (dealt_is k within)
              (subst (λ ws. LanesGrew 0 (calls (doors_over old.set f h (ls k) (is k)) ws) (map f (ls k)) (map f (lane_lists k))) (sym (answers-are (k + 1))) (did.each k within).lanes))

          grew-inlets : (k : ℕ) → k < old.journal.workers
              → InletsGrew 0 (acts_by_worker (doors_over old.set f h (share old.journal.workers k 0 lanes) (share old.journal.workers k 0 inlets)) (k + 1) (since run) (answered (plan old) old.journal.past (since run)))
              (map h (share old.journal.workers k 0 inlets)) (map h (inlet_lists k))
          grew-inlets k within =
              subst (λ xs. InletsGrew 0 (acts_by_worker (doors_over old.set f h xs (share old.journal.workers k 0 inlets)) (k + 1) (since run) (answered (plan old) old.journal.past (since run))) (map h (share old.journal.workers k 0 inlets)) (map h (inlet_lists k))) (dealt_ls k within)
              (subst (λ ys. InletsGrew 0 (acts_by_worker (doors_over old.set f h (ls k) ys) (k + 1) (since run) (answered (plan old) old.journal.past (since run))) (map h ys) (map h (inlet_lists k))) (dealt_is k within)
              (subst (λ ws. InletsGrew 0 (pulls (doors_over old.set f h (ls k) (is k)) (entries_of (k + 1) (since run)) ++ commits (doors_over old.set f h (ls k) (is k)) ws) (map h (is k)) (map h (inlet_lists k))) (sym (answers-are (k + 1)))
              (subst (λ es. InletsGrew 0 (pulls (doors_over old.set f h (ls k) (is k)) es ++ commits (doors_over old.set f h (ls k) (is k)) (own_answers (k + 1) (entries_by (k + 1) (log run)))) (map h (is k)) (map h (inlet_lists k))) (sym (entries-are (k + 1)))
              (did.each k within).inlets)))
