-- What a run leaves, by what was done behind its empty journal.
use Rattle.std.proofs.Common.{◌≡◌, ℕ, zero, suc, ◌≤◌, ◌⊎◌, List, [], ◌++◌, Some, sym, ap, subst, ◌∙◌, arith}
use Rattle.std.proofs.lemmas.List.{append-nil}
use Rattle.eip_route.specs.declared.route.RouteSet.{RouteSet}
use Rattle.eip_endpoint.specs.Lanes.{LaneView, LanesGrew}
use Rattle.eip_endpoint.specs.Inlets.{InletView, InletsGrew}
use Rattle.eip_endpoint.specs.Outside.{calls}
use Rattle.eip_ledger.specs.View.{JournalView}
use Rattle.eip_ledger.specs.declared.place.Stop.{Stop}
use Rattle.eip_ledger.specs.declared.place.Stop.TheVariants as stop
use Rattle.eip_history.specs.Plan.{Plan}
use Rattle.eip_history.specs.Own.{Past, source_state}
use Rattle.eip_history.specs.Owner.{IsOwned}
use Rattle.eip_history.specs.Rules.{IsLegal, Served, served}
use Rattle.eip_history.specs.Stop.{stop_of, IsPlain}
use Rattle.eip_history.proofs.Owned.{owned-none}
use Rattle.eip_history.proofs.ServedSteps.{served-none}
use Rattle.eip_history.proofs.Steps.{source-none}
use Rattle.eip_core.specs.View.{BooksView, plan, IsLegalRun, IsSameRun}
use Rattle.eip_outlets.specs.Outlets.{outlets}
use Rattle.eip_owners.specs.Owners.{entries_of, OwnersPull, IsOwnedBehind}
use Rattle.eip_owners.proofs.Owned.{owned-whole}
use Rattle.eip_processor.specs.Registered.{RegistryView}
use Rattle.eip_plan.specs.Plan.{plan_of}
use Rattle.eip_core.specs.Doors.{doors_among}
use Rattle.eip_core.specs.Drain.{IsStop, Drains, IsPlainBehind}
use Rattle.eip_core.specs.Outside.{AreTheirs, seen_answers, inlet_acts}
use Rattle.eip_core.proofs.Compose.{plain-behind}
use Rattle.eip_workers.specs.Works.{Works}
use Rattle.eip_run.specs.Reports.{IsShared, IsMade, Ran}

-- no pull is out where there is no entry yet
pub owners-begin : (v : BooksView) (workers : ℕ) → v.journal.past ≡ [] → OwnersPull (outlets v.set) workers v.journal.past
owners-begin v workers none t w out =
    absurd (let idle = sym (ap (source_state t) none ∙ source-none t) ∙ out in cc idle)

-- ---- what was done behind an empty journal

-- entries and answers behind those of a run that had none, whoever made them
record Did (u v : BooksView) (lb la : List LaneView) (ib ia : List InletView) (r : RegistryView) : Type 0 where
  pub same : IsSameRun u v
  pub entries : Past
  pub past : v.journal.past ≡ entries
  pub given : List Served
  pub answers : served (plan u) v.journal.past ≡ given
  pub lanes : LanesGrew 0 (calls (doors_among u.set lb ib) (seen_answers given)) lb la
  pub inlets : InletsGrew 0 (inlet_acts (doors_among u.set lb ib) entries (seen_answers given)) ib ia
  pub theirs : AreTheirs r given

none-before : (past behind new : Past) → past ≡ [] → new ≡ behind ++ past → new ≡ behind
none-before past behind new none is = is ∙ ap (λ (p : Past). behind ++ p) none ∙ append-nil behind

none-answered : (s : Plan) (past : Past) (vs given : List Served) → past ≡ [] → vs ≡ served s past ++ given → vs ≡ given
none-answered s past vs given none is = is ∙ ap (λ (p : Past). served s p ++ given) none ∙ ap (λ (us : List Served). us ++ given) (served-none s)

ran : {r : RegistryView} (workers : ℕ) (u v : BooksView) (s : Stop) (lb la : List LaneView) (ib ia : List InletView) → u.journal.workers ≡ workers → IsStop v s → IsLegalRun v
    → Did u v lb la ib ia r → IsMade u.set workers v.journal.past → Ran u.set workers u.journal.turns v.journal s lb la ib ia r
ran {r} workers u v s lb la ib ia staff stops legal d made =
    let over : plan v ≡ plan u = ap plan_of d.same.set in
    record {
      workers = d.same.workers ∙ staff;
      turns = d.same.turns;
      legal = subst (λ (n : ℕ). IsLegal (plan u) n u.journal.turns v.journal.past) (d.same.workers ∙ staff)
          (subst (λ (n : ℕ). IsLegal (plan u) v.journal.workers n v.journal.past) d.same.turns
          (subst (λ (p : Plan). IsLegal p v.journal.workers v.journal.turns v.journal.past) over legal));
      made = made;
      stops = subst (λ (n : ℕ). (s ≡ stop.NoMemory) ⊎ (stop_of (plan u) n v.journal.past ≡ Some s)) d.same.turns
          (subst (λ (p : Plan). (s ≡ stop.NoMemory) ⊎ (stop_of p v.journal.turns v.journal.past ≡ Some s)) over stops);
      lanes = subst (λ (vs : List Served). LanesGrew 0 (calls (doors_among u.set lb ib) (seen_answers vs)) lb la) (sym d.answers) d.lanes;
      inlets = subst (λ (p : Past). InletsGrew 0 (inlet_acts (doors_among u.set lb ib) p (seen_answers (served (plan u) v.journal.past))) ib ia) (sym d.past)
          (subst (λ (vs : List Served). InletsGrew 0 (inlet_acts (doors_among u.set lb ib) d.entries (seen_answers vs)) ib ia) (sym d.answers) d.inlets);
      theirs = subst (λ (vs : List Served). AreTheirs r vs) (sym d.answers) d.theirs;
    }

-- ---- without workers

none-plain : (s : Plan) → IsPlain s []
unfolding IsPlain
none-plain s = tt

plain-run : (u v : BooksView) (behind : Past) → u.journal.past ≡ [] → v.journal.past ≡ behind ++ u.journal.past → IsPlainBehind (plan u) u.journal.past behind
    → IsPlain (plan u) v.journal.past
plain-run u v behind none is plain =
    subst (IsPlain (plan u)) (sym is) (plain-behind (plan u) u.journal.past behind (subst (IsPlain (plan u)) (sym none) (none-plain (plan u))) plain)

pub ran-alone : {r : RegistryView} (workers : ℕ) (u v : BooksView) (s : Stop) (lb la : List LaneView) (ib ia : List InletView) → workers ≡ 0
    → u.journal.workers ≡ workers → u.journal.past ≡ [] → IsStop v s → IsLegalRun v → Drains u v lb la ib ia r
    → Ran u.set workers u.journal.turns v.journal s lb la ib ia r
ran-alone workers u v s lb la ib ia alone staff none stops legal d =
    ran workers u v s lb la ib ia staff stops legal
    (record {
      same = d.same;
      entries = d.behind;
      past = none-before u.journal.past d.behind v.journal.past none d.past;
      given = d.answered;
      answers = none-answered (plan u) u.journal.past (served (plan u) v.journal.past) d.answered none d.answers;
      lanes = d.lanes;
      inlets = d.inlets;
      theirs = d.theirs;
    })
    (subst (λ (n : ℕ). IsMade u.set n v.journal.past) (sym alone) (plain-run u v d.behind none d.past d.plain))

-- ---- by workers

shared-made : (set : RouteSet) (workers : ℕ) (past : Past) → 1 ≤ workers → IsShared set workers past → IsMade set workers past
shared-made set zero past some shared = absurd (omega (arith, some))
shared-made set (suc n) past some shared = shared

shared-run : (workers : ℕ) (u v : BooksView) (behind : Past) → u.journal.workers ≡ workers → u.journal.past ≡ [] → v.journal.past ≡ behind ++ u.journal.past
    → entries_of 0 behind ≡ [] → IsOwnedBehind (plan u) (outlets u.set) u.journal.workers u.journal.past behind → IsShared u.set workers v.journal.past
shared-run workers u v behind staff none is staffed owned = record {
  staffed = ap (entries_of 0) (none-before u.journal.past behind v.journal.past none is) ∙ staffed;
  owned = subst (λ (n : ℕ). IsOwned (plan u) (outlets u.set) n v.journal.past) staff
      (subst (IsOwned (plan u) (outlets u.set) u.journal.workers) (sym is)
      (owned-whole (plan u) (outlets u.set) u.journal.workers u.journal.past behind
      (subst (IsOwned (plan u) (outlets u.set) u.journal.workers) (sym none) (owned-none (plan u) (outlets u.set) u.journal.workers)) owned));
}

pub ran-by-workers : {r : RegistryView} (workers : ℕ) (u v : BooksView) (s : Stop) (lb la : List LaneView) (ib ia : List InletView) → 1 ≤ workers
    → u.journal.workers ≡ workers → u.journal.past ≡ [] → IsStop v s → IsLegalRun v → Works u v lb la ib ia r
    → Ran u.set workers u.journal.turns v.journal s lb la ib ia r
ran-by-workers workers u v s lb la ib ia some staff none stops legal d =
    ran workers u v s lb la ib ia staff stops legal
    (record {
      same = d.same;
      entries = d.behind;
      past = none-before u.journal.past d.behind v.journal.past none d.past;
      given = d.given;
      answers = none-answered (plan u) u.journal.past (served (plan u) v.journal.past) d.given none d.answers;
      lanes = d.lanes;
      inlets = d.inlets;
      theirs = d.theirs;
    })
    (shared-made u.set workers v.journal.past some (shared-run workers u v d.behind staff none d.past d.staffed d.owned))

-- ---- a run of a set, with its limit and its journal

pub ran-along : {r : RegistryView} (set other : RouteSet) (workers limit most : ℕ) (j i : JournalView) (s : Stop) (lb la : List LaneView) (ib ia : List InletView) → set ≡ other
    → limit ≡ most → i ≡ j → Ran set workers limit j s lb la ib ia r → Ran other workers most i s lb la ib ia r
ran-along {r} set other workers limit most j i s lb la ib ia sets limits journals h =
    subst (λ (y : RouteSet). Ran y workers most i s lb la ib ia r) sets
    (subst (λ (n : ℕ). Ran set workers n i s lb la ib ia r) limits (subst (λ (x : JournalView). Ran set workers limit x s lb la ib ia r) (sym journals) h))
