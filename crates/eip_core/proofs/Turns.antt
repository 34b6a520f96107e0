-- What stands from turn to turn of a drain.
use Rattle.std.proofs.Common.{[], ◌≡◌, ℕ, ◌-◌, ◌<◌, List, sym, subst, arith}
use Rattle.eip_route.specs.declared.route.Names.{Names}
use Rattle.eip_route.specs.declared.route.RouteSet.{RouteSet}
use Rattle.eip_endpoint.specs.Lanes.{LaneView, lane_names}
use Rattle.eip_endpoint.specs.Inlets.{InletView, inlet_names}
use Rattle.eip_endpoint.proofs.LaneLaws.{LanesGrew-names}
use Rattle.eip_endpoint.proofs.InletLaws.{InletsGrew-names}
use Rattle.eip_history.specs.Own.{turns}
use Rattle.eip_history.specs.Place.{hands}
use Rattle.eip_history.specs.Plan.{Plan}
use Rattle.eip_history.specs.Rules.{KeepsRules}
use Rattle.eip_history.proofs.Limit.{legal-within}
use Rattle.eip_hub.specs.View.{BooksView, plan, IsLegalRun}
use Rattle.eip_processor.specs.Registered.{RegistryView}
use Rattle.eip_core.specs.Doors.{CanRun}
use Rattle.eip_core.specs.Drain.{CanDrain, Drains}

-- behind a drain the set can still be run: names of lanes and inlets stay
pub still-runs : {u v : BooksView} {l m : List LaneView} {i j : List InletView} {r : RegistryView} → Drains u v l m i j r → CanDrain u l i r → CanDrain v m j r
still-runs {u} {v} {l} {m} {i} {j} {r} d can =
    let with_names : List (List ℕ) → List (List ℕ) → Names = λ ls is. record { lanes = ls; inlets = is; processors = r.processors; predicates = r.predicates } in
    subst (λ (s : RouteSet). CanRun s (with_names (lane_names m) (inlet_names j))) (sym d.same.set)
    (subst (λ (ns : List (List ℕ)). CanRun u.set (with_names ns (inlet_names j))) (LanesGrew-names 0 _ l m d.lanes)
    (subst (λ (ns : List (List ℕ)). CanRun u.set (with_names (lane_names l) ns)) (InletsGrew-names 0 _ i j d.inlets) can))

-- a turn more leaves fewer to take
pub fewer-turns : {u v : BooksView} {l m : List LaneView} {i j : List InletView} {r : RegistryView} → Drains u v l m i j r → IsLegalRun v → turns u.journal.past < turns v.journal.past
    → v.journal.turns - turns v.journal.past < u.journal.turns - turns u.journal.past
fewer-turns {u} {v} d legal more =
    let within = legal-within (plan v) v.journal.workers v.journal.turns v.journal.past legal.entries in
    omega (arith, within, more, d.same.turns)

-- before the first entry no hand is out
none-yet : (s : Plan) → hands s [] ≡ 0
unfolding KeepsRules
none-yet s = let within = legal-within s 0 0 [] tt in omega (arith, within)

pub none-out : (v : BooksView) → v.journal.past ≡ [] → hands (plan v) v.journal.past ≡ 0
none-out v none = rw none (none-yet (plan v))
