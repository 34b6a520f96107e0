-- A seat that is taken in, and what a worker with a new seat may do and did.
use Rattle.std.proofs.Common.{◌≡◌, ℕ, ◌+◌, ◌≤◌, List, [], ◌∷◌, ◌++◌, Option, Some, None, sym, ap, subst, ◌∙◌, arith}
use Rattle.atomic_table.specs.Seated.{TableId}
use Rattle.eip_route.specs.declared.route.RouteSet.{RouteSet}
use Rattle.eip_endpoint.specs.Inlets.{InletView}
use Rattle.eip_endpoint.specs.Lanes.{LaneView}
use Rattle.eip_history.specs.Rules.{IsLegal}
use Rattle.eip_plan.specs.Plan.{plan_of}
use Rattle.eip_processor.specs.Registered.{RegistryView}
use Rattle.eip_turnstile.specs.Rule.{entries_by}
use Rattle.eip_turnstile.specs.Seats.{lock_of, knows}
use Rattle.eip_turnstile.specs.Steps.{joined, split_left, split_right}
use Rattle.eip_turnstile.specs.declared.seat.Seat.{Seat}
use Rattle.eip_worker.specs.Deeds.{past_of}
use Rattle.eip_worker.specs.Beginning.{Beginning}
use Rattle.eip_worker.specs.Deed.{Deed}
use Rattle.eip_worker.specs.Seats.{MaySit, Sat}
use Rattle.eip_worker.specs.Serves.{IsEquipped}
use Rattle.eip_crew.specs.Crew.{IsNew, Splits, Mans, own_of, Gathers}
use Rattle.eip_crew.specs.Team.{Did}

module _ {X E B : Type 0} {g : _} where
  -- t made one more seat, u, and is v then
  pub new-behind : (s t u : Seat X E B g) (n : ℕ) → Splits n s t → lock_of u ≡ lock_of t → knows u ≡ split_right (knows t) → IsNew s ((knows s).made + n) (Some u)
  new-behind s t u n was own is = (
    own ∙ was.0,
    ap (λ v. v.number) is ∙ was.5,
    ap (λ v. v.seen) is ∙ was.2,
    ap (λ v. v.mine) is,
    ap (λ v. v.base) is ∙ was.4,
    ap (λ v. v.olds) is,
  )

  pub splits-more : (s t v : Seat X E B g) (n : ℕ) → Splits n s t → lock_of v ≡ lock_of t → knows v ≡ split_left (knows t) → Splits (n + 1) s v
  splits-more s t v n was own is = (
    own ∙ was.0,
    ap (λ w. w.number) is ∙ was.1,
    ap (λ w. w.seen) is ∙ was.2,
    ap (λ w. w.mine) is ∙ was.3,
    ap (λ w. w.base) is ∙ was.4,
    omega (arith, ap (λ w. w.made) is, was.5),
    ap (λ w. w.olds) is ∙ was.6,
  )

  -- u is t behind the taking in of one more
  pub gathers-more : (s t u other : Seat X E B g) (xs : List (ℕ × List E)) → (knows other).olds ≡ [] → Gathers xs s t → lock_of u ≡ lock_of t
      → knows u ≡ joined (knows t) (knows other) → Gathers (own_of (Some other) ∷ xs) s u
  gathers-more s t u other xs none was own is = (
    own ∙ was.0,
    ap (λ v. v.number) is ∙ was.1,
    ap (λ v. v.mine) is ∙ was.2,
    ap (λ v. v.base) is ∙ was.3,
    ap (λ v. v.made) is ∙ was.4,
    ap (λ v. v.olds) is ∙ ap (λ (l : List (ℕ × List E)). ((knows other).number, (knows other).mine) ∷ l) (ap (λ (l : List (ℕ × List E)). l ++ (knows t).olds) none ∙ was.5),
  )

module _ {X : Type 0} {g : _} where
  -- a worker with a new seat may work
  pub may-sit : (start : Beginning) (id : TableId) (first : Seat X Deed Beginning g) (n : ℕ) (o : Option (Seat X Deed Beginning g)) (sources : RouteSet)
      (lanes : List LaneView) (inlets : List InletView) (registry : RegistryView) → lock_of first ≡ id → (knows first).seen ≡ [] → (knows first).base ≡ Some start
      → 1 ≤ n → n ≤ start.workers → IsNew first n o → IsLegal (plan_of start.set) start.workers start.turns start.past → sources.routes ≡ start.set.routes
      → IsEquipped start.set start.workers n lanes inlets registry → MaySit start id o sources lanes inlets registry
  may-sit start id first n None sources lanes inlets registry own seen base some within new legal routes equipped = absurd new
  may-sit start id first n (Some t) sources lanes inlets registry own seen base some within new legal routes equipped =
      let nothing : (knows t).seen ≡ [] = new.2 ∙ seen in
      let number : (knows t).number ≡ n = new.1 in (
        new.0 ∙ own,
        record {
          works = record {
            based = new.4 ∙ base;
            some = omega (arith, some, number);
            within = omega (arith, within, number);
            own = ap (entries_by (knows t).number) nothing ∙ sym new.3;
            legal = subst (λ (l : List (ℕ × Deed)). IsLegal (plan_of start.set) start.workers start.turns (past_of l ++ start.past)) (sym nothing) legal;
          };
          routes = routes;
          equipped = subst (λ m. IsEquipped start.set start.workers m lanes inlets registry) (sym number) equipped;
        },
      )

  module _ (start : Beginning) (first : Seat X Deed Beginning g) (n : ℕ) (lanes_old lanes_new : List LaneView) (inlets_old inlets_new : List InletView)
      (registry : RegistryView) where
    -- its seat may be taken in behind what it did
    pub sat-mans : (id : TableId) (o t : Option (Seat X Deed Beginning g)) → lock_of first ≡ id → IsNew first n o
        → Sat start o t lanes_old lanes_new inlets_old inlets_new registry → Mans id t
    sat-mans id (Some s) (Some t) own new sat = (sat.0 ∙ (new.0 ∙ own), sat.1.keeps.olds ∙ new.5)
    sat-mans id (Some s) None own new sat = absurd sat
    sat-mans id None t own new sat = absurd new

    -- and tells what it did
    pub sat-did : (o t : Option (Seat X Deed Beginning g)) → IsNew first n o → Sat start o t lanes_old lanes_new inlets_old inlets_new registry
        → ((own_of t).0 ≡ n) × Did start.set n (own_of t).1 lanes_old lanes_new inlets_old inlets_new registry
    sat-did (Some s) (Some t) new sat =
        let serves = sat.1.serves in
        let number : (knows s).number ≡ n = new.1 in
        let did : serves.did ≡ (knows t).mine = sym (serves.mine ∙ ap (λ ds. ds ++ serves.did) new.3) in (
          sat.1.keeps.number ∙ number,
          subst (λ ds. Did start.set n ds lanes_old lanes_new inlets_old inlets_new registry) did
              (subst (λ m. Did start.set m serves.did lanes_old lanes_new inlets_old inlets_new registry) number
              (record { lanes = serves.lanes; inlets = serves.inlets; theirs = serves.theirs })),
        )
    sat-did (Some s) None new sat = absurd sat
    sat-did None t new sat = absurd new
