-- What a crew did to a run, read off the seats that were taken in.
use Rattle.std.proofs.Common.{◌≡◌, ℕ, zero, suc, ◌+◌, ◌<◌, List, [], ◌∷◌, ◌++◌, length, map, get_or, Vec, Global, Option, Some, All, sym, ap, subst, ◌∙◌, arith, append-nil}
use Rattle.std.proofs.lemmas.List.{get_or-map, length-map}
use Rattle.atomic_table.specs.Seated.{TableId}
use Rattle.eip_route.specs.declared.route.RouteSet.{RouteSet}
use Rattle.eip_endpoint.specs.Inlets.{InletView}
use Rattle.eip_endpoint.specs.Lanes.{LaneView}
use Rattle.eip_processor.specs.Registered.{RegistryView}
use Rattle.eip_turnstile.specs.Rule.{entries_by, Told}
use Rattle.eip_turnstile.specs.Seats.{lock_of, knows}
use Rattle.eip_turnstile.specs.declared.seat.Seat.{Seat}
use Rattle.eip_worker.specs.Beginning.{Beginning}
use Rattle.eip_worker.specs.Deed.{Deed}
use Rattle.eip_worker.specs.Seats.{MaySit, Sat}
use Rattle.eip_worker.specs.Serves.{IsEquipped}
use Rattle.eip_crew.specs.Crew.{IsNew, Mans, own_of}
use Rattle.eip_crew.specs.Team.{Did, MayWork, items_at}
use Rattle.eip_crew.proofs.Lists.{items-at, some-item}
use Rattle.eip_crew.proofs.Seated.{may-sit, sat-mans, sat-did}

-- what is told of one of many
told-of : {W E : Type 0} (own : W → ℕ × List E) (log : List (ℕ × E)) (ws : List W) (k : ℕ) (d : W) → k < length ws → Told log (map own ws)
    → entries_by (own (get_or ws k d)).0 log ≡ (own (get_or ws k d)).1
told-of own log [] k d within told = absurd (omega arith)
told-of own log (w ∷ ws) zero d within told = told.0
told-of own log (w ∷ ws) (suc k) d within told = told-of own log ws k d (omega arith) told.1

-- W is a worker, read by its seat, its lanes and its inlets
module _ {W X L I : Type 0} {g : _} (f : L → LaneView) (h : I → InletView) (seat_of : W → Option (Seat X Deed Beginning g)) (set_of : W → RouteSet) (lanes_of : W → Vec L Global) (inlets_of : W → Vec I Global)
    (start : Beginning) (first : Seat X Deed Beginning g) (registry : RegistryView) where
  abbrev pub Lanes : W → List LaneView
  Lanes w = map f (lanes_of w).items

  abbrev pub Inlets : W → List InletView
  Inlets w = map h (inlets_of w).items

  -- each worker of a crew that was seated may sit
  pub all-sit : (id : TableId) (ws : List W) (sets : List RouteSet) (lanes : List (Vec L Global)) (inlets : List (Vec I Global)) → lock_of first ≡ id → (knows first).seen ≡ []
      → (knows first).base ≡ Some start → (knows first).made ≡ 1 → length ws ≡ start.workers → map set_of ws ≡ sets → map lanes_of ws ≡ lanes → map inlets_of ws ≡ inlets
      → ((k : ℕ) (d : W) → k < length ws → IsNew first ((knows first).made + k) (seat_of (get_or ws k d)))
      → MayWork start sets (λ k. map f (items_at lanes k)) (λ k. map h (items_at inlets k)) registry
      → (k : ℕ) (d : W) → k < length ws → MaySit start id (seat_of (get_or ws k d)) (set_of (get_or ws k d)) (Lanes (get_or ws k d)) (Inlets (get_or ws k d)) registry
  all-sit id ws sets lanes inlets own seen base one count ss ls is new may k d within =
      let number : (knows first).made + k ≡ k + 1 = omega (arith, one) in
      let here : map f (items_at lanes k) ≡ Lanes (get_or ws k d) = ap (λ l. map f (items_at l k)) (sym ls) ∙ ap (map f) (items-at lanes_of ws k d within) in
      let there : map h (items_at inlets k) ≡ Inlets (get_or ws k d) = ap (λ l. map h (items_at l k)) (sym is) ∙ ap (map h) (items-at inlets_of ws k d within) in
      let all : All (λ (s : RouteSet). s.routes ≡ start.set.routes) (map set_of ws) = subst (All (λ (s : RouteSet). s.routes ≡ start.set.routes)) (sym ss) may.routes in
      let routes : (set_of (get_or ws k d)).routes ≡ start.set.routes =
      ap (λ (s : RouteSet). s.routes) (sym (get_or-map set_of ws k d (set_of d) within)) ∙ all k (set_of d) (omega (arith, within, length-map ws set_of)) in
      may-sit start id first (k + 1) (seat_of (get_or ws k d)) (set_of (get_or ws k d)) (Lanes (get_or ws k d)) (Inlets (get_or ws k d)) registry own seen base (omega arith)
      (omega (arith, within, count)) (subst (λ n. IsNew first n (seat_of (get_or ws k d))) number (new k d within)) may.legal routes
      (subst (λ l. IsEquipped start.set start.workers (k + 1) (Lanes (get_or ws k d)) l registry) there
      (subst (λ l. IsEquipped start.set start.workers (k + 1) l (map h (items_at inlets k)) registry) here (may.equipped k (omega (arith, within, count)))))

  -- what all did, each worker since it was seated
  abbrev pub AllSat : List W → List W → Type 0
  AllSat old new = (k : ℕ) (d : W) → k < length old
      → Sat start (seat_of (get_or old k d)) (seat_of (get_or new k d)) (Lanes (get_or old k d)) (Lanes (get_or new k d)) (Inlets (get_or old k d)) (Inlets (get_or new k d)) registry

  -- their seats may be taken in
  pub all-man : (id : TableId) (old new : List W) → lock_of first ≡ id → length new ≡ length old
      → ((k : ℕ) (d : W) → k < length old → IsNew first ((knows first).made + k) (seat_of (get_or old k d))) → AllSat old new
      → (k : ℕ) (d : W) → k < length new → Mans id (seat_of (get_or new k d))
  all-man id old new own same made sat k d within =
      let h : k < length old = omega (arith, within, same) in
      sat-mans start first ((knows first).made + k) (Lanes (get_or old k d)) (Lanes (get_or new k d)) (Inlets (get_or old k d)) (Inlets (get_or new k d)) registry id
      (seat_of (get_or old k d)) (seat_of (get_or new k d)) own (made k d h) (sat k d h)

  -- and tell what each did
  pub all-did : (old new : List W) (lanes_old lanes_new : List (Vec L Global)) (inlets_old inlets_new : List (Vec I Global)) (log : List (ℕ × Deed)) → (knows first).made ≡ 1
      → length old ≡ start.workers → length new ≡ length old → map lanes_of old ≡ lanes_old → map inlets_of old ≡ inlets_old → lanes_new ≡ map lanes_of new → inlets_new ≡ map inlets_of new
      → ((k : ℕ) (d : W) → k < length old → IsNew first ((knows first).made + k) (seat_of (get_or old k d))) → AllSat old new
      → Told log (map (λ w. own_of (seat_of w)) new) → (k : ℕ) → k < start.workers
      → Did start.set (k + 1) (entries_by (k + 1) log) (map f (items_at lanes_old k)) (map f (items_at lanes_new k)) (map h (items_at inlets_old k)) (map h (items_at inlets_new k)) registry
  all-did old new lanes_old lanes_new inlets_old inlets_new log one count same ls is ms js made sat told k within =
      let inside : k < length old = omega (arith, within, count) in
      let inside' : k < length new = omega (arith, within, count, same) in
      let d = some-item old k inside in
      let o = get_or old k d in
      let t = get_or new k d in
      let number : (knows first).made + k ≡ k + 1 = omega (arith, one) in
      let did = sat-did start first (k + 1) (Lanes o) (Lanes t) (Inlets o) (Inlets t) registry (seat_of o) (seat_of t)
      (subst (λ n. IsNew first n (seat_of o)) number (made k d inside)) (sat k d inside) in
      let is_told = told-of (λ w. own_of (seat_of w)) log new k d inside' told in
      let entries : (own_of (seat_of t)).1 ≡ entries_by (k + 1) log = sym is_told ∙ ap (λ n. entries_by n log) did.0 in
      let a : Lanes o ≡ map f (items_at lanes_old k) = ap (map f) (sym (items-at lanes_of old k d inside)) ∙ ap (λ l. map f (items_at l k)) ls in
      let b : Lanes t ≡ map f (items_at lanes_new k) = ap (map f) (sym (items-at lanes_of new k d inside')) ∙ ap (λ l. map f (items_at l k)) (sym ms) in
      let c : Inlets o ≡ map h (items_at inlets_old k) = ap (map h) (sym (items-at inlets_of old k d inside)) ∙ ap (λ l. map h (items_at l k)) is in
      let e : Inlets t ≡ map h (items_at inlets_new k) = ap (map h) (sym (items-at inlets_of new k d inside')) ∙ ap (λ l. map h (items_at l k)) (sym js) in
      subst (λ l. Did start.set (k + 1) (entries_by (k + 1) log) (map f (items_at lanes_old k)) (map f (items_at lanes_new k)) (map h (items_at inlets_old k)) l registry) e
      (subst (λ l. Did start.set (k + 1) (entries_by (k + 1) log) (map f (items_at lanes_old k)) (map f (items_at lanes_new k)) l (Inlets t) registry) c
      (subst (λ l. Did start.set (k + 1) (entries_by (k + 1) log) (map f (items_at lanes_old k)) l (Inlets o) (Inlets t) registry) b
      (subst (λ l. Did start.set (k + 1) (entries_by (k + 1) log) l (Lanes t) (Inlets o) (Inlets t) registry) a
      (subst (λ ds. Did start.set (k + 1) ds (Lanes o) (Lanes t) (Inlets o) (Inlets t) registry) entries did.1))))

-- the seats that were taken in, and before them the first one's own
pub taken-told : {E : Type 0} (log : List (ℕ × E)) (xs olds more : List (ℕ × List E)) → Told log olds → olds ≡ xs ++ more → more ≡ [] → Told log xs
taken-told log xs olds more told is none = subst (Told log) (is ∙ (ap (λ l. xs ++ l) none ∙ append-nil xs)) told
