-- The tables behind the entry by which a copy leaves its queue.
use Rattle.std.proofs.Common.{◌≡◌, ℕ, suc, ◌+◌, ◌-◌, ◌<◌, ◌≤◌, true, false, List, ◌∷◌, length, set as put_at, Option, Some, None, refl, sym, ap, subst, ◌∙◌, arith, add-zero}
use Rattle.std.specs.List.{slice_get}
use Rattle.std.proofs.lemmas.List.{append-nil}
use Rattle.eip_exchange.specs.declared.birth.Birth.{Birth}
use Rattle.eip_exchange.specs.declared.end.Fault.{Fault}
use Rattle.eip_route.specs.declared.route.RouteSet.{RouteSet}
use Rattle.eip_frames.specs.declared.request.Request.{Request}
use Rattle.eip_ledger.specs.declared.entry.Kind.TheVariants.{Start}
use Rattle.eip_ledger.specs.declared.place.Place.{Place}
use Rattle.eip_seda.specs.Consuming.{QueueView}
use Rattle.eip_history.specs.Own.{Past, numbered}
use Rattle.eip_history.specs.Births.{births}
use Rattle.eip_history.specs.Place.{place, place_of, is_in}
use Rattle.eip_history.specs.Rules.{KeepsRules, May}
use Rattle.eip_history.specs.Tables.{put_in}
use Rattle.eip_history.proofs.Unborn.{first-placed}
use Rattle.eip_plan.specs.Plan.{plan_of}
use Rattle.eip_progress.specs.declared.cursor.Cursor.{Cursor}
use Rattle.eip_tables.specs.declared.row.Stage.{Stage}
use Rattle.eip_tables.specs.declared.row.Stage.TheVariants as stage
use Rattle.eip_tables.specs.Row.{Row}
use Rattle.eip_tables.specs.Moves.{started}
use Rattle.eip_tables.specs.State.{State, state_of, state_by, asks_outside, row_outside}
use Rattle.eip_tables.specs.State as state
use Rattle.eip_tables.specs.Rows.{IsWaiting, IsUnasked, row_ready, row_held, row_live, state_ready, state_held, state_live}
use Rattle.eip_tables.specs.Queues.{QueuesStand}
use Rattle.eip_tables.specs.Stands.{Tables, Stands}
use Rattle.eip_table_laws.proofs.RowNumbers.{numbers-join}
use Rattle.eip_table_laws.proofs.RowPlaces.{Placed, row-place, row-on}
use Rattle.eip_table_laws.proofs.RowSteps.{unasked-started}
use Rattle.eip_table_laws.proofs.JoinsKept.{joins-stay}
use Rattle.eip_table_laws.proofs.SleepersKept.{sleepers-stay}
use Rattle.eip_table_laws.proofs.KeysKept.{keys-stay}
use Rattle.eip_table_laws.proofs.OwnEvents.{stands-one, of-start, apart-quiet}
use Rattle.eip_table_laws.proofs.OwnCalls.{IsAt, is-at, row-within, placed-some}
use Rattle.eip_table_laws.proofs.HandCalls.{place-at}

-- who stands in a queue has a row that waits
waiting-state : (b : Birth) (g : State) (p : Place) (q : ℕ) → Placed b g p → is_in q p ≡ true → g ≡ state.Queued
waiting-state b state.Queued p q h i = refl
waiting-state b state.New p q h i = absurd (cc (sym (ap (is_in q) h) ∙ i))
waiting-state b (state.Asks c r) p q h i = absurd (cc (sym (ap (is_in q) h) ∙ i))
waiting-state b (state.Held c w) p q h i = absurd (cc (sym (ap (is_in q) h) ∙ i))
waiting-state b (state.Joining c j) p q h i = absurd (cc (sym (ap (is_in q) h) ∙ i))
waiting-state b (state.Asleep c j due) p q h i = absurd (cc (sym (ap (is_in q) h) ∙ i))
waiting-state b (state.Answered c j) p q h i = absurd (cc (sym (ap (is_in q) h) ∙ i))
waiting-state b (state.Ended c) p q h i = absurd (cc (sym (ap (is_in q) h) ∙ i))
waiting-state b state.Broken p q h i = absurd h

queued-not-outside : (g : Stage) (oc : Option Cursor) (oq : Option Request) (f : Option Fault) → state_by g oc oq f ≡ state.Queued → asks_outside g oq ≡ false
queued-not-outside stage.Asks (Some c) (Some q) f h = absurd (cc h)
queued-not-outside stage.Asks (Some c) None f h = absurd (cc h)
queued-not-outside stage.Asks None oq f h = absurd (cc h)
queued-not-outside _ oc oq f h = refl

module _ {routes : RouteSet} {workers limit : ℕ} {past : Past} (t : Tables) (w q x : ℕ) (st : Stands routes workers limit past t) (lw : w ≤ workers)
    (may : May (plan_of routes) limit past w (Start q x)) where
  in-queue : (b : Birth) × (numbered (births (plan_of routes) past) x ≡ Some b) × (is_in q (place_of (plan_of routes) past b) ≡ true)
  in-queue = first-placed (plan_of routes) past (is_in q) x may.0

  placed : place (plan_of routes) past x ≡ Some (place_of (plan_of routes) past in-queue.0)
  placed = place-at (plan_of routes) past x in-queue.0 (place_of (plan_of routes) past in-queue.0) in-queue.1 refl

  -- it has a row
  pub start-within : (0 < x) × (x ≤ length t.rows)
  start-within = row-within t x (place_of (plan_of routes) past in-queue.0) st placed

  pub start-some : (r : Row) × (slice_get t.rows (x - 1) ≡ Some r)
  start-some = placed-some t x (place_of (plan_of routes) past in-queue.0) st placed

  module _ (r : Row) (row : slice_get t.rows (x - 1) ≡ Some r) where
    here : IsAt routes past x r (place_of (plan_of routes) past in-queue.0)
    here = is-at t x (place_of (plan_of routes) past in-queue.0) r st placed row

    above : suc (x - 1) ≡ x
    above = omega (arith, start-within.0)

    waits : state_of r ≡ state.Queued
    waits =
        let p = row-place routes past here.birth r here.stands in
        waiting-state here.birth (state_of r) (place_of (plan_of routes) past here.birth) q p (ap (is_in q) here.placed ∙ in-queue.2)

    -- nobody knows what it asks
    pub waits-not-outside : row_outside r ≡ false
    waits-not-outside = queued-not-outside r.stage r.cursor r.request r.fault waits

    number-of : (b : Birth) → slice_get (births (plan_of routes) past) (x - 1) ≡ Some b → b.number ≡ x
    number-of b at =
        let at' : slice_get (births (plan_of routes) past) (x - 1) ≡ Some here.birth = subst (λ (n : ℕ). numbered (births (plan_of routes) past) n ≡ Some here.birth) (sym above) here.at in
        let same : here.birth ≡ b = cc in
        ap (λ (d : Birth). d.number) (sym same) ∙ here.number

    pub stands-start : (queues : List QueueView) → (KeepsRules (plan_of routes) workers limit ((record { worker = w; kind = Start q x }) ∷ past) → QueuesStand routes ((record { worker = w; kind = Start q x }) ∷ past) queues)
        → Stands routes workers limit ((record { worker = w; kind = Start q x }) ∷ past) (record t { rows = put_at t.rows (x - 1) (started r); ready = put_in x t.ready; queues = queues })
    stands-start queues queues_are =
        let number : 1 + (x - 1) ≡ x = omega (arith, start-within.0) in
        let b : row_held r ≡ false = ap state_held waits in
        let l : row_live r ≡ true = ap state_live waits in
        rw (append-nil t.notes, add-zero t.turns) at
        (stands-one routes workers limit past t w x (x - 1) (Start q x) r (started r) (put_in x t.ready) t.taken t.live queues t.joins t.sleepers t.keys st lw may (of-start w q x) refl above row
        (λ legal. apart-quiet routes workers limit w x (Start q x) past legal (of-start w q x) refl refl)
        (λ d d_at h.
        row-on routes (record { worker = w; kind = Start q x }) past d r (started r) h refl refl refl l
        (let g : IsWaiting past d = rw waits at h.stands in
        subst (λ (n : ℕ). IsUnasked ((record { worker = w; kind = Start q n }) ∷ past) d) (number-of d d_at) (unasked-started past w q d g.none)))
        (ap (put_in x) st.ready ∙ sym (rw number at (numbers-join row_ready 1 t.rows (x - 1) r (started r) row (ap state_ready waits) refl)))
        (rw b refl) (rw l refl) queues_are (λ legal. joins-stay routes workers limit w (Start q x) past t.joins legal refl st.joins)
        (λ legal. sleepers-stay routes workers limit w (Start q x) past t.sleepers legal refl st.sleepers) refl (keys-stay routes w (Start q x) past t.keys refl st.keys))
