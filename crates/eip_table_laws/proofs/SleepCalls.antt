-- The tables behind the answer to an exchange that asks to wait.
use Rattle.std.proofs.Common.{◌≡◌, ℕ, suc, ◌+◌, ◌-◌, ◌≤◌, nat_lt, true, false, List, [], ◌∷◌, length, set as put_at, Some, None, refl, sym, ap, subst, ◌∙◌, arith}
use Rattle.std.specs.List.{slice_get}
use Rattle.std.proofs.lemmas.List.{append-nil}
use Rattle.eip_exchange.specs.declared.birth.Birth.{Birth}
use Rattle.eip_route.specs.declared.route.RouteSet.{RouteSet}
use Rattle.eip_frames.specs.declared.request.Request.TheVariants as request
use Rattle.eip_frames.specs.declared.answer.Answer.{Answer as Reply}
use Rattle.eip_frames.specs.declared.answer.Answer.TheVariants as reply
use Rattle.eip_ledger.specs.declared.entry.Kind.TheVariants.{Answer}
use Rattle.eip_ledger.specs.declared.place.Place.{Place}
use Rattle.eip_ledger.specs.declared.place.Place.TheVariants as place_is
use Rattle.eip_redelivery.specs.Sleep as sleep
use Rattle.eip_redelivery.specs.Sleep.{Call, Slept, IsAwake}
use Rattle.eip_history.specs.Own.{Past, clock, numbered}
use Rattle.eip_history.specs.Births.{Asked, births, asked}
use Rattle.eip_history.specs.Place.{place, ended, paused, pause_of, all_ended}
use Rattle.eip_history.specs.Rules.{May, IsBelow}
use Rattle.eip_history.specs.Tables.{without}
use Rattle.eip_history.proofs.Places.{clock-same}
use Rattle.eip_plan.specs.Plan.{plan_of}
use Rattle.eip_progress.specs.declared.cursor.Cursor.{Cursor}
use Rattle.eip_tables.specs.Row.{Row}
use Rattle.eip_tables.specs.Moves.{answered, sleeping, ticks_asked}
use Rattle.eip_tables.specs.Sleepers.{due_moment}
use Rattle.eip_tables.specs.State as state
use Rattle.eip_tables.specs.State.{state_of}
use Rattle.eip_tables.specs.Rows.{RowStands, IsAsking, HasAnswer, row_ready, row_held, row_live, state_ready, state_held, state_live}
use Rattle.eip_tables.specs.Stands.{Tables, Stands}
use Rattle.eip_table_laws.proofs.RowNumbers.{numbers-stay, numbers-leave}
use Rattle.eip_table_laws.proofs.RowPlaces.{row-on, fate-asks}
use Rattle.eip_table_laws.proofs.RowSteps.{has-answer}
use Rattle.eip_table_laws.proofs.PartFacts.{unopened, answer-lives}
use Rattle.eip_table_laws.proofs.JoinsKept.{joins-on}
use Rattle.eip_table_laws.proofs.SleepersKept.{is-awake, sleepers-asleep, sleepers-awake}
use Rattle.eip_table_laws.proofs.KeysKept.{keys-on}
use Rattle.eip_table_laws.proofs.QueueCalls.{queues-on}
use Rattle.eip_table_laws.proofs.OwnEvents.{stands-one, apart-lives, notes_in, of-answer}
use Rattle.eip_table_laws.proofs.OwnCalls.{IsAt, is-at, row-within, asked-by-fate, asks-fields}

module _ {routes : RouteSet} {workers limit : ℕ} {past : Past} (t : Tables) (w x : ℕ) (st : Stands routes workers limit past t) (lw : w ≤ workers) (c : Cursor) (r : Row)
    (ready : place (plan_of routes) past x ≡ Some place_is.Ready) (row : slice_get t.rows (x - 1) ≡ Some r) (ticks : ℕ) (asks : state_of r ≡ state.Asks c (request.Wait ticks)) where
  here : IsAt routes past x r place_is.Ready
  here = is-at t x place_is.Ready r st ready row

  above : suc (x - 1) ≡ x
  above = let h = row-within t x place_is.Ready st ready in omega (arith, h.0)

  number-of : (b : Birth) → slice_get (births (plan_of routes) past) (x - 1) ≡ Some b → b.number ≡ x
  number-of b at =
      let there : slice_get (births (plan_of routes) past) (x - 1) ≡ Some here.birth = subst (λ (n : ℕ). numbered (births (plan_of routes) past) n ≡ Some here.birth) (sym above) here.at in
      let two : Some here.birth ≡ Some b = sym there ∙ at in
      let same : here.birth ≡ b = cc in
      ap (λ (d : Birth). d.number) (sym same) ∙ here.number

  asking : IsAsking routes past here.birth c (request.Wait ticks) None
  asking = rw asks at here.stands.stands

  abbrev waits : Asked
  waits = record { birth = here.birth; request = request.Wait ticks; at = asking.at }

  asked-here : asked (plan_of routes) past x ≡ Some (record { birth = here.birth; request = request.Wait ticks; at = asking.at })
  asked-here = asked-by-fate routes past x here.birth (request.Wait ticks) asking.at here.at (fate-asks routes past here.birth c (request.Wait ticks) None asking)

  -- how long it asks to wait
  pub wait-ticks : ticks_asked r.request ≡ Some ticks
  wait-ticks = let f = asks-fields r.stage r.cursor r.request r.fault c (request.Wait ticks) asks in ap ticks_asked f.1

  -- nobody wakes it
  pub wait-awake : IsAwake x t.sleepers
  wait-awake = is-awake x ready st.sleepers

  slept-lives : (due : ℕ) → ended (plan_of routes) ((record { worker = w; kind = Answer x (reply.Slept due) }) ∷ past) x ≡ None
  slept-lives due = answer-lives routes w x (reply.Slept due) past waits asked-here (λ h. cc h) (λ h. cc h)

  -- its answer, and where it leaves it
  has-slept : (due : ℕ) (p : Place) (d : Birth) → slice_get (births (plan_of routes) past) (x - 1) ≡ Some d
      → paused (clock past) (all_ended (plan_of routes) ((record { worker = w; kind = Answer x (reply.Slept due) }) ∷ past)) (pause_of (Some (reply.Slept due))) ≡ p → RowStands routes past d r
      → HasAnswer routes ((record { worker = w; kind = Answer x (reply.Slept due) }) ∷ past) d c (length past) p
  has-slept due p d d_at left h =
      let number = number-of d d_at in
      let now = clock-same (record { worker = w; kind = Answer x (reply.Slept due) }) past (λ n. refl) in
      subst (λ (n : ℕ). HasAnswer routes ((record { worker = w; kind = Answer n (reply.Slept due) }) ∷ past) d c (length past) p) number
      (has-answer routes past w d c (request.Wait ticks) (reply.Slept due) None p
      (subst (λ (n : ℕ). paused (clock ((record { worker = w; kind = Answer n (reply.Slept due) }) ∷ past)) (all_ended (plan_of routes) ((record { worker = w; kind = Answer n (reply.Slept due) }) ∷ past)) (pause_of (Some (reply.Slept due))) ≡ p) (sym number) (rw now left))
      tt refl (rw asks at h.stands))

  module _ (below : IsBelow (plan_of routes) limit past) (due : ℕ) (is : due ≡ due_moment t.clock ticks) where
    may-sleep : May (plan_of routes) limit past w (Answer x (reply.Slept due))
    may-sleep = record {
      asks = waits;
      asked_is = asked-here;
      fitting = refl;
      act = (ready, below);
      content = is ∙ ap (λ (n : ℕ). due_moment n ticks) st.clock;
    }

    none-written : notes_in (plan_of routes) past w (Answer x (reply.Slept due)) ≡ []
    none-written = rw asked-here refl

    was-ready : row_ready r ≡ true
    was-ready = ap state_ready asks

    was-held : row_held r ≡ false
    was-held = ap state_held asks

    was-live : row_live r ≡ true
    was-live = ap state_live asks

    -- it sleeps
    now-asleep : state_of (sleeping (length past) due r) ≡ state.Asleep c (length past) due
    now-asleep = let f = asks-fields r.stage r.cursor r.request r.fault c (request.Wait ticks) asks in rw f.0 refl

    pub stands-asleep : (sleepers : List (ℕ × ℕ)) → nat_lt t.clock due ≡ true → ((calls : List Call) → sleep.Stands calls t.sleepers → sleep.Stands (Slept x due ∷ calls) sleepers)
        → Stands routes workers limit ((record { worker = w; kind = Answer x (reply.Slept due) }) ∷ past)
        (record t { rows = put_at t.rows (x - 1) (sleeping (length past) due r); ready = without x t.ready; turns = t.turns + 1; sleepers = sleepers })
    stands-asleep sleepers ahead slept =
        let a : Reply = reply.Slept due in
        let new : Row = sleeping (length past) due r in
        let number : 1 + (x - 1) ≡ x = omega (arith, above) in
        let later : nat_lt (clock past) due ≡ true = rw st.clock at ahead in
        let h : row_held new ≡ false = ap state_held now-asleep in
        let l : row_live new ≡ true = ap state_live now-asleep in
        let lives = slept-lives due in
        rw (none-written, append-nil t.notes) at
        (stands-one routes workers limit past t w x (x - 1) (Answer x a) r new (without x t.ready) t.taken t.live t.queues t.joins sleepers t.keys st lw may-sleep (of-answer w x a tt) refl above row
        (λ legal. apart-lives routes workers limit w x (Answer x a) past legal (of-answer w x a tt) lives)
        (λ d d_at g. row-on routes (record { worker = w; kind = Answer x a }) past d r new g refl refl refl (was-live ∙ sym l) (rw now-asleep (has-slept due (place_is.Retry due) d d_at (rw later refl) g)))
        (ap (without x) st.ready ∙ sym (rw number at (numbers-leave row_ready 1 t.rows (x - 1) new (ap state_ready now-asleep))))
        (rw (was-held, h) refl) (rw (was-live, l) refl)
        (λ legal. queues-on routes workers limit w x a past here.birth t.queues legal refl here.at lives st.queues)
        (λ legal. joins-on routes workers limit w x a past legal lives refl (unopened routes past x waits asked-here tt) st.joins)
        (λ legal. sleepers-asleep routes workers limit w x due past legal lives sleepers later slept st.sleepers) refl (keys-on routes w x a past t.keys refl lives st.keys))

    -- its moment is not beyond the clock, so it goes on
    now-awake : state_of (answered (length past) r) ≡ state.Answered c (length past)
    now-awake = let f = asks-fields r.stage r.cursor r.request r.fault c (request.Wait ticks) asks in rw f.0 refl

    pub stands-awake : nat_lt t.clock due ≡ false
        → Stands routes workers limit ((record { worker = w; kind = Answer x (reply.Slept due) }) ∷ past)
        (record t { rows = put_at t.rows (x - 1) (answered (length past) r); turns = t.turns + 1 })
    stands-awake come =
        let a : Reply = reply.Slept due in
        let new : Row = answered (length past) r in
        let passed : nat_lt (clock past) due ≡ false = rw st.clock at come in
        let h : row_held new ≡ false = ap state_held now-awake in
        let l : row_live new ≡ true = ap state_live now-awake in
        let lives = slept-lives due in
        rw (none-written, append-nil t.notes) at
        (stands-one routes workers limit past t w x (x - 1) (Answer x a) r new t.ready t.taken t.live t.queues t.joins t.sleepers t.keys st lw may-sleep (of-answer w x a tt) refl above row
        (λ legal. apart-lives routes workers limit w x (Answer x a) past legal (of-answer w x a tt) lives)
        (λ d d_at g. row-on routes (record { worker = w; kind = Answer x a }) past d r new g refl refl refl (was-live ∙ sym l) (rw now-awake (has-slept due place_is.Ready d d_at (rw passed refl) g)))
        (st.ready ∙ sym (numbers-stay row_ready 1 t.rows (x - 1) r new row (was-ready ∙ sym (ap state_ready now-awake))))
        (rw (was-held, h) refl) (rw (was-live, l) refl)
        (λ legal. queues-on routes workers limit w x a past here.birth t.queues legal refl here.at lives st.queues)
        (λ legal. joins-on routes workers limit w x a past legal lives refl (unopened routes past x waits asked-here tt) st.joins)
        (λ legal. sleepers-awake routes workers limit w x due past legal lives passed ready st.sleepers) refl (keys-on routes w x a past t.keys refl lives st.keys))
