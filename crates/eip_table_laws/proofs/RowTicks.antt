-- What a tick makes of rows: whoever sleeps until a moment that is not beyond it has an answer to come.
use Rattle.std.proofs.Common.{◌≡◌, ℕ, zero, suc, ◌+◌, Bool, true, false, nat_lt, cond, List, [], ◌∷◌, length, filter, Option, Some, None, refl, sym, ap, subst, ◌∙◌}
use Rattle.std.specs.List.{slice_get}
use Rattle.std.specs.Prelude.{option_map}
use Rattle.eip_exchange.specs.declared.birth.Birth.{Birth}
use Rattle.eip_exchange.specs.declared.end.Fault.{Fault}
use Rattle.eip_route.specs.declared.route.RouteSet.{RouteSet}
use Rattle.eip_frames.specs.declared.request.Request.{Request}
use Rattle.eip_ledger.specs.declared.entry.Entry.{Entry}
use Rattle.eip_ledger.specs.declared.entry.Kind.TheVariants.{Tick}
use Rattle.eip_ledger.specs.declared.place.Place.{Place}
use Rattle.eip_ledger.specs.declared.place.Place.TheVariants as place_is
use Rattle.eip_history.specs.Own.{Past, numbered}
use Rattle.eip_history.specs.Births.{births}
use Rattle.eip_history.specs.Place.{place, place_of}
use Rattle.eip_history.specs.Rules.{KeepsRules, retry_due}
use Rattle.eip_history.specs.Tables.{Related}
use Rattle.eip_history.specs.TableWords.{sleeps, sleep_of}
use Rattle.eip_history.proofs.Unborn.{legal-tail, legal-may}
use Rattle.eip_history.proofs.Places as places
use Rattle.eip_history.proofs.Places.{place-tick}
use Rattle.eip_history.proofs.Clock.{clock-rises}
use Rattle.eip_plan.specs.Plan.{plan_of}
use Rattle.eip_progress.specs.declared.cursor.Cursor.{Cursor}
use Rattle.eip_tables.specs.declared.row.Stage.{Stage}
use Rattle.eip_tables.specs.declared.row.Stage.TheVariants as stage
use Rattle.eip_tables.specs.Row.{Row}
use Rattle.eip_tables.specs.Moves.{woken}
use Rattle.eip_tables.specs.Numbers.{row_count, row_numbers}
use Rattle.eip_tables.specs.State.{State, state_of, state_by, row_outside}
use Rattle.eip_tables.specs.State as state
use Rattle.eip_tables.specs.Sleepers.{SleepersStand, SleepersTold, state_due, row_due, due_in, due_at, roused_by, roused, roused_rows}
use Rattle.eip_tables.specs.Rows.{HasAnswer, RowStands, row_held, row_live, state_held, state_live}
use Rattle.eip_table_laws.proofs.RowPlaces.{Placed, row-place, row-on, row-other, answer-other, pause-placed}
use Rattle.eip_table_laws.proofs.Ending.{woken-known}

-- ---- one row

asleep-fields : (g : Stage) (oc : Option Cursor) (oq : Option Request) (f : Option Fault) (c : Cursor) (i due : ℕ) → state_by g oc oq f ≡ state.Asleep c i due → (g ≡ stage.Asleep i due) × (oc ≡ Some c)
asleep-fields (stage.Asleep j d) (Some e) oq f c i due h = (cc, cc)
asleep-fields stage.Asks (Some d) (Some q) f c i due h = absurd (cc h)
asleep-fields (stage.Held w) (Some d) oq f c i due h = absurd (cc h)
asleep-fields (stage.Joining j) (Some d) oq f c i due h = absurd (cc h)
asleep-fields (stage.Answered j) (Some d) oq f c i due h = absurd (cc h)
asleep-fields stage.Failed oc oq (Some f) c i due h = absurd (cc h)
asleep-fields _ _ _ f c i due h = absurd (cc h)

-- behind its moment it has an answer to come
pub roused-state : (r : Row) (c : Cursor) (i due : ℕ) → state_of r ≡ state.Asleep c i due → state_of (woken r) ≡ state.Answered c i
roused-state r c i due h = let f = asleep-fields r.stage r.cursor r.request r.fault c i due h in rw (f.0, f.1) refl

-- a row that a tick leaves, or wakes
roused-is : (P : Row → Type 0) (now : ℕ) (r : Row) → ((c : Cursor) (i due : ℕ) → state_of r ≡ state.Asleep c i due → nat_lt now due ≡ false → P (woken r)) → P r → P (roused now r)
roused-is P now r wakes stays = by_state (state_of r) refl
  where
    by_moment : (c : Cursor) (i due : ℕ) → state_of r ≡ state.Asleep c i due → (v : Bool) → nat_lt now due ≡ v → P (cond v r (woken r))
    by_moment c i due h true e = stays
    by_moment c i due h false e = wakes c i due h e

    by_state : (g : State) → state_of r ≡ g → P (roused_by now g r)
    by_state (state.Asleep c i due) h = by_moment c i due h (nat_lt now due) refl
    by_state state.Queued h = stays
    by_state state.New h = stays
    by_state (state.Asks c q) h = stays
    by_state (state.Held c w) h = stays
    by_state (state.Joining c i) h = stays
    by_state (state.Answered c i) h = stays
    by_state (state.Ended c) h = stays
    by_state state.Broken h = stays

pub roused-held : (now : ℕ) (r : Row) → row_held (roused now r) ≡ row_held r
roused-held now r = roused-is (λ n. row_held n ≡ row_held r) now r (λ c i due h e. ap state_held (roused-state r c i due h) ∙ sym (ap state_held h)) refl

pub roused-live : (now : ℕ) (r : Row) → row_live (roused now r) ≡ row_live r
roused-live now r = roused-is (λ n. row_live n ≡ row_live r) now r (λ c i due h e. ap state_live (roused-state r c i due h) ∙ sym (ap state_live h)) refl

pub roused-outside : (now : ℕ) (r : Row) → row_outside (roused now r) ≡ row_outside r
roused-outside now r = roused-is (λ n. row_outside n ≡ row_outside r) now r (λ c i due h e. woken-known r.stage r.request) refl

-- ---- rows

pub count-roused : (p : Row → Bool) (now : ℕ) (rows : List Row) → ((r : Row) → p (roused now r) ≡ p r) → row_count p (roused_rows now rows) ≡ row_count p rows
count-roused p now [] h = refl
count-roused p now (r ∷ rows) h =
    let ih = count-roused p now rows h in
    rw (h r) (elim (p r) as (λ v. length (cond v (roused now r ∷ filter p (roused_rows now rows)) (filter p (roused_rows now rows))) ≡ length (cond v (r ∷ filter p rows) (filter p rows))) [ true ↦ ap suc ih | false ↦ ih ])

pub numbers-roused : (p : Row → Bool) (now n : ℕ) (rows : List Row) → ((r : Row) → p (roused now r) ≡ p r) → row_numbers p n (roused_rows now rows) ≡ row_numbers p n rows
numbers-roused p now n [] h = refl
numbers-roused p now n (r ∷ rows) h = rw (h r) (ap (λ xs. cond (p r) (n ∷ xs) xs) (numbers-roused p now (n + 1) rows h))

-- ---- who sleeps, by rows

placed-due : (b : Birth) (g : State) (p : Place) → Placed b g p → state_due g ≡ retry_due p
placed-due b state.Queued p h = sym (ap retry_due h.2)
placed-due b state.New p h = sym (ap retry_due h)
placed-due b (state.Asks c q) p h = sym (ap retry_due h)
placed-due b (state.Held c w) p h = sym (ap retry_due h)
placed-due b (state.Joining c i) p h = sym (ap retry_due h)
placed-due b (state.Asleep c i due) p h = sym (ap retry_due h)
placed-due b (state.Answered c i) p h = sym (ap retry_due h)
placed-due b (state.Ended c) p h = sym (ap retry_due h)
placed-due b state.Broken p h = absurd h

-- until when an exchange sleeps, its row tells
pub row-due : (set : RouteSet) (past : Past) (b : Birth) (r : Row) → RowStands set past b r → row_due r ≡ retry_due (place_of (plan_of set) past b)
row-due set past b r h = placed-due b (state_of r) (place_of (plan_of set) past b) (row-place set past b r h)

module _ (set : RouteSet) (past : Past) where
  abbrev due_birth : Option Birth → Option ℕ
  due_birth (Some b) = retry_due (place_of (plan_of set) past b)
  due_birth None = None

  due-from : (bs : List Birth) (rows : List Row) (i : ℕ) → Related (RowStands set past) bs rows → due_in (slice_get rows i) ≡ due_birth (slice_get bs i)
  due-from [] [] i rel = refl
  due-from [] (r ∷ rows) i rel = absurd rel
  due-from (b ∷ bs) [] i rel = absurd rel
  due-from (b ∷ bs) (r ∷ rows) zero rel = row-due set past b r rel.0
  due-from (b ∷ bs) (r ∷ rows) (suc i) rel = due-from bs rows i rel.1

  sleeps-birth : (x : ℕ) → sleeps (plan_of set) past x ≡ due_birth (numbered (births (plan_of set) past) x)
  unfolding sleeps place
  sleeps-birth x = by_birth (numbered (births (plan_of set) past) x)
    where
      by_birth : (o : Option Birth) → sleep_of (option_map (place_of (plan_of set) past) o) ≡ due_birth o
      by_birth None = refl
      by_birth (Some b) = refl

  -- the rows tell who sleeps
  pub due-is : (rows : List Row) (x : ℕ) → Related (RowStands set past) (births (plan_of set) past) rows → due_at rows x ≡ sleeps (plan_of set) past x
  due-is rows zero rel = sym (sleeps-birth zero)
  due-is rows (suc i) rel = due-from (births (plan_of set) past) rows i rel ∙ sym (sleeps-birth (suc i))

  pub stand-told : (rows : List Row) (sleepers : List (ℕ × ℕ)) → Related (RowStands set past) (births (plan_of set) past) rows → SleepersStand set past sleepers → SleepersTold rows sleepers
  stand-told rows sleepers rel st = record { calls = st.calls; stands = st.stands; moments = λ x. st.moments x ∙ sym (due-is rows x rel) }

  pub told-stand : (rows : List Row) (sleepers : List (ℕ × ℕ)) → Related (RowStands set past) (births (plan_of set) past) rows → SleepersTold rows sleepers → SleepersStand set past sleepers
  told-stand rows sleepers rel st = record { calls = st.calls; stands = st.stands; moments = λ x. st.moments x ∙ due-is rows x rel }

-- ---- a tick

module _ (set : RouteSet) (workers limit w now : ℕ) (past : Past) (legal : KeepsRules (plan_of set) workers limit ((record { worker = w; kind = Tick now }) ∷ past)) where
  abbrev tick : Entry
  tick = record { worker = w; kind = Tick now }

  moved : (b : Birth) → place_of (plan_of set) (tick ∷ past) b ≡ places.woken now (place_of (plan_of set) past b)
  moved b =
      let tail = legal-tail (plan_of set) workers limit tick past legal in
      place-tick (plan_of set) workers limit w now past b tail (clock-rises (plan_of set) workers limit past now tail (legal-may (plan_of set) workers limit tick past legal).2)

  row-woken : (b : Birth) (r : Row) (c : Cursor) (i due : ℕ) → state_of r ≡ state.Asleep c i due → nat_lt now due ≡ false → RowStands set past b r → RowStands set (tick ∷ past) b (woken r)
  row-woken b r c i due is come h =
      let was : HasAnswer set past b c i (place_is.Retry due) = rw is at h.stands in
      let placed : place_of (plan_of set) past b ≡ place_is.Retry due = rw is at (row-place set past b r h) in
      let ready : place_of (plan_of set) (tick ∷ past) b ≡ place_is.Ready = moved b ∙ (ap (places.woken now) placed ∙ ap (λ (v : Bool). cond v (place_is.Retry due) place_is.Ready) come) in
      let behind = roused-state r c i due is in
      let l : row_live r ≡ true = ap state_live is in
      let l' : row_live (woken r) ≡ true = ap state_live behind in
      row-on set tick past b r (woken r) h refl refl refl (l ∙ sym l')
      (rw behind (answer-other set tick past b c i (place_is.Retry due) place_is.Ready refl (pause-placed set tick past b c i (place_is.Retry due) refl was ∙ ready) was))

  stays : (b : Birth) (g : State) (p : Place) → Placed b g p → ((c : Cursor) (i due : ℕ) → g ≡ state.Asleep c i due → nat_lt now due ≡ true) → places.woken now p ≡ p
  stays b state.Queued p h later = rw h.2 refl
  stays b state.New p h later = rw h refl
  stays b (state.Asks c q) p h later = rw h refl
  stays b (state.Held c v) p h later = rw h refl
  stays b (state.Joining c i) p h later = rw h refl
  stays b (state.Asleep c i due) p h later = rw (h, later c i due refl) refl
  stays b (state.Answered c i) p h later = rw h refl
  stays b (state.Ended c) p h later = rw h refl
  stays b state.Broken p h later = absurd h

  row-stays : (b : Birth) (r : Row) → ((c : Cursor) (i due : ℕ) → state_of r ≡ state.Asleep c i due → nat_lt now due ≡ true) → RowStands set past b r → RowStands set (tick ∷ past) b r
  row-stays b r later h =
      row-other set workers limit tick past b r legal refl (moved b ∙ stays b (state_of r) (place_of (plan_of set) past b) (row-place set past b r h) later) h

  -- the row behind the tick
  pub row-ticked : (b : Birth) (r : Row) → RowStands set past b r → RowStands set (tick ∷ past) b (roused now r)
  row-ticked b r h = by_state (state_of r) refl
    where
      by_moment : (c : Cursor) (i due : ℕ) → state_of r ≡ state.Asleep c i due → (v : Bool) → nat_lt now due ≡ v → RowStands set (tick ∷ past) b (cond v r (woken r))
      by_moment c i due is true e = row-stays b r (λ d j m g. let same : due ≡ m = let both = sym is ∙ g in cc in subst (λ (n : ℕ). nat_lt now n ≡ true) same e) h
      by_moment c i due is false e = row-woken b r c i due is e h

      by_state : (g : State) → state_of r ≡ g → RowStands set (tick ∷ past) b (roused_by now g r)
      by_state (state.Asleep c i due) is = by_moment c i due is (nat_lt now due) refl
      by_state state.Queued is = row-stays b r (λ d j m g. absurd (cc (sym is ∙ g))) h
      by_state state.New is = row-stays b r (λ d j m g. absurd (cc (sym is ∙ g))) h
      by_state (state.Asks c q) is = row-stays b r (λ d j m g. absurd (cc (sym is ∙ g))) h
      by_state (state.Held c v) is = row-stays b r (λ d j m g. absurd (cc (sym is ∙ g))) h
      by_state (state.Joining c i) is = row-stays b r (λ d j m g. absurd (cc (sym is ∙ g))) h
      by_state (state.Answered c i) is = row-stays b r (λ d j m g. absurd (cc (sym is ∙ g))) h
      by_state (state.Ended c) is = row-stays b r (λ d j m g. absurd (cc (sym is ∙ g))) h
      by_state state.Broken is = row-stays b r (λ d j m g. absurd (cc (sym is ∙ g))) h

  pub rows-ticked : (bs : List Birth) (rows : List Row) → Related (RowStands set past) bs rows → Related (RowStands set (tick ∷ past)) bs (roused_rows now rows)
  rows-ticked [] [] rel = tt
  rows-ticked [] (r ∷ rows) rel = absurd rel
  rows-ticked (b ∷ bs) [] rel = absurd rel
  rows-ticked (b ∷ bs) (r ∷ rows) rel = (row-ticked b r rel.0, rows-ticked bs rows rel.1)
