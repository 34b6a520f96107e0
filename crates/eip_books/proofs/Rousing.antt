-- Whom a tick wakes, one sleeper after the other.
use Rattle.std.proofs.Common.{◌≡◌, ℕ, zero, suc, ◌+◌, ◌-◌, ◌<◌, ◌≤◌, ◌==◌, Bool, true, false, nat_lt, cond, List, [], ◌∷◌, length, set as put_at, Option, Some, None, is_some, inl, inr, refl, sym, ap, subst, ◌∙◌, arith, eq-eqb}
use Rattle.std.specs.List.{slice_get}
use Rattle.std.proofs.lemmas.Bool.{cases_Bool, eqb-true, lt-ltb, ltb-true}
use Rattle.std.proofs.lemmas.Option.{slice_get_within}
use Rattle.eip_redelivery.specs.Sleep as sleep
use Rattle.eip_redelivery.specs.Sleep.{Woke, IsFirstSleeper}
use Rattle.eip_history.specs.Tables.{bit, put_in}
use Rattle.eip_progress.specs.declared.cursor.Cursor.{Cursor}
use Rattle.eip_tables.specs.Row.{Row}
use Rattle.eip_tables.specs.Moves.{woken}
use Rattle.eip_tables.specs.Numbers.{row_numbers, row_count}
use Rattle.eip_tables.specs.Parts.{rows_behind, woken_at}
use Rattle.eip_tables.specs.Rows.{row_ready, row_live, state_ready, state_live}
use Rattle.eip_tables.specs.Sleepers.{SleepersTold, state_due, row_due, due_in, due_at, roused_by, roused, roused_rows}
use Rattle.eip_tables.specs.State.{State, state_of}
use Rattle.eip_tables.specs.State as state
use Rattle.eip_table_laws.proofs.Bounds.{ready-counts}
use Rattle.eip_table_laws.proofs.RowNumbers.{numbers-join, count-set}
use Rattle.eip_table_laws.proofs.RowTicks.{roused-state}
use Rattle.eip_table_laws.proofs.SourceEvents.{get-set-same, get-set-other}

abbrev pub row_asleep : Row → Bool
row_asleep r = is_some (row_due r)

-- who sleeps has a row that says until when
pub record HasSleeper (rows : List Row) (x due : ℕ) : Type 0 where
  pub above : 0 < x
  pub within : x ≤ length rows
  pub row : Row
  pub at : slice_get rows (x - 1) ≡ Some row
  pub cursor : Cursor
  pub entry : ℕ
  pub asleep : state_of row ≡ state.Asleep cursor entry due

asleep-by : (g : State) (due : ℕ) → state_due g ≡ Some due → (c : Cursor) × (i : ℕ) × (g ≡ state.Asleep c i due)
asleep-by (state.Asleep c i d) due h = let same : d ≡ due = cc in (c, i, ap (state.Asleep c i) same)
asleep-by state.Queued due h = absurd (cc h)
asleep-by state.New due h = absurd (cc h)
asleep-by (state.Asks c q) due h = absurd (cc h)
asleep-by (state.Held c w) due h = absurd (cc h)
asleep-by (state.Joining c i) due h = absurd (cc h)
asleep-by (state.Answered c i) due h = absurd (cc h)
asleep-by (state.Ended c) due h = absurd (cc h)
asleep-by state.Broken due h = absurd (cc h)

pub sleeper-row : (rows : List Row) (x due : ℕ) → due_at rows x ≡ Some due → HasSleeper rows x due
sleeper-row rows zero due h = absurd (cc h)
sleeper-row rows (suc i) due h = by_row (slice_get rows i) refl
  where
    by_row : (o : Option Row) → slice_get rows i ≡ o → HasSleeper rows (suc i) due
    by_row None e = absurd (let g : None ≡ Some due = ap due_in (sym e) ∙ h in cc g)
    by_row (Some r) e =
        let g : state_due (state_of r) ≡ Some due = ap due_in (sym e) ∙ h in
        let k = asleep-by (state_of r) due g in
        let before : suc i - 1 ≡ i = omega arith in
        record { above = omega arith; within = (let l = slice_get_within rows i r e in omega (arith, l)); row = r; at = rw before e; cursor = k.0; entry = k.1; asleep = k.2 }

-- the sleeper that is woken at a tick
pub first-one : (rows : List Row) (sleepers : List (ℕ × ℕ)) (told : SleepersTold rows sleepers) (now x : ℕ) → IsFirstSleeper told.calls now (Some x) → (due : ℕ) × (due ≤ now) × HasSleeper rows x due
first-one rows sleepers told now x is = (is.0, is.2, sleeper-row rows x is.0 (sym (told.moments x) ∙ is.1))

length-put_in : (x : ℕ) (xs : List ℕ) → length (put_in x xs) ≡ suc (length xs)
length-put_in x [] = refl
length-put_in x (y ∷ ys) = elim (nat_lt x y) as (λ v. length (cond v (x ∷ (y ∷ ys)) (y ∷ put_in x ys)) ≡ suc (suc (length ys))) [ true ↦ refl | false ↦ ap suc (length-put_in x ys) ]

-- ---- one sleeper wakes

module _ (rows : List Row) (x due now : ℕ) (one : HasSleeper rows x due) (come : due ≤ now) where
  abbrev behind : List Row
  behind = put_at rows (x - 1) (woken one.row)

  now-answered : state_of (woken one.row) ≡ state.Answered one.cursor one.entry
  now-answered = roused-state one.row one.cursor one.entry due one.asleep

  pub woken-rows : rows_behind (Some x) rows ≡ put_at rows (x - 1) (woken one.row)
  woken-rows = ap (λ (o : Option Row). woken_at o (x - 1) rows) one.at

  pub woken-numbers : row_numbers row_ready 1 (put_at rows (x - 1) (woken one.row)) ≡ put_in x (row_numbers row_ready 1 rows)
  woken-numbers =
      let number : 1 + (x - 1) ≡ x = omega (arith, one.above) in
      rw number at (numbers-join row_ready 1 rows (x - 1) one.row (woken one.row) one.at (ap state_ready one.asleep) (ap state_ready now-answered))

  pub woken-live : row_count row_live (put_at rows (x - 1) (woken one.row)) ≡ row_count row_live rows
  woken-live =
      let k = count-set row_live rows (x - 1) one.row (woken one.row) one.at in
      let a = ap bit (ap state_live one.asleep) in
      let b = ap bit (ap state_live now-answered) in
      omega (arith, k, a, b)

  -- there are fewer Ready numbers than exchanges that live
  pub room-for : length (row_numbers row_ready 1 rows) < row_count row_live rows
  room-for =
      let n = ap length woken-numbers ∙ length-put_in x (row_numbers row_ready 1 rows) in
      omega (arith, n, ready-counts 1 (put_at rows (x - 1) (woken one.row)), woken-live)

  pub fewer-asleep : row_count row_asleep (put_at rows (x - 1) (woken one.row)) < row_count row_asleep rows
  fewer-asleep =
      let k = count-set row_asleep rows (x - 1) one.row (woken one.row) one.at in
      let a = ap (λ (g : State). bit (is_some (state_due g))) one.asleep in
      let b = ap (λ (g : State). bit (is_some (state_due g))) now-answered in
      omega (arith, k, a, b)

  wakes-now : roused now one.row ≡ woken one.row
  wakes-now = ap (λ (g : State). roused_by now g one.row) one.asleep ∙ ap (λ (v : Bool). cond v one.row (woken one.row)) (not-beyond now due come)
    where
      not-beyond : (now due : ℕ) → due ≤ now → nat_lt now due ≡ false
      not-beyond now due l = elim (cases_Bool (nat_lt now due)) [ inl t ↦ absurd (let h = ltb-true now due t in omega (arith, h, l)) | inr f ↦ f ]

  stays-woken : roused now (woken one.row) ≡ woken one.row
  stays-woken = ap (λ (g : State). roused_by now g (woken one.row)) now-answered

  -- whom a tick wakes is who it wakes behind this
  pub woken-roused : roused_rows now (put_at rows (x - 1) (woken one.row)) ≡ roused_rows now rows
  woken-roused = in-rows rows (x - 1) one.at
    where
      in-rows : (rs : List Row) (i : ℕ) → slice_get rs i ≡ Some one.row → roused_rows now (put_at rs i (woken one.row)) ≡ roused_rows now rs
      in-rows [] i at = absurd (cc at)
      in-rows (r ∷ rs) zero at = let same : r ≡ one.row = cc in ap (λ (q : Row). q ∷ roused_rows now rs) (stays-woken ∙ (sym wakes-now ∙ ap (roused now) (sym same)))
      in-rows (r ∷ rs) (suc i) at = ap (λ (qs : List Row). roused now r ∷ qs) (in-rows rs i at)

  pub woken-told : (old new : List (ℕ × ℕ)) (told : SleepersTold rows old) → sleep.Stands (Woke x ∷ told.calls) new → SleepersTold (put_at rows (x - 1) (woken one.row)) new
  woken-told old new told stands = record { calls = Woke x ∷ told.calls; stands = stands; moments = moments }
    where
      moments : (y : ℕ) → sleep.sleeps (Woke x ∷ told.calls) y ≡ due_at (put_at rows (x - 1) (woken one.row)) y
      moments y = elim (cases_Bool (x == y)) [
        | inl t ↦ ap (λ (v : Bool). cond v None (sleep.sleeps told.calls y)) t ∙ sym (subst (λ (n : ℕ). due_at (put_at rows (x - 1) (woken one.row)) n ≡ None) (eqb-true x y t) here)
        | inr f ↦ ap (λ (v : Bool). cond v None (sleep.sleeps told.calls y)) f ∙ (told.moments y ∙ sym (other y (λ same. let k = eq-eqb x y same in let g = sym k ∙ f in cc g)))
      ]
        where
          here : due_at (put_at rows (x - 1) (woken one.row)) x ≡ None
          here = at-number x one.above (get-set-same rows (x - 1) (woken one.row) (omega (arith, one.above, one.within)))
            where
              at-number : (n : ℕ) → 0 < n → slice_get (put_at rows (x - 1) (woken one.row)) (n - 1) ≡ Some (woken one.row) → due_at (put_at rows (x - 1) (woken one.row)) n ≡ None
              at-number zero l h = absurd (omega (arith, l))
              at-number (suc i) l h = let e : suc i - 1 ≡ i = omega arith in ap due_in (rw e at h) ∙ ap state_due now-answered

          other : (n : ℕ) → (x ≡ n → ⊥) → due_at (put_at rows (x - 1) (woken one.row)) n ≡ due_at rows n
          other zero ne = refl
          other (suc i) ne = ap due_in (get-set-other rows (x - 1) i (woken one.row) (λ same. ne (omega (arith, same, one.above))))

-- ---- nobody is left

none-roused : (now : ℕ) (rows : List Row) → ((i : ℕ) (r : Row) → slice_get rows i ≡ Some r → roused now r ≡ r) → roused_rows now rows ≡ rows
none-roused now [] h = refl
none-roused now (r ∷ rows) h = rw (h 0 r refl) (ap (λ (qs : List Row). r ∷ qs) (none-roused now rows (λ i q at. h (suc i) q at)))

later-stays : (now : ℕ) (r : Row) (g : State) → ((due : ℕ) → state_due g ≡ Some due → now < due) → roused_by now g r ≡ r
later-stays now r (state.Asleep c i due) h = ap (λ (v : Bool). cond v r (woken r)) (lt-ltb now due (h due refl))
later-stays now r state.Queued h = refl
later-stays now r state.New h = refl
later-stays now r (state.Asks c q) h = refl
later-stays now r (state.Held c w) h = refl
later-stays now r (state.Joining c i) h = refl
later-stays now r (state.Answered c i) h = refl
later-stays now r (state.Ended c) h = refl
later-stays now r state.Broken h = refl

-- where no moment has come, a tick wakes nobody
pub all-roused : (now : ℕ) (rows : List Row) (sleepers : List (ℕ × ℕ)) (told : SleepersTold rows sleepers) → IsFirstSleeper told.calls now None → roused_rows now rows ≡ rows
all-roused now rows sleepers told none =
    none-roused now rows (λ i r at. later-stays now r (state_of r) (λ due h. none (suc i) due (told.moments (suc i) ∙ (ap due_in at ∙ h))))
