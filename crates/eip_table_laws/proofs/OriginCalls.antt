-- Where an exchange comes from and how it ended, by its row.
use Rattle.std.proofs.Common.{◌≡◌, ℕ, zero, suc, ◌-◌, ◌<◌, ◌≤◌, List, length, reverse, Option, Some, None, refl, sym, ap, ◌∙◌, arith}
use Rattle.std.specs.Prelude.{option_map}
use Rattle.std.specs.List.{slice_get}
use Rattle.eip_exchange.specs.declared.birth.Birth.{Birth}
use Rattle.eip_exchange.specs.declared.end.Fault.{Fault}
use Rattle.eip_route.specs.declared.route.RouteSet.{RouteSet}
use Rattle.eip_frames.specs.declared.request.Request.{Request}
use Rattle.eip_ledger.specs.declared.place.Place.{Place}
use Rattle.eip_progress.specs.declared.cursor.Cursor.{Cursor}
use Rattle.eip_history.specs.Own.{Past, numbered}
use Rattle.eip_history.specs.Births.{births}
use Rattle.eip_history.specs.Place.{place, place_of}
use Rattle.eip_history.specs.BookText.{origin_of, origin_at}
use Rattle.eip_history.proofs.Lists.{related-at, slice_get-some}
use Rattle.eip_plan.specs.Plan.{plan_of}
use Rattle.eip_tables.specs.declared.row.Born.{Born}
use Rattle.eip_tables.specs.declared.row.Born.TheVariants as made
use Rattle.eip_tables.specs.declared.row.Stage.{Stage}
use Rattle.eip_tables.specs.declared.row.Stage.TheVariants as stage
use Rattle.eip_tables.specs.Row.{Row}
use Rattle.eip_tables.specs.State.{state_by}
use Rattle.eip_tables.specs.Rows.{ComesFrom, RowStands, entry_at}
use Rattle.eip_tables.specs.Stands.{Tables, Stands}
use Rattle.eip_tables.specs.Origin.{origin_in, origin_born, ending_at, stage_ending}
use Rattle.eip_table_laws.proofs.RowPlaces.{Placed, row-place, born-origin}
use Rattle.eip_table_laws.proofs.Bounds.{rows-are}
use Rattle.eip_table_laws.proofs.StopCalls.{beyond, place-zero, place-beyond, place-here}

numbered-here : {A : Type 0} (xs : List A) (x : ℕ) (b : A) → 0 < x → slice_get xs (x - 1) ≡ Some b → numbered xs x ≡ Some b
numbered-here xs zero b l at = absurd (omega (arith, l))
numbered-here xs (suc i) b l at = let same : suc i - 1 ≡ i = omega arith in rw same at at

numbered-beyond : {A : Type 0} (xs : List A) (x : ℕ) → length xs < x → numbered xs x ≡ None
numbered-beyond xs zero l = refl
numbered-beyond xs (suc i) l = beyond xs i (omega (arith, l))

-- a state's place ends as its stage does
ending-by : (b : Birth) (p : Place) (g : Stage) (oc : Option Cursor) (oq : Option Request) (f : Option Fault) → Placed b (state_by g oc oq f) p → stage_ending g ≡ ending_at (Some p)
ending-by b p stage.Queued oc oq f h = rw h.2 refl
ending-by b p stage.New oc oq f h = rw h refl
ending-by b p stage.Asks (Some c) (Some q) f h = rw h refl
ending-by b p stage.Asks (Some c) None f h = absurd h
ending-by b p stage.Asks None oq f h = absurd h
ending-by b p (stage.Held w) (Some c) oq f h = rw h refl
ending-by b p (stage.Held w) None oq f h = absurd h
ending-by b p (stage.Joining i) (Some c) oq f h = rw h refl
ending-by b p (stage.Joining i) None oq f h = absurd h
ending-by b p (stage.Asleep i due) (Some c) oq f h = rw h refl
ending-by b p (stage.Asleep i due) None oq f h = absurd h
ending-by b p (stage.Answered i) (Some c) oq f h = rw h refl
ending-by b p (stage.Answered i) None oq f h = absurd h
ending-by b p stage.Completed oc oq f h = rw h refl
ending-by b p stage.Handled oc oq f h = rw h refl
ending-by b p stage.Failed oc oq (Some g) h = rw h refl
ending-by b p stage.Failed oc oq None h = absurd h
ending-by b p stage.Starved oc oq f h = rw h refl
ending-by b p stage.NotCommitted oc oq f h = rw h refl

pub origin-zero : (set : RouteSet) (past : Past) (x : ℕ) → x ≡ 0 → None ≡ origin_at (plan_of set) past x
origin-zero set past x h = rw h refl

pub ending-zero : (set : RouteSet) (past : Past) (x : ℕ) → x ≡ 0 → None ≡ ending_at (place (plan_of set) past x)
ending-zero set past x h = ap ending_at (place-zero (plan_of set) past x h)

told-origin : (set : RouteSet) (past : Past) (b : Birth) (o : Born) → ComesFrom (plan_of set) past o b → origin_born (reverse past) o ≡ Some b.origin
unfolding entry_at
told-origin set past b (made.Item i) h =
    let at : slice_get (reverse past) i ≡ _ = h.entry in
    ap origin_in at ∙ ap (λ o. Some o) (sym (born-origin (plan_of set) past i b h))
told-origin set past b (made.Copy q) h = ap (λ o. Some o) (sym h)
told-origin set past b (made.Part y j) h = ap (λ o. Some o) (sym h)
told-origin set past b (made.Group g c) h = ap (λ o. Some o) (sym h)

module _ {set : RouteSet} {workers limit : ℕ} {past : Past} (t : Tables) (st : Stands set workers limit past t) (x : ℕ) where
  pub origin-beyond : length t.rows < x → None ≡ origin_at (plan_of set) past x
  origin-beyond l = sym (ap (option_map origin_of) (numbered-beyond (births (plan_of set) past) x (omega (arith, rows-are t st, l))))

  pub ending-beyond : length t.rows < x → None ≡ ending_at (place (plan_of set) past x)
  ending-beyond l = ap ending_at (place-beyond (plan_of set) past x (omega (arith, rows-are t st, l)))

  -- the birth of a row
  born : (r : Row) → 0 < x → x ≤ length t.rows → slice_get t.rows (x - 1) ≡ Some r → (b : Birth) × (slice_get (births (plan_of set) past) (x - 1) ≡ Some b) × RowStands set past b r
  born r l m row =
      let b = slice_get-some (births (plan_of set) past) (x - 1) (omega (arith, l, m, rows-are t st)) in
      (b.0, b.1, related-at (RowStands set past) (births (plan_of set) past) t.rows (x - 1) b.0 r st.rows b.1 row)

  -- the origin is told by the row
  pub origin-is : (r : Row) → 0 < x → x ≤ length t.rows → slice_get t.rows (x - 1) ≡ Some r → origin_born (reverse past) r.born ≡ origin_at (plan_of set) past x
  origin-is r l m row =
      let b = born r l m row in
      told-origin set past b.0 r.born b.2.born ∙ sym (ap (option_map origin_of) (numbered-here (births (plan_of set) past) x b.0 l b.1))

  -- the end is told by the stage
  pub ending-is : (r : Row) → 0 < x → x ≤ length t.rows → slice_get t.rows (x - 1) ≡ Some r → stage_ending r.stage ≡ ending_at (place (plan_of set) past x)
  ending-is r l m row =
      let b = born r l m row in
      ending-by b.0 (place_of (plan_of set) past b.0) r.stage r.cursor r.request r.fault (row-place set past b.0 r b.2)
      ∙ ap ending_at (place-here (plan_of set) past x b.0 (place_of (plan_of set) past b.0) l b.1 refl)
