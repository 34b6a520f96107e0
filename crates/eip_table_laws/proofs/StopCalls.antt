-- What the tables say of the sources, of the stop and of the places.
use Rattle.std.proofs.Common.{◌≡◌, ℕ, zero, suc, ◌+◌, ◌-◌, ◌<◌, ◌≤◌, ◌==◌, ◌&&◌, not, Bool, true, false, cond, List, [], ◌∷◌, length, Option, Some, None, reverse, refl, sym, ap, ◌∙◌, arith, inl, inr}
use Rattle.std.specs.List.{slice_get, list_all, position_from}
use Rattle.std.proofs.lemmas.Option.{slice_get_within}
use Rattle.std.proofs.lemmas.Bool.{and_parts, eqb-true, cases_Bool}
use Rattle.eip_exchange.specs.declared.birth.Birth.{Birth}
use Rattle.eip_exchange.specs.declared.birth.Origin.TheVariants as from
use Rattle.eip_exchange.specs.declared.end.Fault.{Fault}
use Rattle.eip_exchange.specs.Ends.{commit_failed}
use Rattle.eip_route.specs.declared.route.RouteSet.{RouteSet}
use Rattle.eip_frames.specs.declared.request.Request.{Request}
use Rattle.eip_ledger.specs.declared.place.Place.{Place}
use Rattle.eip_ledger.specs.declared.place.Place.TheVariants as place_is
use Rattle.eip_ledger.specs.declared.place.Stop.TheVariants.{Spent}
use Rattle.eip_meaning.specs.Meaning.{item_of}
use Rattle.eip_progress.specs.declared.cursor.Cursor.{Cursor}
use Rattle.eip_history.specs.Plan.{Plan}
use Rattle.eip_history.specs.Own as own_of
use Rattle.eip_history.specs.Own.{Past, numbers_below, source_state, is_done, Idle}
use Rattle.eip_history.specs.Births.{births, groups}
use Rattle.eip_history.specs.Place.{place, place_of, count_at, is_ended}
use Rattle.eip_history.specs.Rules.{unfinished, any_group}
use Rattle.eip_history.specs.Stop.{is_over, stop_of, unended, no_numbers, with_fault, will_close, open_groups, held_or_drained}
use Rattle.eip_history.proofs.Lists.{related-at, slice_get-some}
use Rattle.eip_history.proofs.Stuck.{below-none}
use Rattle.eip_plan.specs.Plan.{plan_of}
use Rattle.eip_tables.specs.declared.row.Born.{Born}
use Rattle.eip_tables.specs.declared.row.Born.TheVariants as made
use Rattle.eip_tables.specs.declared.row.Stage.{Stage}
use Rattle.eip_tables.specs.declared.row.Stage.TheVariants as stage
use Rattle.eip_tables.specs.Row.{Row}
use Rattle.eip_tables.specs.declared.row.SourceState.{SourceState}
use Rattle.eip_tables.specs.declared.row.SourceState.TheVariants as source
use Rattle.eip_tables.specs.State.{state_by}
use Rattle.eip_tables.specs.Rows.{ComesFrom, RowStands, SourcesStand, source_row, kept_state, is_idle, is_done_row, are_done, row_live, IsIdleSource}
use Rattle.eip_tables.specs.Places.{item_at, item_born, queue_place, stage_place, shown}
use Rattle.eip_tables.specs.Stands.{Tables, Stands}
use Rattle.eip_table_laws.proofs.RowNumbers.{count-related}
use Rattle.eip_table_laws.proofs.RowPlaces.{Placed, row-place, row-is_live, born-origin}
use Rattle.eip_table_laws.proofs.Bounds.{hands-are, rows-are}

-- the first of a list that passes a test
pub record Found {A : Type 0} (f : A → Bool) (k : ℕ) (xs : List A) (t : ℕ) : Type 0 where
  pub index : ℕ
  pub is : t ≡ k + index
  pub it : A
  pub at : slice_get xs index ≡ Some it
  pub passes : f it ≡ true
  pub first : (j : ℕ) (y : A) → j < index → slice_get xs j ≡ Some y → f y ≡ false

found-later : {A : Type 0} (f : A → Bool) (k : ℕ) (x : A) (xs : List A) (t : ℕ) → f x ≡ false → Found f (k + 1) xs t → Found f k (x ∷ xs) t
found-later {A} f k x xs t e r =
    record { index = suc r.index; is = (let h = r.is in omega (arith, h)); it = r.it; at = r.at; passes = r.passes; first = before }
  where
    before : (j : ℕ) (y : A) → j < suc r.index → slice_get (x ∷ xs) j ≡ Some y → f y ≡ false
    before zero y l at = let same : x ≡ y = cc in ap f (sym same) ∙ e
    before (suc j) y l at = r.first j y (omega (arith, l)) at

found-by : {A : Type 0} (f : A → Bool) (k : ℕ) (x : A) (xs : List A) (t : ℕ) (v : Bool) → (position_from f (k + 1) xs ≡ Some t → Found f (k + 1) xs t) → f x ≡ v → cond v (Some k) (position_from f (k + 1) xs) ≡ Some t → Found f k (x ∷ xs) t
found-by f k x xs t true later e g = let same : k ≡ t = cc in record { index = 0; is = (omega (arith, same)); it = x; at = refl; passes = e; first = λ j y l at. absurd (omega (arith, l)) }
found-by f k x xs t false later e g = found-later f k x xs t e (later g)

pub position-some : {A : Type 0} (f : A → Bool) (k : ℕ) (xs : List A) (t : ℕ) → position_from f k xs ≡ Some t → Found f k xs t
position-some f k [] t h = absurd (cc h)
position-some f k (x ∷ xs) t h = found-by f k x xs t (f x) (position-some f (k + 1) xs t) refl h

none-by : {A : Type 0} (f : A → Bool) (k : ℕ) (x : A) (xs : List A) (v : Bool) → (position_from f (k + 1) xs ≡ None → (j : ℕ) (y : A) → slice_get xs j ≡ Some y → f y ≡ false) → f x ≡ v → cond v (Some k) (position_from f (k + 1) xs) ≡ None
    → (j : ℕ) (y : A) → slice_get (x ∷ xs) j ≡ Some y → f y ≡ false
none-by f k x xs true later e g j y at = absurd (cc g)
none-by f k x xs false later e g zero y at = let same : x ≡ y = cc in ap f (sym same) ∙ e
none-by f k x xs false later e g (suc j) y at = later g j y at

pub position-none : {A : Type 0} (f : A → Bool) (k : ℕ) (xs : List A) → position_from f k xs ≡ None → (j : ℕ) (y : A) → slice_get xs j ≡ Some y → f y ≡ false
position-none f k [] h j y at = absurd (cc at)
position-none f k (x ∷ xs) h j y at = none-by f k x xs (f x) (position-none f (k + 1) xs) refl h j y at

idle-of : (v : Bool) (st : own_of.SourceState) → is_idle (cond v (kept_state st) source.Unused) ≡ true → (v ≡ true) × (st ≡ Idle)
idle-of true own_of.Idle h = (refl, refl)
idle-of true (own_of.Out w) h = absurd (cc h)
idle-of true own_of.Done h = absurd (cc h)
idle-of false st h = absurd (cc h)

pub idle-is : (s : Plan) (past : Past) (r : ℕ) → IsIdleSource s past r → is_idle (source_row s past r) ≡ true
idle-is s past r h = rw (h.0.1, h.1) refl

not-both : (b : Bool) → b ≡ true → b ≡ false → ⊥
not-both b h k = cc (sym h ∙ k)

module _ (s : Plan) (past : Past) (rows : List SourceState) (st : SourcesStand s past rows) where
  pub idle-some : (t : ℕ) → position_from is_idle 0 rows ≡ Some t → IsIdleSource s past t
  idle-some t h =
      let f = position-some is_idle 0 rows t h in
      let same : t ≡ f.index = f.is ∙ omega arith in
      let l : f.index < s.routes = omega (arith, slice_get_within rows f.index f.it f.at, st.many) in
      let row : f.it ≡ source_row s past f.index = let a = f.at in let b = st.each f.index l in cc in
      let k = idle-of (s.is_source f.index) (source_state f.index past) (ap is_idle (sym row) ∙ f.passes) in
      rw same ((l, k.0), k.1)

  pub idle-least : (t : ℕ) → position_from is_idle 0 rows ≡ Some t → (r : ℕ) → r < t → IsIdleSource s past r → ⊥
  idle-least t h r l i =
      let f = position-some is_idle 0 rows t h in
      not-both (is_idle (source_row s past r)) (idle-is s past r i) (f.first r (source_row s past r) (omega (arith, l, f.is)) (st.each r i.0.0))

  pub idle-none : position_from is_idle 0 rows ≡ None → (r : ℕ) → IsIdleSource s past r → ⊥
  idle-none h r i = not-both (is_idle (source_row s past r)) (idle-is s past r i) (position-none is_idle 0 rows h r (source_row s past r) (st.each r i.0.0))

-- a route whose row is idle has a source that may be pulled
pub idle-from : (s : Plan) (past : Past) (t : ℕ) → t < s.routes → is_idle (source_row s past t) ≡ true → IsIdleSource s past t
idle-from s past t l h = let k = idle-of (s.is_source t) (source_state t past) h in ((l, k.0), k.1)

below-empty : (p : ℕ → Bool) (n : ℕ) → ((r : ℕ) → r < n → p r ≡ false) → numbers_below p n ≡ []
below-empty p zero h = refl
below-empty p (suc n) h = rw (below-empty p n (λ r l. h r (omega (arith, l))), h n (omega arith)) refl

all-at : {A : Type 0} (p : A → Bool) (xs : List A) (i : ℕ) (x : A) → list_all p xs ≡ true → slice_get xs i ≡ Some x → p x ≡ true
all-at p [] i x h at = absurd (cc at)
all-at p (y ∷ xs) zero x h at = let same : y ≡ x = cc in ap p (sym same) ∙ (and_parts (p y) (list_all p xs) h).0
all-at p (y ∷ xs) (suc i) x h at = all-at p xs i x (and_parts (p y) (list_all p xs) h).1 at

all-from : {A : Type 0} (p : A → Bool) (xs : List A) → ((i : ℕ) (x : A) → slice_get xs i ≡ Some x → p x ≡ true) → list_all p xs ≡ true
all-from p [] h = refl
all-from p (y ∷ xs) h = rw (h 0 y refl) (all-from p xs (λ i x at. h (suc i) x at))

done-of : (v : Bool) (st : own_of.SourceState) → is_done_row (cond v (kept_state st) source.Unused) ≡ not (v && not (is_done st))
done-of true own_of.Idle = refl
done-of true (own_of.Out w) = refl
done-of true own_of.Done = refl
done-of false st = refl

not-true : (b : Bool) → not b ≡ true → b ≡ false
not-true true h = sym h
not-true false h = refl

empty-none : (xs : List ℕ) → no_numbers xs ≡ true → xs ≡ []
empty-none [] h = refl
empty-none (x ∷ xs) h = absurd (cc h)

-- every source is done where none is unfinished
pub sources-over : (s : Plan) (past : Past) (rows : List SourceState) → SourcesStand s past rows → no_numbers (unfinished s past) ≡ are_done rows
unfolding unfinished
sources-over s past rows st = by (list_all is_done_row rows) (no_numbers (numbers_below p s.routes)) refl refl
  where
    p : ℕ → Bool
    p r = s.is_source r && not (is_done (source_state r past))

    row-done : (r : ℕ) → r < s.routes → (x : SourceState) → slice_get rows r ≡ Some x → is_done_row x ≡ not (p r)
    row-done r l x at = let same : x ≡ source_row s past r = let b = st.each r l in cc in ap is_done_row same ∙ done-of (s.is_source r) (source_state r past)

    by : (a b : Bool) → list_all is_done_row rows ≡ a → no_numbers (numbers_below p s.routes) ≡ b → no_numbers (numbers_below p s.routes) ≡ list_all is_done_row rows
    by true b h k =
        ap no_numbers (below-empty p s.routes (λ r l. not-true (p r) (sym (row-done r l (source_row s past r) (st.each r l)) ∙ all-at is_done_row rows r (source_row s past r) h (st.each r l)))) ∙ sym h
    by false false h k = k ∙ sym h
    by false true h k =
        let all : list_all is_done_row rows ≡ true = all-from is_done_row rows (λ i x at.
        let l : i < s.routes = omega (arith, slice_get_within rows i x at, st.many) in
        row-done i l x at ∙ ap not (below-none p s.routes i (empty-none (numbers_below p s.routes) k) l)) in
        absurd (not-both (list_all is_done_row rows) all h)

module _ {set : RouteSet} {workers limit : ℕ} {past : Past} (t : Tables) (st : Stands set workers limit past t) where
  live-is : unended (plan_of set) past ≡ t.live
  unfolding count_at
  live-is = count-related (RowStands set past) (λ b. not (is_ended (place_of (plan_of set) past b))) row_live (births (plan_of set) past) t.rows st.rows (λ b r h. row-is_live set past b r h) ∙ sym st.live

  -- nothing waits where no exchange lives, every source is done and no group will close
  pub over-is : (closing : Bool) → closing ≡ any_group (will_close (plan_of set)) (groups (plan_of set) past) → is_over (plan_of set) past ≡ (t.live == 0) && (are_done t.sources && not closing)
  unfolding is_over
  over-is closing h = rw (live-is, sources-over (plan_of set) past t.sources st.sources, h) refl

  pub stop-is : (over spent : Bool) (open_count : ℕ) → over ≡ is_over (plan_of set) past → spent ≡ (t.turns == limit) && (t.pulled + t.taken == 0) → open_count ≡ length (open_groups (plan_of set) past)
      → cond over (Some (with_fault t.fault (held_or_drained open_count))) (cond spent (Some (with_fault t.fault Spent)) None) ≡ stop_of (plan_of set) limit past
  unfolding stop_of
  stop-is over spent open_count h k n = rw (h, k, n, st.fault, st.turns, sym (hands-are t st)) refl

-- a number beyond the births is not born
pub beyond : {A : Type 0} (xs : List A) (i : ℕ) → length xs ≤ i → slice_get xs i ≡ None
beyond [] i l = refl
beyond (x ∷ xs) zero l = absurd (omega (arith, l))
beyond (x ∷ xs) (suc i) l = beyond xs i (omega (arith, l))

pub place-zero : (s : Plan) (past : Past) (x : ℕ) → x ≡ 0 → None ≡ place s past x
unfolding place
place-zero s past x h = rw h refl

pub place-beyond : (s : Plan) (past : Past) (x : ℕ) → length (births s past) < x → None ≡ place s past x
unfolding place
place-beyond s past zero l = refl
place-beyond s past (suc i) l = rw (beyond (births s past) i (omega (arith, l))) refl

pub place-here : (s : Plan) (past : Past) (x : ℕ) (b : Birth) (p : Place) → 0 < x → slice_get (births s past) (x - 1) ≡ Some b → p ≡ place_of s past b → Some p ≡ place s past x
unfolding place
place-here s past zero b p l at e = absurd (omega (arith, l))
place-here s past (suc i) b p l at e = let same : suc i - 1 ≡ i = omega arith in rw (rw same at at, e) refl

-- the place of a state is the one that its stage shows
shown-by : (b : Birth) (p : Place) (o : Born) (item : List ℕ) (g : Stage) (oc : Option Cursor) (oq : Option Request) (f : Option Fault) → item ≡ item_of b.origin → ((q : ℕ) → b.origin ≡ from.Queue q → queue_place o ≡ place_is.Queue q)
    → Placed b (state_by g oc oq f) p → stage_place o item f g ≡ p
shown-by b p o item stage.Queued oc oq f e w h = w h.0 h.1 ∙ sym h.2
shown-by b p o item stage.New oc oq f e w h = sym h
shown-by b p o item stage.Asks (Some c) (Some q) f e w h = sym h
shown-by b p o item stage.Asks (Some c) None f e w h = absurd h
shown-by b p o item stage.Asks None oq f e w h = absurd h
shown-by b p o item (stage.Held v) (Some c) oq f e w h = sym h
shown-by b p o item (stage.Held v) None oq f e w h = absurd h
shown-by b p o item (stage.Joining i) (Some c) oq f e w h = sym h
shown-by b p o item (stage.Joining i) None oq f e w h = absurd h
shown-by b p o item (stage.Asleep i due) (Some c) oq f e w h = sym h
shown-by b p o item (stage.Asleep i due) None oq f e w h = absurd h
shown-by b p o item (stage.Answered i) (Some c) oq f e w h = sym h
shown-by b p o item (stage.Answered i) None oq f e w h = absurd h
shown-by b p o item stage.Completed oc oq f e w h = sym h
shown-by b p o item stage.Handled oc oq f e w h = sym h
shown-by b p o item stage.Failed oc oq (Some f) e w h = sym h
shown-by b p o item stage.Failed oc oq None e w h = absurd h
shown-by b p o item stage.Starved oc oq f e w h = sym h
shown-by b p o item stage.NotCommitted oc oq f e w h = ap (λ (i : List ℕ). place_is.Ended (commit_failed i)) e ∙ sym h

-- the item that a row tells is that of its exchange
told-item : (set : RouteSet) (past : Past) (b : Birth) (o : Born) → ComesFrom (plan_of set) past o b → item_born (reverse past) o ≡ item_of b.origin
unfolding Rattle.eip_tables.specs.Rows.entry_at
told-item set past b (made.Item i) h =
    let at : slice_get (reverse past) i ≡ _ = h.entry in
    ap item_at at ∙ sym (ap item_of (born-origin (plan_of set) past i b h))
told-item set past b (made.Copy q) h = sym (ap item_of h)
told-item set past b (made.Part y j) h = sym (ap item_of h)
told-item set past b (made.Group g c) h = sym (ap item_of h)

-- and so is the queue
told-queue : (set : RouteSet) (past : Past) (b : Birth) (o : Born) (q : ℕ) → ComesFrom (plan_of set) past o b → b.origin ≡ from.Queue q → queue_place o ≡ place_is.Queue q
told-queue set past b (made.Item i) q h e = let was = born-origin (plan_of set) past i b h in absurd (cc (sym was ∙ e))
told-queue set past b (made.Part y j) q h e = absurd (let same : from.Part y j ≡ from.Queue q = sym h ∙ e in cc same)
told-queue set past b (made.Group g c) q h e = absurd (let same : from.Group g ≡ from.Queue q = sym h ∙ e in cc same)
told-queue set past b (made.Copy r) q h e = let same : from.Queue r ≡ from.Queue q = sym h ∙ e in let is : r ≡ q = cc in ap place_is.Queue is

shown-place : (set : RouteSet) (past : Past) (b : Birth) (r : Row) → RowStands set past b r → shown (reverse past) r ≡ place_of (plan_of set) past b
shown-place set past b r h =
    shown-by b (place_of (plan_of set) past b) r.born (item_born (reverse past) r.born) r.stage r.cursor r.request r.fault (told-item set past b r.born h.born) (λ q e. told-queue set past b r.born q h.born e)
    (row-place set past b r h)

module _ {set : RouteSet} {workers limit : ℕ} {past : Past} (t : Tables) (st : Stands set workers limit past t) (x : ℕ) where
  pub unborn-beyond : length t.rows < x → None ≡ place (plan_of set) past x
  unborn-beyond l = place-beyond (plan_of set) past x (omega (arith, rows-are t st, l))

  pub shown-is : (r : Row) (p : Place) → 0 < x → x ≤ length t.rows → slice_get t.rows (x - 1) ≡ Some r → p ≡ shown (reverse past) r → Some p ≡ place (plan_of set) past x
  shown-is r p l m row e =
      let b = slice_get-some (births (plan_of set) past) (x - 1) (omega (arith, l, m, rows-are t st)) in
      place-here (plan_of set) past x b.0 p l b.1 (e ∙ shown-place set past b.0 r (related-at (RowStands set past) (births (plan_of set) past) t.rows (x - 1) b.0 r st.rows b.1 row))

-- a source that may be pulled is a route of the set
pub source-small : (set : RouteSet) (past : Past) (rows : List SourceState) → SourcesStand (plan_of set) past rows → (t : ℕ) → position_from is_idle 0 rows ≡ Some t → t < length set.routes
unfolding plan_of
source-small set past rows st t h = (idle-some (plan_of set) past rows st t h).0.0

pub not-zero : (n : ℕ) → (n ≡ 0 → ⊥) → (n == 0) ≡ false
not-zero n h = elim (cases_Bool (n == 0)) [ inl t ↦ absurd (h (eqb-true n 0 t)) | inr f ↦ f ]
