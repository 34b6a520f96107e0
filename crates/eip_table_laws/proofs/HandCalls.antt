-- The tables behind each entry of an exchange that waits for somebody outside.
use Rattle.std.proofs.Common.{◌≡◌, ℕ, suc, ◌+◌, ◌-◌, ◌≤◌, Bool, true, false, ◌&&◌, not, List, [], ◌∷◌, length, filter, set as put_at, Option, Some, None, IsSome, is_some, refl, sym, ap, subst, ◌∙◌, arith, add-zero, inr, eq-eqb, ◌<◌}
use Rattle.std.specs.List.{slice_get}
use Rattle.std.proofs.lemmas.List.{append-nil}
use Rattle.std.proofs.lemmas.Option.{slice_get_within}
use Rattle.eip_exchange.specs.declared.birth.Birth.{Birth}
use Rattle.eip_exchange.specs.declared.birth.Origin.TheVariants as from
use Rattle.eip_exchange.specs.Ends.{ending_of, out_of_memory}
use Rattle.eip_exchange.specs.declared.end.Ending.{Ending}
use Rattle.eip_exchange.specs.declared.end.Fault.{Fault}
use Rattle.eip_exchange.specs.declared.end.End.{End}
use Rattle.eip_exchange.specs.declared.end.End.TheVariants as end
use Rattle.eip_exchange.specs.declared.message.Message.{Message}
use Rattle.eip_route.specs.declared.route.RouteSet.{RouteSet}
use Rattle.eip_frames.specs.declared.request.Request.{Request}
use Rattle.eip_frames.specs.declared.request.Request.TheVariants as request
use Rattle.eip_frames.specs.declared.answer.Answer.{Answer as Reply}
use Rattle.eip_frames.specs.declared.answer.Answer.TheVariants as reply
use Rattle.eip_frames.specs.Fits.{fits, is_outside}
use Rattle.eip_ledger.specs.declared.entry.Entry.{Entry}
use Rattle.eip_ledger.specs.declared.entry.Kind.TheVariants.{Take, Answer, Starve}
use Rattle.eip_ledger.specs.declared.place.Place.{Place}
use Rattle.eip_ledger.specs.declared.place.Place.TheVariants as place_is
use Rattle.eip_history.specs.Plan.{Plan}
use Rattle.eip_history.specs.Own.{Past, own, answers, numbered}
use Rattle.eip_history.specs.Births.{births, asked, Asked}
use Rattle.eip_history.specs.Place.{place, place_of, ended, end_of, pause_of, Runs}
use Rattle.eip_history.specs.Rules.{KeepsRules, May, MayAct, IsBelow, Content, outside_asked}
use Rattle.eip_history.specs.Tables.{without, put_in, bit}
use Rattle.eip_history.specs.TableWords.{born_by}
use Rattle.eip_history.proofs.Limit.{not-same}
use Rattle.eip_history.specs.Texts.{note_for}
use Rattle.eip_history.proofs.Lists.{related-at, slice_get-some}
use Rattle.eip_history.proofs.Main.{legal-add}
use Rattle.eip_history.proofs.Places.{ended-is}
use Rattle.eip_history.proofs.Unborn.{birth-stays}
use Rattle.eip_plan.specs.Plan.{plan_of}
use Rattle.eip_plan.specs.Simple.{IsSimple}
use Rattle.eip_plan.proofs.Items.{bears, outside-simple, fits-simple, outside-unqueued, outside-unborn, outside-wakeful, unborn-births, outside-ungrouped, outside-unclaimed}
use Rattle.eip_meaning.proofs.Laws.{asked-finish}
use Rattle.eip_progress.specs.declared.cursor.Cursor.{Cursor}
use Rattle.eip_seda.specs.Consuming.{QueueView}
use Rattle.eip_idempotent.specs.Keys.{Table as KeyTable}
use Rattle.eip_join.specs.Parts.{Open}
use Rattle.eip_tables.specs.declared.row.Born.TheVariants as made
use Rattle.eip_tables.specs.declared.row.Stage.{Stage}
use Rattle.eip_tables.specs.declared.row.Stage.TheVariants as stage
use Rattle.eip_tables.specs.Row.{Row}
use Rattle.eip_tables.specs.Moves.{answered, held, closed, finished, end_asked, ended_by, starved_end}
use Rattle.eip_tables.specs.Closing.{Closing}
use Rattle.eip_tables.specs.Closing as closing
use Rattle.eip_tables.specs.State as state
use Rattle.eip_tables.specs.State.{State, state_of, state_by, asks_outside, row_outside, is_outside_row, outside_at, is_wanted}
use Rattle.eip_tables.specs.Numbers.{row_numbers}
use Rattle.eip_tables.specs.Outside.{is_among, unlooked_numbers, IsAsked}
use Rattle.eip_tables.specs.Queues.{QueuesStand, MayLeave, Leaves}
use Rattle.eip_tables.specs.Parts.{rows_behind, ready_behind}
use Rattle.eip_tables.specs.Joins.{JoinsStand, MayTell, Tells, Wakes}
use Rattle.eip_tables.specs.Keys.{Settles, ending_by}
use Rattle.eip_tables.specs.Rows.{Keeps, IsAsking, HasAnswer, HasEnded, StateStands, RowStands, closed_end, row_ready, row_held, row_live, state_ready, state_held, state_live}
use Rattle.eip_tables.specs.Stands.{Tables, Stands}
use Rattle.eip_table_laws.proofs.RowNumbers.{numbers-stay, numbers-leave, numbers-join, count-set}
use Rattle.eip_table_laws.proofs.ListedNumbers.{among-row, among-numbers, numbers-filter, numbers-same}
use Rattle.eip_table_laws.proofs.RowPlaces.{Placed, row-place, state-place, row-on, row-ended, fate-asks}
use Rattle.eip_table_laws.proofs.RowSteps.{mean-asks, runs-simple, held-by, has-answer, has-finished, has-not-committed, has-starved, closing_of, IsNoFinish}
use Rattle.eip_table_laws.proofs.QueueCalls.{queues-stay, queues-on, leaving-answer, leaving-starve}
use Rattle.eip_table_laws.proofs.Leaving.{ends-some, may-leave, queues-ended}
use Rattle.eip_table_laws.proofs.PartFacts.{IsNoJoin, unopened, stands-alive}
use Rattle.eip_table_laws.proofs.JoinsKept.{joins-stay, joins-on}
use Rattle.eip_table_laws.proofs.SleepersKept.{sleepers-stay}
use Rattle.eip_table_laws.proofs.KeysKept.{keys-stay, keys-on, keys-over, keys-starved}
use Rattle.eip_table_laws.proofs.Telling.{IsShut, shut-none, may-tell, joins-alone, joins-ended, moves-alone, also-moves, woken-within, starved-end, starved-told}
use Rattle.eip_table_laws.proofs.OwnEvents.{AlsoMoves, StandsApart, stands-one, apart-quiet, apart-lives, notes_in, of-take, of-answer, of-starve}
use Rattle.eip_table_laws.proofs.Ending.{stands-end}
use Rattle.eip_table_laws.proofs.OwnCalls.{IsAt, is-at, row-within, asks-fields, asked-by-fate}
use Rattle.eip_table_laws.proofs.Bounds.{rows-are}

-- a row that is known to ask somebody outside
pub record AsksSomebody (r : Row) : Type 0 where
  pub cursor : Cursor
  pub request : Request
  pub asks : state_of r ≡ state.Asks cursor request
  pub has : r.request ≡ Some request
  pub outside : is_outside request ≡ true

asks-by : (set : RouteSet) (past : Past) (b : Birth) (g : Stage) (oc : Option Cursor) (oq : Option Request) (f : Option Fault) → StateStands set past b (state_by g oc oq f) → asks_outside g oq ≡ true
    → (c : Cursor) × (q : Request) × (state_by g oc oq f ≡ state.Asks c q) × (oq ≡ Some q) × (is_outside q ≡ true)
asks-by set past b stage.Asks (Some c) (Some q) f st h = (c, q, refl, refl, h)
asks-by set past b stage.Asks None (Some q) f st h = absurd st
asks-by set past b stage.Asks oc None f st h = absurd (cc h)
asks-by set past b _ oc oq f st h = absurd (cc h)

asks-somebody : (set : RouteSet) (past : Past) (b : Birth) (r : Row) → RowStands set past b r → row_outside r ≡ true → AsksSomebody r
asks-somebody set past b r h o =
    let k = asks-by set past b r.stage r.cursor r.request r.fault h.stands o in
    record { cursor = k.0; request = k.1; asks = k.2; has = k.3; outside = k.4 }

-- who is known to ask somebody outside is ready
outside-ready : (set : RouteSet) (past : Past) (b : Birth) (r : Row) (v : Bool) → row_outside r ≡ v → RowStands set past b r → (row_ready r && v) ≡ v
outside-ready set past b r true o h = let a = asks-somebody set past b r h o in rw (ap state_ready a.asks) refl
outside-ready set past b r false o h = elim (row_ready r) as (λ u. (u && false) ≡ false) [ true ↦ refl | false ↦ refl ]

pub place-at : (s : Plan) (past : Past) (x : ℕ) (b : Birth) (p : Place) → numbered (births s past) x ≡ Some b → place_of s past b ≡ p → place s past x ≡ Some p
unfolding place
place-at s past x b p at h = rw (at, h) refl

module _ {set : RouteSet} {workers limit : ℕ} {past : Past} (t : Tables) (st : Stands set workers limit past t) where
  row-at : (i : ℕ) (r : Row) → slice_get t.rows i ≡ Some r → (b : Birth) × ((slice_get (births (plan_of set) past) i ≡ Some b) × RowStands set past b r)
  row-at i r at =
      let b = slice_get-some (births (plan_of set) past) i (omega (arith, slice_get_within t.rows i r at, rows-are t st)) in
      (b.0, (b.1, related-at (RowStands set past) (births (plan_of set) past) t.rows i b.0 r st.rows b.1 at))

  told : (i : ℕ) (r : Row) → slice_get t.rows i ≡ Some r → outside_at t.rows (1 + i) ≡ row_outside r
  told i r at = let e : 1 + i - 1 ≡ i = omega arith in rw e (ap is_outside_row at)

  -- the ready numbers whose rows are known to ask somebody outside
  pub outside-are : filter (λ x. is_wanted true (outside_at t.rows x)) t.ready ≡ row_numbers row_outside 1 t.rows
  outside-are =
      rw st.ready
      (numbers-filter row_ready row_outside (λ x. is_wanted true (outside_at t.rows x)) 1 t.rows told
      ∙ numbers-same (λ r. row_ready r && row_outside r) row_outside 1 t.rows (λ i r at. let b = row-at i r at in outside-ready set past b.0 r (row_outside r) refl b.1.1))

  -- and those that are not
  pub unlooked-are : filter (λ x. is_wanted false (outside_at t.rows x)) t.ready ≡ unlooked_numbers (row_numbers row_outside 1 t.rows) t.ready
  unlooked-are =
      rw st.ready
      (numbers-filter row_ready (λ r. not (row_outside r)) (λ x. is_wanted false (outside_at t.rows x)) 1 t.rows (λ i r at. ap not (told i r at))
      ∙ sym (numbers-filter row_ready (λ r. not (row_outside r)) (λ x. not (is_among x (row_numbers row_outside 1 t.rows))) 1 t.rows (λ i r at. ap not (among-numbers row_outside 1 t.rows i r at))))

  -- an exchange that is known as Outside is ready, and its row asks
  pub record KnownOutside (x : ℕ) : Type 0 where
    pub row : Row
    pub at : slice_get t.rows (x - 1) ≡ Some row
    pub asks : AsksSomebody row
    pub ready : place (plan_of set) past x ≡ Some place_is.Ready

  pub known-outside : (x : ℕ) → is_among x (row_numbers row_outside 1 t.rows) ≡ true → KnownOutside x
  known-outside x h =
      let a = among-row row_outside 1 t.rows x h in
      let e : a.index ≡ x - 1 = let i = a.is in omega (arith, i) in
      let n : suc a.index ≡ x = let i = a.is in omega (arith, i) in
      let b = row-at a.index a.row a.at in
      let asks = asks-somebody set past b.0 a.row b.1.1 a.passes in
      let ready : place_of (plan_of set) past b.0 ≡ place_is.Ready = rw asks.asks at (row-place set past b.0 a.row b.1.1) in
      let at : numbered (births (plan_of set) past) x ≡ Some b.0 = subst (λ (m : ℕ). numbered (births (plan_of set) past) m ≡ Some b.0) n b.1.0 in
      record { row = a.row; at = subst (λ (m : ℕ). slice_get t.rows m ≡ Some a.row) e a.at; asks = asks; ready = place-at (plan_of set) past x b.0 place_is.Ready at ready }

-- an exchange in a worker's hand
held-placed : (b : Birth) (g : State) (p : Place) (w : ℕ) → p ≡ place_is.InHand w → Placed b g p → (c : Cursor) × (g ≡ state.Held c w)
held-placed b state.Queued p w e h = absurd (cc (sym e ∙ h.2))
held-placed b state.New p w e h = absurd (cc (sym e ∙ h))
held-placed b (state.Asks c q) p w e h = absurd (cc (sym e ∙ h))
held-placed b (state.Held c v) p w e h = let same : v ≡ w = (let both = sym h ∙ e in cc) in (c, ap (state.Held c) same)
held-placed b (state.Joining c i) p w e h = absurd (cc (sym e ∙ h))
held-placed b (state.Asleep c i due) p w e h = absurd (cc (sym e ∙ h))
held-placed b (state.Answered c i) p w e h = absurd (cc (sym e ∙ h))
held-placed b (state.Ended c) p w e h = absurd (cc (sym e ∙ h))
held-placed b state.Broken p w e h = absurd h

-- the fields of a row in hand
held-fields : (g : Stage) (oc : Option Cursor) (oq : Option Request) (f : Option Fault) (c : Cursor) (w : ℕ) → state_by g oc oq f ≡ state.Held c w → (oc ≡ Some c) × (asks_outside g oq ≡ false)
held-fields (stage.Held v) (Some d) oq f c w h = (cc, refl)
held-fields stage.Asks (Some d) (Some q) f c w h = absurd (cc h)
held-fields stage.Failed oc oq (Some f) c w h = absurd (cc h)
held-fields (stage.Joining i) (Some d) oq f c w h = absurd (cc h)
held-fields (stage.Asleep i due) (Some d) oq f c w h = absurd (cc h)
held-fields (stage.Answered i) (Some d) oq f c w h = absurd (cc h)
held-fields _ _ _ f c w h = absurd (cc h)

answered-now : (i : ℕ) (r : Row) (c : Cursor) (w : ℕ) → state_of r ≡ state.Held c w → state_of (answered i r) ≡ state.Answered c i
answered-now i r c w h = let f = held-fields r.stage r.cursor r.request r.fault c w h in rw f.0 refl

-- nothing stands of an answer from outside
content-outside : (s : Plan) (past : Past) (k : Asked) (q : Request) (a : Reply) → is_outside q ≡ true → Content s past k q a
content-outside s past k (request.Send t m) a o = tt
content-outside s past k (request.Process n m) a o = tt
content-outside s past k (request.Test n m) a o = tt
content-outside s past k (request.Finish e m c) a o = tt
content-outside s past k _ a o = absurd (cc o)

-- nobody outside is asked how parts ended, and no answer from there opens a join
outside-other : (q : Request) → is_outside q ≡ true → IsNoJoin q
outside-other (request.Join first count) o = absurd (cc o)
outside-other _ o = tt

outside-closes : (q : Request) (a : Reply) → is_outside q ≡ true → fits q a ≡ true → born_by a ≡ None
outside-closes q a o h = by_answer a (outside-unborn q a o h)
  where
    by_answer : (a : Reply) → bears a ≡ false → born_by a ≡ None
    by_answer (reply.Born first count) g = absurd (cc g)
    by_answer _ g = refl

-- no answer from outside is a line of the log
no-note : (x : ℕ) (q : Request) (a : Reply) → is_outside q ≡ true → note_for x q a ≡ None
no-note x (request.Send t m) a h = refl
no-note x (request.Process n m) a h = refl
no-note x (request.Test n m) a h = refl
no-note x (request.Finish e m c) a h = refl
no-note x _ a h = absurd (cc h)

no-end : (q : Request) → end_asked (Some q) ≡ None → IsNoFinish q
no-end (request.Finish e m c) h = absurd (cc h)
no-end _ h = tt

-- a request of the outside that asks to end so
pub record AsksToEnd (q : Request) (e : End) : Type 0 where
  pub message : Message
  pub is : q ≡ request.Finish e message true

asks-to-end : (q : Request) (e : End) → is_outside q ≡ true → end_asked (Some q) ≡ Some e → AsksToEnd q e
asks-to-end (request.Finish d m true) e o h = let same : d ≡ e = cc in record { message = m; is = ap (λ (x : End). request.Finish x m true) same }
asks-to-end (request.Finish d m false) e o h = absurd (cc o)
asks-to-end _ e o h = absurd (cc h)

-- how an exchange ends by the answer of its source
closing_by : End → Reply → Closing
closing_by e reply.CommitFailed = closing.NotCommitted
closing_by e _ = closing_of e

-- an end as its source took it is settled so
ending-over : (b : Birth) (e : End) (a : Reply) → ending_of (closed_end b (closing_by e a)) ≡ ending_by e a
unfolding closing_by
ending-over b e reply.CommitFailed = refl
ending-over b end.Completed _ = refl
ending-over b end.Handled _ = refl
ending-over b (end.Failed f) _ = refl

ended-state : (e : End) (r : Row) → state_of (finished e r) ≡ state.Ended (closing_of e)
ended-state end.Completed r = refl
ended-state end.Handled r = refl
ended-state (end.Failed f) r = refl

pub finished-not-outside : (e : End) (r : Row) → row_outside (finished e r) ≡ false
finished-not-outside end.Completed r = refl
finished-not-outside end.Handled r = refl
finished-not-outside (end.Failed f) r = refl

ended-by-state : (e : End) (m : Message) (a : Reply) (r : Row) → fits (request.Finish e m true) a ≡ true → state_of (ended_by e a r) ≡ state.Ended (closing_by e a)
unfolding closing_by
ended-by-state e m reply.Finished r h = ended-state e r
ended-by-state e m reply.CommitFailed r h = refl
ended-by-state e m _ r h = absurd (cc h)

ended-by-born : (e : End) (a : Reply) (r : Row) → r.born ≡ (ended_by e a r).born
ended-by-born e reply.CommitFailed r = refl
ended-by-born e _ r = refl

ended-by-not-outside : (e : End) (m : Message) (a : Reply) (r : Row) → fits (request.Finish e m true) a ≡ true → row_outside (ended_by e a r) ≡ false
ended-by-not-outside e m reply.Finished r h = finished-not-outside e r
ended-by-not-outside e m reply.CommitFailed r h = refl
ended-by-not-outside e m _ r h = absurd (cc h)

has-ended-by : (set : RouteSet) (past : Past) (w : ℕ) (b : Birth) (c : Cursor) (e : End) (m : Message) (a : Reply) (t : Option ℕ) → fits (request.Finish e m true) a ≡ true → IsAsking set past b c (request.Finish e m true) t
    → HasEnded set ((record { worker = w; kind = Answer b.number a }) ∷ past) b (closing_by e a)
unfolding closing_by
has-ended-by set past w b c e m reply.Finished t h k = has-finished set past w b c e m true t k
has-ended-by set past w b c e m reply.CommitFailed t h k = has-not-committed set past w b c e m t k
has-ended-by set past w b c e m _ t h k = absurd (cc h)

module _ {routes : RouteSet} {workers limit : ℕ} {past : Past} (t : Tables) (w x : ℕ) (st : Stands routes workers limit past t) (lw : w ≤ workers) (r : Row) (row : slice_get t.rows (x - 1) ≡ Some r) where
  -- what is known of an exchange at a place
  module _ (p : Place) (placed : place (plan_of routes) past x ≡ Some p) where
    here : IsAt routes past x r p
    here = is-at t x p r st placed row

    above : suc (x - 1) ≡ x
    above = let h = row-within t x p st placed in omega (arith, h.0)

    number-of : (b : Birth) → slice_get (births (plan_of routes) past) (x - 1) ≡ Some b → b.number ≡ x
    number-of b at =
        let at' : slice_get (births (plan_of routes) past) (x - 1) ≡ Some here.birth = subst (λ (n : ℕ). numbered (births (plan_of routes) past) n ≡ Some here.birth) (sym above) here.at in
        let same : here.birth ≡ b = cc in
        ap (λ (d : Birth). d.number) (sym same) ∙ here.number

  -- a worker takes it in hand
  module _ (ready : place (plan_of routes) past x ≡ Some place_is.Ready) (c : Cursor) (q : Request) (asks : state_of r ≡ state.Asks c q) (outside : is_outside q ≡ true) where
    took : Entry
    took = record { worker = w; kind = Take x }

    birth : Birth
    birth = (here place_is.Ready ready).birth

    asking : IsAsking routes past birth c q None
    unfolding birth
    asking = rw asks at (here place_is.Ready ready).stands.stands

    asked-now : outside_asked (asked (plan_of routes) past x) ≡ true
    unfolding birth
    asked-now = ap outside_asked (asked-by-fate routes past x birth q asking.at (here place_is.Ready ready).at (fate-asks routes past birth c q None asking)) ∙ outside

    pub may-take : IsBelow (plan_of routes) limit past → May (plan_of routes) limit past w (Take x)
    may-take below = (ready, asked-now, below)

    now-held : state_of (held w r) ≡ state.Held c w
    now-held = let f = asks-fields r.stage r.cursor r.request r.fault c q asks in rw f.0 refl

    take-legal : IsBelow (plan_of routes) limit past → KeepsRules (plan_of routes) workers limit ((record { worker = w; kind = Take x }) ∷ past)
    take-legal below = (legal-add (plan_of routes) workers limit (record { worker = w; kind = Take x }) past st.legal lw (may-take below)).entries

    asking-held : IsBelow (plan_of routes) limit past → IsAsking routes (took ∷ past) birth c q (Some w)
    unfolding birth took
    asking-held below =
        let number = (here place_is.Ready ready).number in
        subst (λ (n : ℕ). IsAsking routes ((record { worker = w; kind = Take n }) ∷ past) (here place_is.Ready ready).birth c q (Some w)) number
        (held-by routes workers limit past w (here place_is.Ready ready).birth c q
        (subst (λ (n : ℕ). KeepsRules (plan_of routes) workers limit ((record { worker = w; kind = Take n }) ∷ past)) (sym number) (take-legal below)) asking)

    birth-now : numbered (births (plan_of routes) (took ∷ past)) x ≡ Some birth
    unfolding birth
    birth-now = birth-stays (plan_of routes) took past x birth (here place_is.Ready ready).at

    -- it is in this worker's hand then, and asks what it asked
    pub taken-place : IsBelow (plan_of routes) limit past → place (plan_of routes) ((record { worker = w; kind = Take x }) ∷ past) x ≡ Some (place_is.InHand w)
    unfolding took birth
    taken-place below =
        let s = plan_of routes in
        place-at s (took ∷ past) x birth (place_is.InHand w) birth-now (state-place routes (took ∷ past) birth (state.Held c w) (q, asking-held below, outside))

    pub taken-asks : IsBelow (plan_of routes) limit past → IsAsked (plan_of routes) ((record { worker = w; kind = Take x }) ∷ past) x q
    unfolding took
    taken-asks below =
        let a = asking-held below in
        let k : Asked = record { birth = birth; request = q; at = a.at } in
        (k, (asked-by-fate routes (took ∷ past) x birth q a.at birth-now (fate-asks routes (took ∷ past) birth c q (Some w) a), refl))

    pub stands-take : IsBelow (plan_of routes) limit past
        → Stands routes workers limit ((record { worker = w; kind = Take x }) ∷ past) (record t { rows = put_at t.rows (x - 1) (held w r); ready = without x t.ready; taken = t.taken + 1 })
    stands-take below =
        let s = plan_of routes in
        let number : 1 + (x - 1) ≡ x = omega (arith, above place_is.Ready ready) in
        let b : row_held r ≡ false = ap state_held asks in
        let l : row_live r ≡ true = ap state_live asks in
        let b' : row_held (held w r) ≡ true = ap state_held now-held in
        let l' : row_live (held w r) ≡ true = ap state_live now-held in
        rw (append-nil t.notes, add-zero t.turns) at
        (stands-one routes workers limit past t w x (x - 1) (Take x) r (held w r) (without x t.ready) (t.taken + 1) t.live t.queues t.joins t.sleepers t.keys st lw (may-take below) (of-take w x) refl (above place_is.Ready ready) row
        (λ legal. apart-quiet routes workers limit w x (Take x) past legal (of-take w x) refl refl)
        (λ d d_at h.
        row-on routes (record { worker = w; kind = Take x }) past d r (held w r) h refl refl refl (l ∙ sym l')
        (rw now-held (subst (λ (n : ℕ). StateStands routes ((record { worker = w; kind = Take n }) ∷ past) d (state.Held c w)) (number-of place_is.Ready ready d d_at)
        (q, held-by routes workers limit past w d c q (subst (λ (n : ℕ). KeepsRules (plan_of routes) workers limit ((record { worker = w; kind = Take n }) ∷ past)) (sym (number-of place_is.Ready ready d d_at)) (take-legal below)) (rw asks at h.stands), outside))))
        (ap (without x) st.ready ∙ sym (rw number at (numbers-leave row_ready 1 t.rows (x - 1) (held w r) (ap state_ready now-held))))
        (rw (b, b') (omega arith)) (rw (l, l') refl)
        (λ legal. queues-stay routes workers limit w (Take x) past t.queues legal refl refl st.queues)
        (λ legal. joins-stay routes workers limit w (Take x) past t.joins legal refl st.joins)
        (λ legal. sleepers-stay routes workers limit w (Take x) past t.sleepers legal refl st.sleepers) refl (keys-stay routes w (Take x) past t.keys refl st.keys))

  -- it is in this worker's hand
  module _ (placed : place (plan_of routes) past x ≡ Some (place_is.InHand w)) where
    in-hand : (c : Cursor) × (state_of r ≡ state.Held c w)
    in-hand =
        let h = here (place_is.InHand w) placed in
        held-placed h.birth (state_of r) (place_of (plan_of routes) past h.birth) w h.placed (row-place routes past h.birth r h.stands)

    was-held : row_held r ≡ true
    was-held = ap state_held in-hand.1

    was-live : row_live r ≡ true
    was-live = ap state_live in-hand.1

    -- it has been counted
    pub taken-above : 1 ≤ t.taken
    taken-above = let k = count-set row_held t.rows (x - 1) r (closed stage.Starved r) row in let a = ap bit was-held in omega (arith, k, a, st.taken)

    pub held-live : 1 ≤ t.live
    held-live = let k = count-set row_live t.rows (x - 1) r (closed stage.Starved r) row in let a = ap bit was-live in omega (arith, k, a, st.live)

    pub held-not-outside : row_outside r ≡ false
    held-not-outside = (held-fields r.stage r.cursor r.request r.fault in-hand.0 w in-hand.1).1

    -- it has a cursor
    pub held-cursor : IsSome r.cursor
    held-cursor = let f = held-fields r.stage r.cursor r.request r.fault in-hand.0 w in-hand.1 in rw f.0 refl

    -- its newest request is the one that the ticket has
    record HeldAsks (q : Request) : Type 0 where
      pub asking : IsAsking routes past (here (place_is.InHand w) placed).birth in-hand.0 q (Some w)
      pub asked_is : asked (plan_of routes) past x ≡ Some (record { birth = (here (place_is.InHand w) placed).birth; request = q; at = asking.at })
      pub outside : is_outside q ≡ true
      pub simple : IsSimple q

    held-asks : (q : Request) → IsAsked (plan_of routes) past x q → HeldAsks q
    held-asks q k =
        let h = here (place_is.InHand w) placed in
        let s : StateStands routes past h.birth (state.Held in-hand.0 w) = rw in-hand.1 at h.stands.stands in
        let is = asked-by-fate routes past x h.birth s.0 s.1.at h.at (fate-asks routes past h.birth in-hand.0 s.0 (Some w) s.1) in
        let d : Asked = record { birth = h.birth; request = s.0; at = s.1.at } in
        let there : asked (plan_of routes) past x ≡ Some k.0 = k.1.0 in
        let one : d ≡ k.0 = cc in
        let same : s.0 ≡ q = ap (λ (a : Asked). a.request) one ∙ k.1.1 in
        let all : HeldAsks s.0 = record { asking = s.1; asked_is = is; outside = s.2; simple = outside-simple s.0 s.2 } in
        subst HeldAsks same all

    may-answer : (q : Request) (a : Reply) → HeldAsks q → fits q a ≡ true → May (plan_of routes) limit past w (Answer x a)
    may-answer q a k fit = record {
      asks = record { birth = (here (place_is.InHand w) placed).birth; request = q; at = k.asking.at };
      asked_is = k.asked_is;
      fitting = fit;
      act = subst (λ (v : Bool). MayAct (plan_of routes) limit past w x v) (sym k.outside) placed;
      content = content-outside (plan_of routes) past (record { birth = (here (place_is.InHand w) placed).birth; request = q; at = k.asking.at }) q a k.outside;
    }

    no-notes : (q : Request) (a : Reply) → HeldAsks q → notes_in (plan_of routes) past w (Answer x a) ≡ []
    no-notes q a k = rw (k.asked_is, no-note (here (place_is.InHand w) placed).birth.number q a k.outside) refl

    asking-of : (q : Request) (d : Birth) → HeldAsks q → slice_get (births (plan_of routes) past) (x - 1) ≡ Some d → IsAsking routes past d in-hand.0 q (Some w)
    asking-of q d k at =
        let h = here (place_is.InHand w) placed in
        let at' : slice_get (births (plan_of routes) past) (x - 1) ≡ Some h.birth = subst (λ (n : ℕ). numbered (births (plan_of routes) past) n ≡ Some h.birth) (sym (above (place_is.InHand w) placed)) h.at in
        let same : h.birth ≡ d = cc in
        subst (λ (b : Birth). IsAsking routes past b in-hand.0 q (Some w)) same k.asking

    held-alive : ended (plan_of routes) past x ≡ None
    held-alive =
        let h = here (place_is.InHand w) placed in
        ended-is (plan_of routes) past x h.birth h.at ∙ stands-alive (plan_of routes) past h.birth (place_is.InHand w) h.placed refl

    -- who asks the outside has no open join
    held-shut : (q : Request) → HeldAsks q → IsShut x st.joins.calls st.joins.calls
    held-shut q k = shut-none x st.joins.calls (st.joins.parts x ∙ unopened routes past x (record { birth = (here (place_is.InHand w) placed).birth; request = q; at = k.asking.at }) k.asked_is (outside-other q k.outside))

    -- the answer of a request that isn't its last
    module _ (q : Request) (a : Reply) (asks : IsAsked (plan_of routes) past x q) (fit : fits q a ≡ true) (goes : end_asked (Some q) ≡ None) where
      known : HeldAsks q
      known = held-asks q asks

      settled : Entry
      settled = record { worker = w; kind = Answer x a }

      runs : pause_of (Some a) ≡ Runs
      runs = runs-simple a (outside-unborn q a known.outside fit) (outside-wakeful q a known.outside fit)

      gets : (d : Birth) → slice_get (births (plan_of routes) past) (x - 1) ≡ Some d → HasAnswer routes ((record { worker = w; kind = Answer x a }) ∷ past) d in-hand.0 (length past) place_is.Ready
      gets d d_at =
          subst (λ (m : ℕ). HasAnswer routes ((record { worker = w; kind = Answer m a }) ∷ past) d in-hand.0 (length past) place_is.Ready) (number-of (place_is.InHand w) placed d d_at)
          (has-answer routes past w d in-hand.0 q a (Some w) place_is.Ready (rw runs refl) (no-end q goes) fit (asking-of q d known d_at))

      lives-on : ended (plan_of routes) ((record { worker = w; kind = Answer x a }) ∷ past) x ≡ None
      lives-on =
          let h = here (place_is.InHand w) placed in
          let at : slice_get (births (plan_of routes) past) (x - 1) ≡ Some h.birth = subst (λ (n : ℕ). numbered (births (plan_of routes) past) n ≡ Some h.birth) (sym (above (place_is.InHand w) placed)) h.at in
          let e : Entry = record { worker = w; kind = Answer x a } in
          ended-is (plan_of routes) (e ∷ past) x h.birth (birth-stays (plan_of routes) e past x h.birth h.at) ∙ (gets h.birth at).lives

      same-queues : KeepsRules (plan_of routes) workers limit ((record { worker = w; kind = Answer x a }) ∷ past) → QueuesStand routes ((record { worker = w; kind = Answer x a }) ∷ past) t.queues
      same-queues legal = queues-on routes workers limit w x a past (here (place_is.InHand w) placed).birth t.queues legal (outside-unqueued q a known.outside fit) (here (place_is.InHand w) placed).at lives-on st.queues

    -- it has the answer of a request that isn't its last
    pub stands-settle : (q : Request) (a : Reply) → IsAsked (plan_of routes) past x q → fits q a ≡ true → end_asked (Some q) ≡ None
        → Stands routes workers limit ((record { worker = w; kind = Answer x a }) ∷ past)
        (record t { rows = put_at t.rows (x - 1) (answered (length past) r); ready = put_in x t.ready; turns = t.turns + 1; taken = t.taken - 1 })
    stands-settle q a asks fit goes =
        let s = plan_of routes in
        let k = held-asks q asks in
        let c = in-hand.0 in
        let now = answered-now (length past) r c w in-hand.1 in
        let number : 1 + (x - 1) ≡ x = omega (arith, above (place_is.InHand w) placed) in
        let b : row_held (answered (length past) r) ≡ false = ap state_held now in
        let l : row_live (answered (length past) r) ≡ true = ap state_live now in
        let n = taken-above in
        rw (no-notes q a k, append-nil t.notes) at
        (stands-one routes workers limit past t w x (x - 1) (Answer x a) r (answered (length past) r) (put_in x t.ready) (t.taken - 1) t.live t.queues t.joins t.sleepers t.keys st lw (may-answer q a k fit)
        (of-answer w x a (fits-simple q a k.simple fit)) (unborn-births (plan_of routes) past x a (outside-unborn q a k.outside fit)) (above (place_is.InHand w) placed) row
        (λ legal. apart-lives routes workers limit w x (Answer x a) past legal (of-answer w x a (fits-simple q a k.simple fit)) (lives-on q a asks fit goes))
        (λ d d_at h. row-on routes (record { worker = w; kind = Answer x a }) past d r (answered (length past) r) h refl refl refl (was-live ∙ sym l) (rw now (gets q a asks fit goes d d_at)))
        (ap (put_in x) st.ready ∙ sym (rw number at (numbers-join row_ready 1 t.rows (x - 1) r (answered (length past) r) row (ap state_ready in-hand.1) (ap state_ready now))))
        (rw (was-held, b) (omega (arith, n))) (rw (was-live, l) refl) (same-queues q a asks fit goes)
        (λ legal. joins-on routes workers limit w x a past legal (lives-on q a asks fit goes) (outside-closes q a k.outside fit) (unopened routes past x (record { birth = (here (place_is.InHand w) placed).birth; request = q; at = k.asking.at }) k.asked_is (outside-other q k.outside)) st.joins)
        (λ legal. sleepers-stay routes workers limit w (Answer x a) past t.sleepers legal (outside-wakeful q a k.outside fit) st.sleepers) (outside-ungrouped q a k.outside fit)
        (keys-on routes w x a past t.keys (outside-unclaimed q a k.outside fit) (lives-on q a asks fit goes) st.keys))

    -- it ends as its source took it
    module _ (q : Request) (e : End) (a : Reply) (asks : IsAsked (plan_of routes) past x q) (fit : fits q a ≡ true) (ends : end_asked (Some q) ≡ Some e) where
      told-end : HeldAsks q
      told-end = held-asks q asks

      to-end : AsksToEnd q e
      to-end = asks-to-end q e told-end.outside ends

      fitting-end : fits (request.Finish e to-end.message true) a ≡ true
      fitting-end = rw to-end.is at fit

      now-over : state_of (ended_by e a r) ≡ state.Ended (closing_by e a)
      now-over = ended-by-state e to-end.message a r fitting-end

      is-over : (d : Birth) → slice_get (births (plan_of routes) past) (x - 1) ≡ Some d → HasEnded routes ((record { worker = w; kind = Answer x a }) ∷ past) d (closing_by e a)
      is-over d d_at =
          subst (λ (m : ℕ). HasEnded routes ((record { worker = w; kind = Answer m a }) ∷ past) d (closing_by e a)) (number-of (place_is.InHand w) placed d d_at)
          (has-ended-by routes past w d in-hand.0 e to-end.message a (Some w) fitting-end (subst (λ (z : Request). IsAsking routes past d in-hand.0 z (Some w)) to-end.is (asking-of q d told-end d_at)))

      over-some : is_some (ended (plan_of routes) ((record { worker = w; kind = Answer x a }) ∷ past) x) ≡ true
      over-some =
          let h = here (place_is.InHand w) placed in
          let at : slice_get (births (plan_of routes) past) (x - 1) ≡ Some h.birth = subst (λ (n : ℕ). numbered (births (plan_of routes) past) n ≡ Some h.birth) (sym (above (place_is.InHand w) placed)) h.at in
          let o = is-over h.birth at in
          ends-some (plan_of routes) (record { worker = w; kind = Answer x a }) past x h.birth (closed_end h.birth (closing_by e a)) o.message h.at o.ends

      pub end-leaves : MayLeave r.born t.queues
      end-leaves =
          let h = here (place_is.InHand w) placed in
          let legal = legal-add (plan_of routes) workers limit (record { worker = w; kind = Answer x a }) past st.legal lw (may-answer q a told-end fit) in
          may-leave workers limit w x (Answer x a) h.birth t.queues (leaving-answer x a (outside-unqueued q a told-end.outside fit)) legal.entries h.at over-some st.queues r.born h.stands.born

      -- whose source is told of its end is no part
      end-alone : (p i : ℕ) → (here (place_is.InHand w) placed).birth.origin ≡ from.Part p i → ⊥
      end-alone p i h =
          let b = (here (place_is.InHand w) placed).birth in
          let a : IsAsking routes past b in-hand.0 (request.Finish e to-end.message true) (Some w) = subst (λ (z : Request). IsAsking routes past b in-hand.0 z (Some w)) to-end.is told-end.asking in
          let told = (asked-finish routes b (answers (own b.number past)) e to-end.message true a.at (mean-asks routes past b in-hand.0 (request.Finish e to-end.message true) (Some w) a)).0 in
          let g = rw h at told in
          cc g

      over-so : (o : HasEnded routes ((record { worker = w; kind = Answer x a }) ∷ past) (here (place_is.InHand w) placed).birth (closing_by e a))
          → ended (plan_of routes) ((record { worker = w; kind = Answer x a }) ∷ past) x ≡ Some (record { end = closed_end (here (place_is.InHand w) placed).birth (closing_by e a); message = o.message })
      over-so o =
          let h = here (place_is.InHand w) placed in
          ended-is (plan_of routes) ((record { worker = w; kind = Answer x a }) ∷ past) x h.birth (birth-stays (plan_of routes) (record { worker = w; kind = Answer x a }) past x h.birth h.at) ∙ ap end_of o.ends

      is-over-here : HasEnded routes ((record { worker = w; kind = Answer x a }) ∷ past) (here (place_is.InHand w) placed).birth (closing_by e a)
      is-over-here =
          let h = here (place_is.InHand w) placed in
          is-over h.birth (subst (λ (n : ℕ). numbered (births (plan_of routes) past) n ≡ Some h.birth) (sym (above (place_is.InHand w) placed)) h.at)

      joins-over : KeepsRules (plan_of routes) workers limit ((record { worker = w; kind = Answer x a }) ∷ past) → JoinsStand routes ((record { worker = w; kind = Answer x a }) ∷ past) t.joins
      joins-over legal =
          let h = here (place_is.InHand w) placed in
          joins-alone workers limit w x (Answer x a) h.birth (record { end = closed_end h.birth (closing_by e a); message = is-over-here.message }) legal st.simple (eq-eqb x x refl) (λ y ne. not-same y x ne) (λ n. refl)
          h.at held-alive (over-so is-over-here) st.joins st.joins.calls (held-shut q told-end) t.joins st.joins.stands end-alone

      over-moves : KeepsRules (plan_of routes) workers limit ((record { worker = w; kind = Answer x a }) ∷ past) → StandsApart routes past (record { worker = w; kind = Answer x a }) x
      over-moves legal =
          let h = here (place_is.InHand w) placed in
          moves-alone workers limit w x (Answer x a) h.birth (record { end = closed_end h.birth (closing_by e a); message = is-over-here.message }) legal st.simple (eq-eqb x x refl) (λ y ne. not-same y x ne) (λ n. refl)
          h.at held-alive (over-so is-over-here) st.joins st.joins.calls (held-shut q told-end) t.joins st.joins.stands end-alone

      pub stands-settle-end : (queues : List QueueView) (keys : KeyTable) → Leaves r.born t.queues queues → Settles x (ending_by e a) t.keys keys
          → Stands routes workers limit ((record { worker = w; kind = Answer x a }) ∷ past)
          (record t { rows = put_at t.rows (x - 1) (ended_by e a r); turns = t.turns + 1; taken = t.taken - 1; live = t.live - 1; queues = queues; keys = keys })
      stands-settle-end queues keys leaves settled =
          let h = here (place_is.InHand w) placed in
          let b : row_held (ended_by e a r) ≡ false = ap state_held now-over in
          let l : row_live (ended_by e a r) ≡ false = ap state_live now-over in
          let n = taken-above in
          let m = held-live in
          rw (no-notes q a told-end, append-nil t.notes) at
          (stands-one routes workers limit past t w x (x - 1) (Answer x a) r (ended_by e a r) t.ready (t.taken - 1) (t.live - 1) queues t.joins t.sleepers keys st lw (may-answer q a told-end fit)
          (of-answer w x a (fits-simple q a told-end.simple fit)) (unborn-births (plan_of routes) past x a (outside-unborn q a told-end.outside fit)) (above (place_is.InHand w) placed) row over-moves
          (λ d d_at g. row-ended routes (record { worker = w; kind = Answer x a }) past d r (ended_by e a r) g (sym (ended-by-born e a r)) l (rw now-over (is-over d d_at)))
          (st.ready ∙ sym (numbers-stay row_ready 1 t.rows (x - 1) r (ended_by e a r) row (ap state_ready in-hand.1 ∙ sym (ap state_ready now-over))))
          (rw (was-held, b) (omega (arith, n))) (rw (was-live, l) (omega (arith, m)))
          (λ legal. queues-ended workers limit w x (Answer x a) h.birth t.queues (leaving-answer x a (outside-unqueued q a told-end.outside fit)) legal h.at over-some st.queues r.born queues h.stands.born leaves) joins-over
          (λ legal. sleepers-stay routes workers limit w (Answer x a) past t.sleepers legal (outside-wakeful q a told-end.outside fit) st.sleepers) (outside-ungrouped q a told-end.outside fit)
          (keys-over routes workers limit past st.legal.entries w x (record { end = closed_end h.birth (closing_by e a); message = is-over-here.message }) held-alive t.keys keys
          (subst (λ (d : Ending). Settles x d t.keys keys) (sym (ending-over h.birth e a)) settled) st.keys a (outside-unclaimed q a told-end.outside fit) (over-so is-over-here)))

    pub end-not-outside : (q : Request) (e : End) (a : Reply) → IsAsked (plan_of routes) past x q → fits q a ≡ true → end_asked (Some q) ≡ Some e → row_outside (ended_by e a r) ≡ false
    end-not-outside q e a asks fit ends =
        let k = held-asks q asks in
        let y = asks-to-end q e k.outside ends in
        ended-by-not-outside e y.message a r (rw y.is at fit)

    -- it is ended for want of memory
    gone-some : is_some (ended (plan_of routes) ((record { worker = w; kind = Starve x }) ∷ past) x) ≡ true
    gone-some =
        let h = here (place_is.InHand w) placed in
        let o = subst (λ (n : ℕ). HasEnded routes ((record { worker = w; kind = Starve n }) ∷ past) h.birth closing.Starved) h.number (has-starved routes past w h.birth) in
        ends-some (plan_of routes) (record { worker = w; kind = Starve x }) past x h.birth (closed_end h.birth closing.Starved) o.message h.at o.ends

    pub give-up-leaves : MayLeave r.born t.queues
    give-up-leaves =
        let h = here (place_is.InHand w) placed in
        let legal = legal-add (plan_of routes) workers limit (record { worker = w; kind = Starve x }) past st.legal lw (inr placed) in
        may-leave workers limit w x (Starve x) h.birth t.queues (leaving-starve x) legal.entries h.at gone-some st.queues r.born h.stands.born

    -- what it asked
    held-request : (q : Request) × HeldAsks q
    held-request =
        let h = here (place_is.InHand w) placed in
        let s : StateStands routes past h.birth (state.Held in-hand.0 w) = rw in-hand.1 at h.stands.stands in
        let is = asked-by-fate routes past x h.birth s.0 s.1.at h.at (fate-asks routes past h.birth in-hand.0 s.0 (Some w) s.1) in
        (s.0, record { asking = s.1; asked_is = is; outside = s.2; simple = outside-simple s.0 s.2 })

    gone-shut : IsShut x st.joins.calls st.joins.calls
    gone-shut = held-shut held-request.0 held-request.1

    gone-so : ended (plan_of routes) ((record { worker = w; kind = Starve x }) ∷ past) x ≡ Some (record { end = out_of_memory; message = (here (place_is.InHand w) placed).birth.message })
    gone-so = let h = here (place_is.InHand w) placed in starved-end routes past w x h.birth h.number h.at

    told-gone : (p i : ℕ) → r.born ≡ made.Part p i → starved_end r.birth r.fault ≡ Some (record { end = out_of_memory; message = (here (place_is.InHand w) placed).birth.message })
    told-gone p i is =
        let h = here (place_is.InHand w) placed in
        starved-told r h.birth p i is (subst (λ (v : Bool). Keeps r.born v h.birth r.birth r.fault) was-live h.stands.kept)

    pub give-up-tells : MayTell r.born x (starved_end r.birth r.fault) t.joins
    give-up-tells =
        let h = here (place_is.InHand w) placed in
        let legal = legal-add (plan_of routes) workers limit (record { worker = w; kind = Starve x }) past st.legal lw (inr placed) in
        may-tell workers limit w x (Starve x) h.birth (record { end = out_of_memory; message = h.birth.message }) legal.entries st.simple (eq-eqb x x refl) (λ y ne. not-same y x ne) (λ n. refl)
        h.at held-alive gone-so st.joins st.joins.calls gone-shut t.joins st.joins.stands r.born (starved_end r.birth r.fault) h.stands.born told-gone

    module _ (queues : List QueueView) (joins : List (ℕ × Open)) (behind : Option ℕ) (leaves : Leaves r.born t.queues queues) (tells : Tells r.born x (starved_end r.birth r.fault) t.joins joins) (wakes : Wakes r.born joins behind) where
      joins-gone : KeepsRules (plan_of routes) workers limit ((record { worker = w; kind = Starve x }) ∷ past) → JoinsStand routes ((record { worker = w; kind = Starve x }) ∷ past) joins
      joins-gone legal =
          let h = here (place_is.InHand w) placed in
          joins-ended workers limit w x (Starve x) h.birth (record { end = out_of_memory; message = h.birth.message }) legal st.simple (eq-eqb x x refl) (λ y ne. not-same y x ne) (λ n. refl)
          h.at held-alive gone-so st.joins st.joins.calls gone-shut t.joins st.joins.stands r.born (starved_end r.birth r.fault) joins h.stands.born told-gone tells

      gone-moves : KeepsRules (plan_of routes) workers limit ((record { worker = w; kind = Starve x }) ∷ past) → AlsoMoves routes past (record { worker = w; kind = Starve x }) x behind
      gone-moves legal =
          let h = here (place_is.InHand w) placed in
          also-moves workers limit w x (Starve x) h.birth (record { end = out_of_memory; message = h.birth.message }) legal st.simple (eq-eqb x x refl) (λ y ne. not-same y x ne) (λ n. refl)
          h.at held-alive gone-so st.joins st.joins.calls gone-shut t.joins st.joins.stands r.born joins behind h.stands.born (joins-gone legal) wakes

      pub give-up-wakes : (y : ℕ) → behind ≡ Some y → (0 < y) × (y ≤ length t.rows)
      give-up-wakes y is =
          let legal = legal-add (plan_of routes) workers limit (record { worker = w; kind = Starve x }) past st.legal lw (inr placed) in
          woken-within t st (record { worker = w; kind = Starve x }) x behind y is (gone-moves legal.entries)

      pub stands-give-up : (keys : KeyTable) → Settles x (ending_of out_of_memory) t.keys keys → Stands routes workers limit ((record { worker = w; kind = Starve x }) ∷ past) (record t {
        rows = rows_behind behind (put_at t.rows (x - 1) (closed stage.Starved r));
        ready = ready_behind behind t.ready;
        taken = t.taken - 1;
        live = t.live - 1;
        queues = queues;
        joins = joins;
        keys = keys;
      })
      stands-give-up keys settled =
          let h = here (place_is.InHand w) placed in
          let n = taken-above in
          let m = held-live in
          rw (append-nil t.notes, add-zero t.turns) at
          (stands-end routes workers limit past t w x (x - 1) (Starve x) r (closed stage.Starved r) t.ready (t.taken - 1) (t.live - 1) queues joins keys behind st lw (inr placed) (of-starve w x) refl (above (place_is.InHand w) placed) row gone-moves
          (λ d d_at g.
          row-ended routes (record { worker = w; kind = Starve x }) past d r (closed stage.Starved r) g refl refl
          (subst (λ (n : ℕ). HasEnded routes ((record { worker = w; kind = Starve n }) ∷ past) d closing.Starved) (number-of (place_is.InHand w) placed d d_at) (has-starved routes past w d)))
          (st.ready ∙ sym (numbers-stay row_ready 1 t.rows (x - 1) r (closed stage.Starved r) row (ap state_ready in-hand.1)))
          (rw was-held (omega (arith, n))) (rw was-live (omega (arith, m)))
          (λ legal. queues-ended workers limit w x (Starve x) h.birth t.queues (leaving-starve x) legal h.at gone-some st.queues r.born queues h.stands.born leaves) joins-gone refl refl
          (keys-starved routes workers limit past st.legal.entries w x (record { end = out_of_memory; message = h.birth.message }) held-alive t.keys keys settled st.keys gone-so))
