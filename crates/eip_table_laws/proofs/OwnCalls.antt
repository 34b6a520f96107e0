-- The tables behind each entry of an exchange.
use Rattle.std.proofs.Common.{◌≡◌, ℕ, zero, suc, ◌+◌, ◌-◌, ◌<◌, ◌≤◌, Bool, true, false, List, [], ◌∷◌, ◌++◌, length, set as put_at, Option, Some, None, is_some, refl, sym, ap, subst, ◌∙◌, arith, add-zero, inl, eq-eqb, cond}
use Rattle.std.specs.List.{slice_get}
use Rattle.std.proofs.lemmas.Option.{slice_get_within}
use Rattle.eip_exchange.specs.declared.birth.Birth.{Birth}
use Rattle.eip_exchange.specs.declared.message.Message.{Message}
use Rattle.std.proofs.lemmas.List.{append-nil}
use Rattle.eip_exchange.specs.declared.end.Fault.{Fault}
use Rattle.eip_exchange.specs.declared.end.Ended.{Ended as Finished}
use Rattle.eip_exchange.specs.Ends.{ending_of, out_of_memory}
use Rattle.eip_exchange.specs.declared.end.End.{End}
use Rattle.eip_exchange.specs.declared.end.End.TheVariants as end
use Rattle.eip_route.specs.declared.route.RouteSet.{RouteSet}
use Rattle.eip_frames.specs.declared.request.At.{At}
use Rattle.eip_frames.specs.declared.request.Request.{Request}
use Rattle.eip_frames.specs.declared.request.Request.TheVariants as request
use Rattle.eip_frames.specs.declared.answer.Answer.{Answer as Reply}
use Rattle.eip_frames.specs.declared.answer.Answer.TheVariants as reply
use Rattle.eip_frames.specs.Fate.{AsksNext, Ends}
use Rattle.eip_frames.specs.Fits.{fits, is_outside}
use Rattle.eip_ledger.specs.declared.entry.Entry.{Entry}
use Rattle.eip_ledger.specs.declared.entry.Kind.TheVariants.{Answer, Starve}
use Rattle.eip_ledger.specs.declared.place.Note.{Note}
use Rattle.eip_ledger.specs.declared.place.Place.{Place}
use Rattle.eip_ledger.specs.declared.place.Place.TheVariants as place_is
use Rattle.eip_history.specs.Plan.{Plan}
use Rattle.eip_history.specs.Own.{Past, own, answers, last_answer, numbered}
use Rattle.eip_history.specs.Births.{births, fate, asked, Asked, story, made_by}
use Rattle.eip_history.specs.Place.{place, place_of, ended, end_of, waiting, joined, all_ended, pause_of, Runs}
use Rattle.eip_history.specs.Rules.{IsBelow, KeepsRules, May, MayAct, Content}
use Rattle.eip_history.specs.Tables.{without, bit}
use Rattle.eip_history.specs.TableWords.{open_parts, born_by, is_sleep, is_arrival}
use Rattle.eip_history.specs.Kept.{is_fresh}
use Rattle.eip_history.proofs.Limit.{not-same, turns-more}
use Rattle.eip_history.proofs.Lists.{related-at, related-length, related-push, numbered-at, slice_get-some}
use Rattle.eip_history.proofs.Told.{births-more, births-numbered}
use Rattle.eip_history.proofs.Main.{legal-add}
use Rattle.eip_history.proofs.Places.{ended-is}
use Rattle.eip_history.proofs.Allowed.{last-answers}
use Rattle.eip_history.proofs.Acting.{paused-place}
use Rattle.eip_history.proofs.Unborn.{place-born, birth-stays, newborn-own}
use Rattle.eip_plan.specs.Plan.{plan_of}
use Rattle.eip_plan.specs.Simple.{IsSimpleAnswer}
use Rattle.eip_plan.proofs.Items.{bears, unborn-births, unborn-unqueued}
use Rattle.eip_meaning.proofs.Laws.{finished-ends}
use Rattle.eip_plan.proofs.Laws.{plan-laws}
use Rattle.eip_seda.specs.Consuming as seda
use Rattle.eip_seda.specs.Consuming.{Call, Offered, QueueView}
use Rattle.eip_join.specs.Parts as join
use Rattle.eip_join.specs.Parts.{Call as JoinCall, Took, Open, IsComplete, ends_at, complete}
use Rattle.eip_progress.specs.declared.cursor.Cursor.{Cursor}
use Rattle.eip_tables.specs.declared.row.Born.{Born}
use Rattle.eip_tables.specs.declared.row.Born.TheVariants as made
use Rattle.eip_tables.specs.declared.row.Stage.{Stage}
use Rattle.eip_tables.specs.declared.row.Stage.TheVariants as stage
use Rattle.eip_tables.specs.Row.{Row}
use Rattle.eip_tables.specs.Moves.{answered, copy_row, finished, last_message, part_end, ended_with, starved_end, closed as closed_row}
use Rattle.eip_tables.specs.Offers.{hops_by, copy_birth, refusal}
use Rattle.eip_tables.specs.Closing as closing
use Rattle.eip_tables.specs.State as state
use Rattle.eip_tables.specs.State.{State, state_of, state_by}
use Rattle.eip_tables.specs.Queues.{MayLeave, Leaves}
use Rattle.eip_tables.specs.Groups.{GroupsStand}
use Rattle.eip_tables.specs.Keys.{Settles, KeysStand}
use Rattle.eip_aggregator.specs.Tables.{Table}
use Rattle.eip_idempotent.specs.Keys.{Table as KeyTable}
use Rattle.eip_tables.specs.Parts.{rows_behind, ready_behind}
use Rattle.eip_tables.specs.Joins.{JoinsStand, MayTell, Tells, Wakes, Closes, closing as closing_calls}
use Rattle.eip_tables.specs.Rows.{ComesFrom, Keeps, RowStands, IsAsking, HasAnswer, HasEnded, closed_end, row_ready, row_held, row_live, state_ready, state_held, state_live}
use Rattle.eip_tables.specs.Stands.{Tables, Stands}
use Rattle.eip_table_laws.proofs.PartFacts.{IsNoJoin, unopened, answer-lives, joined-many, stands-alive}
use Rattle.eip_table_laws.proofs.JoinsKept.{opens, ends-are, ready-is, joins-on, joins-closed}
use Rattle.eip_table_laws.proofs.SleepersKept.{sleepers-stay}
use Rattle.eip_table_laws.proofs.GroupsKept.{groups-stay}
use Rattle.eip_table_laws.proofs.KeysKept.{keys-on, keys-over, keys-starved}
use Rattle.eip_table_laws.proofs.Telling.{IsShut, shut-none, shut-closing, may-tell, joins-ended, also-moves, woken-within, starved-end, starved-told}
use Rattle.eip_table_laws.proofs.RowNumbers.{numbers-stay, numbers-leave, count-set, count-push, push-none}
use Rattle.eip_table_laws.proofs.RowPlaces.{plan-mean, row-is_ready, row-on, row-ended, fate-asks}
use Rattle.eip_table_laws.proofs.RowSteps.{mean-asks, runs-simple, fate-answer, has-answer, has-finished, has-starved, closing_of, IsNoFinish}
use Rattle.eip_table_laws.proofs.QueueCalls.{queues-on, queues-offered, leaving-answer, leaving-starve}
use Rattle.eip_table_laws.proofs.Leaving.{ends-some, may-leave, queues-ended}
use Rattle.eip_table_laws.proofs.OwnEvents.{AlsoMoves, stands-own, stands-beside, rows-one, apart-lives, notes_in, of-answer, of-starve}
use Rattle.eip_table_laws.proofs.Ending.{stands-end}

-- an exchange with a place has its row
pub row-within : {set : RouteSet} {workers limit : ℕ} {past : Past} (t : Tables) (x : ℕ) (p : Place) → Stands set workers limit past t → place (plan_of set) past x ≡ Some p → (0 < x) × (x ≤ length t.rows)
row-within {set} {workers} {limit} {past} t zero p st h = let r = place-born (plan_of set) past zero p h in absurd (cc r.1)
row-within {set} {workers} {limit} {past} t (suc i) p st h =
    let r = place-born (plan_of set) past (suc i) p h in
    let at : slice_get (births (plan_of set) past) i ≡ Some r.0 = r.1 in
    (omega arith, omega (arith, slice_get_within (births (plan_of set) past) i r.0 at, related-length (RowStands set past) (births (plan_of set) past) t.rows st.rows))

pub rows-many : {set : RouteSet} {workers limit : ℕ} {past : Past} (t : Tables) → Stands set workers limit past t → length t.rows ≡ length (births (plan_of set) past)
rows-many {set} {workers} {limit} {past} t st = sym (related-length (RowStands set past) (births (plan_of set) past) t.rows st.rows)

-- an exchange that has a row at an index
pub record IsAt (set : RouteSet) (past : Past) (x : ℕ) (r : Row) (p : Place) : Type 0 where
  pub birth : Birth
  pub number : birth.number ≡ x
  pub at : numbered (births (plan_of set) past) x ≡ Some birth
  pub stands : RowStands set past birth r
  pub placed : place_of (plan_of set) past birth ≡ p

pub is-at : {set : RouteSet} {workers limit : ℕ} {past : Past} (t : Tables) (x : ℕ) (p : Place) (r : Row) → Stands set workers limit past t → place (plan_of set) past x ≡ Some p → slice_get t.rows (x - 1) ≡ Some r → IsAt set past x r p
is-at {set} {workers} {limit} {past} t zero p r st h at = let b = place-born (plan_of set) past zero p h in absurd (cc b.1)
is-at {set} {workers} {limit} {past} t (suc i) p r st h at =
    let b = place-born (plan_of set) past (suc i) p h in
    let here : slice_get (births (plan_of set) past) i ≡ Some b.0 = b.1 in
    let e : suc i - 1 ≡ i = omega arith in
    record {
      birth = b.0;
      number = numbered-at 1 (births (plan_of set) past) i b.0 (births-numbered (plan_of set) past) here ∙ omega arith;
      at = b.1;
      stands = related-at (RowStands set past) (births (plan_of set) past) t.rows i b.0 r st.rows here (rw e at at);
      placed = b.2;
    }

-- a Ready exchange's row is ready
pub ready-row : (set : RouteSet) (past : Past) (x : ℕ) (r : Row) (h : IsAt set past x r place_is.Ready) → row_ready r ≡ true
ready-row set past x r h = sym (row-is_ready set past h.birth r h.stands) ∙ rw h.placed refl

-- a state that is ready is in nobody's hand, and has not ended
ready-facts : (g : State) → state_ready g ≡ true → (state_held g ≡ false) × (state_live g ≡ true)
ready-facts state.Queued h = absurd (cc h)
ready-facts state.New h = (refl, refl)
ready-facts (state.Asks c q) h = (refl, refl)
ready-facts (state.Joining c i) h = absurd (cc h)
ready-facts (state.Asleep c i due) h = absurd (cc h)
ready-facts (state.Answered c i) h = (refl, refl)
ready-facts (state.Held c w) h = absurd (cc h)
ready-facts (state.Ended c) h = absurd (cc h)
ready-facts state.Broken h = absurd (cc h)

-- a Ready exchange has been counted among those that have not ended
pub live-above : {set : RouteSet} {workers limit : ℕ} {past : Past} (t : Tables) (x : ℕ) (r : Row) → Stands set workers limit past t → place (plan_of set) past x ≡ Some place_is.Ready → slice_get t.rows (x - 1) ≡ Some r → 1 ≤ t.live
live-above {set} {workers} {limit} {past} t x r st ready row =
    let here = is-at t x place_is.Ready r st ready row in
    let facts = ready-facts (state_of r) (ready-row set past x r here) in
    let k = count-set row_live t.rows (x - 1) r (closed_row stage.Starved r) row in
    let a = ap bit facts.1 in
    omega (arith, k, a, st.live)

-- an exchange with a place has a row
pub placed-some : {set : RouteSet} {workers limit : ℕ} {past : Past} (t : Tables) (x : ℕ) (p : Place) → Stands set workers limit past t → place (plan_of set) past x ≡ Some p → (r : Row) × (slice_get t.rows (x - 1) ≡ Some r)
placed-some t x p st placed = let h = row-within t x p st placed in slice_get-some t.rows (x - 1) (omega (arith, h.0, h.1))

pub ready-some : {set : RouteSet} {workers limit : ℕ} {past : Past} (t : Tables) (x : ℕ) → Stands set workers limit past t → place (plan_of set) past x ≡ Some place_is.Ready → (r : Row) × (slice_get t.rows (x - 1) ≡ Some r)
ready-some t x st ready = placed-some t x place_is.Ready st ready

-- what an exchange asks, by its birth and its fate
pub asked-by-fate : (set : RouteSet) (past : Past) (x : ℕ) (b : Birth) (q : Request) (p : At) → numbered (births (plan_of set) past) x ≡ Some b → fate (plan_of set) past b ≡ AsksNext q p
    → asked (plan_of set) past x ≡ Some (record { birth = b; request = q; at = p })
asked-by-fate set past x b q p at h = rw (at, h) refl

-- the fields of a row that asks
pub asks-fields : (g : Stage) (oc : Option Cursor) (oq : Option Request) (f : Option Fault) (c : Cursor) (q : Request) → state_by g oc oq f ≡ state.Asks c q → (oc ≡ Some c) × (oq ≡ Some q)
asks-fields stage.Asks (Some c') (Some q') f c q h = (cc, cc)
asks-fields stage.Failed oc oq (Some f) c q h = absurd (cc h)
asks-fields (stage.Held w) (Some c') oq f c q h = absurd (cc h)
asks-fields (stage.Joining i) (Some c') oq f c q h = absurd (cc h)
asks-fields (stage.Asleep i due) (Some c') oq f c q h = absurd (cc h)
asks-fields (stage.Answered i) (Some c') oq f c q h = absurd (cc h)
asks-fields _ _ _ f c q h = absurd (cc h)

-- an exchange whose line is written has that answer to come
pub answered-state : (i : ℕ) (r : Row) (c : Cursor) (q : Request) → state_of r ≡ state.Asks c q → state_of (answered i r) ≡ state.Answered c i
answered-state i r c q h = let f = asks-fields r.stage r.cursor r.request r.fault c q h in rw f.0 refl

ended-state : (e : End) (r : Row) → state_of (finished e r) ≡ state.Ended (closing_of e)
ended-state end.Completed r = refl
ended-state end.Handled r = refl
ended-state (end.Failed f) r = refl

-- a row of who lives tells how many hops it has
pub hops-told : (s : Plan) (past : Past) (o : Born) (kept : Option Birth) (f : Option Fault) (b : Birth) → ComesFrom s past o b → Keeps o true b kept f → hops_by o kept ≡ b.hops
hops-told s past (made.Item i) kept f b h k = sym (ap (λ (d : Birth). d.hops) h.birth)
hops-told s past (made.Copy q) kept f b h k = rw k refl
hops-told s past (made.Part y j) kept f b h k = rw k.0 refl
hops-told s past (made.Group g c) kept f b h k = rw k.1 (ap (λ (d : Birth). d.hops) (sym k.2))

module _ {routes : RouteSet} {workers limit : ℕ} {past : Past} (t : Tables) (w x : ℕ) (st : Stands routes workers limit past t) (lw : w ≤ workers) (c : Cursor) (r : Row)
    (ready : place (plan_of routes) past x ≡ Some place_is.Ready) (row : slice_get t.rows (x - 1) ≡ Some r) where
  pub here : IsAt routes past x r place_is.Ready
  here = is-at t x place_is.Ready r st ready row

  pub above : suc (x - 1) ≡ x
  above = let h = row-within t x place_is.Ready st ready in omega (arith, h.0)

  same-birth : (b : Birth) → slice_get (births (plan_of routes) past) (x - 1) ≡ Some b → here.birth ≡ b
  same-birth b at = let at' : slice_get (births (plan_of routes) past) (x - 1) ≡ Some here.birth = subst (λ (n : ℕ). numbered (births (plan_of routes) past) n ≡ Some here.birth) (sym above) here.at in cc

  number-of : (b : Birth) → slice_get (births (plan_of routes) past) (x - 1) ≡ Some b → b.number ≡ x
  number-of b at = ap (λ (d : Birth). d.number) (sym (same-birth b at)) ∙ here.number

  module _ (q : Request) (asks : state_of r ≡ state.Asks c q) where
    pub asking : IsAsking routes past here.birth c q None
    asking = rw asks at here.stands.stands

    pub asked-here : asked (plan_of routes) past x ≡ Some (record { birth = here.birth; request = q; at = asking.at })
    asked-here = asked-by-fate routes past x here.birth q asking.at here.at (fate-asks routes past here.birth c q None asking)

    -- the request that it is known to ask is the one that its next answer is for
    pub asked-there : (k : Asked) × (asked (plan_of routes) past x ≡ Some k) × (k.request ≡ q)
    asked-there = (record { birth = here.birth; request = q; at = asking.at }, asked-here, refl)

    still-ready : row_ready r ≡ true
    still-ready = ap state_ready asks

    not-held : row_held r ≡ false
    not-held = ap state_held asks

    was-live : row_live r ≡ true
    was-live = ap state_live asks

    -- it has been counted among those that have not ended
    live-counts : 1 ≤ t.live
    live-counts = let k = count-set row_live t.rows (x - 1) r (finished end.Completed r) row in let a = ap bit was-live in omega (arith, k, a, st.live)

  pub has-it : (q : Request) (a : Reply) → state_of r ≡ state.Asks c q → pause_of (Some a) ≡ Runs → IsNoFinish q → fits q a ≡ true → (d : Birth) → slice_get (births (plan_of routes) past) (x - 1) ≡ Some d → RowStands routes past d r
      → HasAnswer routes ((record { worker = w; kind = Answer x a }) ∷ past) d c (length past) place_is.Ready
  has-it q a asks runs goes fit d d_at h =
      subst (λ (n : ℕ). HasAnswer routes ((record { worker = w; kind = Answer n a }) ∷ past) d c (length past) place_is.Ready) (number-of d d_at)
      (has-answer routes past w d c q a None place_is.Ready (rw runs refl) goes fit (rw asks at h.stands))

  -- it goes on with an answer that needs nobody outside
  module _ (q : Request) (a : Reply) (written : List Note) (asks : state_of r ≡ state.Asks c q) (inner : is_outside q ≡ false) (simple : IsSimpleAnswer a)
      (unborn : bears a ≡ false) (wakeful : is_sleep a ≡ false) (goes : IsNoFinish q) (fit : fits q a ≡ true) where
    now-answered : state_of (answered (length past) r) ≡ state.Answered c (length past)
    now-answered = answered-state (length past) r c q asks

    pub goes-on : ended (plan_of routes) ((record { worker = w; kind = Answer x a }) ∷ past) x ≡ None
    goes-on =
        let e : Entry = record { worker = w; kind = Answer x a } in
        let at : slice_get (births (plan_of routes) past) (x - 1) ≡ Some here.birth = subst (λ (n : ℕ). numbered (births (plan_of routes) past) n ≡ Some here.birth) (sym above) here.at in
        ended-is (plan_of routes) (e ∷ past) x here.birth (birth-stays (plan_of routes) e past x here.birth here.at) ∙ (has-it q a asks (runs-simple a unborn wakeful) goes fit here.birth at here.stands).lives

    pub stands-with : (joins : List (ℕ × Open)) (groups : Table) (keys : KeyTable) → IsBelow (plan_of routes) limit past → Content (plan_of routes) past (record { birth = here.birth; request = q; at = (asking q asks).at }) q a → notes_in (plan_of routes) past w (Answer x a) ≡ written
        → (KeepsRules (plan_of routes) workers limit ((record { worker = w; kind = Answer x a }) ∷ past) → JoinsStand routes ((record { worker = w; kind = Answer x a }) ∷ past) joins)
        → GroupsStand routes ((record { worker = w; kind = Answer x a }) ∷ past) groups
        → KeysStand routes ((record { worker = w; kind = Answer x a }) ∷ past) keys
        → Stands routes workers limit ((record { worker = w; kind = Answer x a }) ∷ past)
        (record t { rows = put_at t.rows (x - 1) (answered (length past) r); turns = t.turns + 1; notes = t.notes ++ written; joins = joins; groups = groups; keys = keys })
    stands-with joins groups keys below content written_is joins_are groups_are keys_are =
        let b : row_held (answered (length past) r) ≡ false = ap state_held now-answered in
        let l : row_live (answered (length past) r) ≡ true = ap state_live now-answered in
        rw written_is at
        (stands-beside routes workers limit past t w x (x - 1) (Answer x a) r (answered (length past) r) t.ready t.taken t.live t.queues joins t.sleepers groups keys st lw
        (record {
          asks = record { birth = here.birth; request = q; at = (asking q asks).at };
          asked_is = asked-here q asks;
          fitting = fit;
          act = subst (λ (v : Bool). MayAct (plan_of routes) limit past w x v) (sym inner) (ready, below);
          content = content;
        })
        (of-answer w x a simple) (unborn-births (plan_of routes) past x a unborn) above row
        (λ legal. apart-lives routes workers limit w x (Answer x a) past legal (of-answer w x a simple) goes-on)
        (λ d d_at h. row-on routes (record { worker = w; kind = Answer x a }) past d r (answered (length past) r) h refl refl refl (was-live q asks ∙ sym l) (rw now-answered (has-it q a asks (runs-simple a unborn wakeful) goes fit d d_at h)))
        (st.ready ∙ sym (numbers-stay row_ready 1 t.rows (x - 1) r (answered (length past) r) row (still-ready q asks ∙ sym (ap state_ready now-answered))))
        (rw (not-held q asks, b) refl) (rw (was-live q asks, l) refl)
        (λ legal. queues-on routes workers limit w x a past here.birth t.queues legal (unborn-unqueued a unborn) here.at goes-on st.queues) joins_are
        (λ legal. sleepers-stay routes workers limit w (Answer x a) past t.sleepers legal wakeful st.sleepers) groups_are keys_are)

    pub stands-on : (joins : List (ℕ × Open)) → IsBelow (plan_of routes) limit past → Content (plan_of routes) past (record { birth = here.birth; request = q; at = (asking q asks).at }) q a → notes_in (plan_of routes) past w (Answer x a) ≡ written
        → (KeepsRules (plan_of routes) workers limit ((record { worker = w; kind = Answer x a }) ∷ past) → JoinsStand routes ((record { worker = w; kind = Answer x a }) ∷ past) joins) → is_arrival a ≡ false → is_fresh a ≡ false
        → Stands routes workers limit ((record { worker = w; kind = Answer x a }) ∷ past)
        (record t { rows = put_at t.rows (x - 1) (answered (length past) r); turns = t.turns + 1; notes = t.notes ++ written; joins = joins })
    stands-on joins below content written_is joins_are still unclaimed =
        stands-with joins t.groups t.keys below content written_is joins_are (groups-stay routes w (Answer x a) past t.groups still st.groups) (keys-on routes w x a past t.keys unclaimed goes-on st.keys)

    -- and its joins are as they were, where it asked for none
    pub same-joins : born_by a ≡ None → IsNoJoin q → KeepsRules (plan_of routes) workers limit ((record { worker = w; kind = Answer x a }) ∷ past) → JoinsStand routes ((record { worker = w; kind = Answer x a }) ∷ past) t.joins
    same-joins none other legal =
        joins-on routes workers limit w x a past legal goes-on none (unopened routes past x (record { birth = here.birth; request = q; at = (asking q asks).at }) (asked-here q asks) other) st.joins

  -- its line of the log is written
  pub stands-note : (name text : List ℕ) → state_of r ≡ state.Asks c (request.Log name text) → IsBelow (plan_of routes) limit past
      → Stands routes workers limit ((record { worker = w; kind = Answer x reply.Noted }) ∷ past)
      (record t { rows = put_at t.rows (x - 1) (answered (length past) r); turns = t.turns + 1; notes = t.notes ++ (record { number = x; name = name; text = text }) ∷ [] })
  stands-note name text asks below =
      let q : Request = request.Log name text in
      let note : List Note = (record { number = x; name = name; text = text }) ∷ [] in
      let written : notes_in (plan_of routes) past w (Answer x reply.Noted) ≡ note = rw (asked-here q asks, here.number) refl in
      stands-on q reply.Noted note asks refl tt refl refl tt refl t.joins below tt written (same-joins q reply.Noted note asks refl tt refl refl tt refl refl tt) refl refl

  -- the block of the route that it calls runs
  pub stands-entered : (route : ℕ) → state_of r ≡ state.Asks c (request.Call route) → IsBelow (plan_of routes) limit past
      → Stands routes workers limit ((record { worker = w; kind = Answer x reply.Entered }) ∷ past)
      (record t { rows = put_at t.rows (x - 1) (answered (length past) r); turns = t.turns + 1 })
  stands-entered route asks below =
      let q : Request = request.Call route in
      rw (append-nil t.notes) at (stands-on q reply.Entered [] asks refl tt refl refl tt refl t.joins below tt (rw (asked-here q asks) refl) (same-joins q reply.Entered [] asks refl tt refl refl tt refl refl tt) refl refl)

  -- the queue that it offers to is full
  pub stands-full : (queue size : ℕ) (m : Message) → state_of r ≡ state.Asks c (request.Offer queue false m) → IsBelow (plan_of routes) limit past
      → size ≡ length (waiting (plan_of routes) past queue) → ((plan_of routes).queue queue).size ≤ size
      → Stands routes workers limit ((record { worker = w; kind = Answer x (reply.Full size) }) ∷ past)
      (record t { rows = put_at t.rows (x - 1) (answered (length past) r); turns = t.turns + 1 })
  stands-full queue size m asks below many full =
      let q : Request = request.Offer queue false m in
      rw (append-nil t.notes) at (stands-on q (reply.Full size) [] asks refl tt refl refl tt refl t.joins below (many, full) (rw (asked-here q asks) refl) (same-joins q (reply.Full size) [] asks refl tt refl refl tt refl refl tt) refl refl)

  -- and drops the copy
  pub stands-dropped : (queue : ℕ) (m : Message) → state_of r ≡ state.Asks c (request.Offer queue true m) → IsBelow (plan_of routes) limit past
      → ((plan_of routes).queue queue).size ≤ length (waiting (plan_of routes) past queue)
      → Stands routes workers limit ((record { worker = w; kind = Answer x reply.Dropped }) ∷ past)
      (record t { rows = put_at t.rows (x - 1) (answered (length past) r); turns = t.turns + 1 })
  stands-dropped queue m asks below full =
      let q : Request = request.Offer queue true m in
      rw (append-nil t.notes) at (stands-on q reply.Dropped [] asks refl tt refl refl tt refl t.joins below full (rw (asked-here q asks) refl) (same-joins q reply.Dropped [] asks refl tt refl refl tt refl refl tt) refl refl)

  -- the copy is refused by the full queue
  pub stands-refused : (queue : ℕ) (discard : Bool) (size : ℕ) (m : Message) → state_of r ≡ state.Asks c (request.Offer queue discard m) → IsBelow (plan_of routes) limit past
      → size ≡ length (waiting (plan_of routes) past queue) → ((plan_of routes).queue queue).size ≤ size
      → Stands routes workers limit ((record { worker = w; kind = Answer x (refusal discard size) }) ∷ past)
      (record t { rows = put_at t.rows (x - 1) (answered (length past) r); turns = t.turns + 1 })
  stands-refused queue true size m asks below many full = stands-dropped queue m asks below (omega (arith, many, full))
  stands-refused queue false size m asks below many full = stands-full queue size m asks below many full

  -- it is told how its parts ended
  module _ (first count : ℕ) (asks : state_of r ≡ state.Asks c (request.Join first count)) where
    -- its last answer is that they were born
    parts-last : last_answer (own x past) ≡ Some (reply.Born first count)
    parts-last =
        let a = asking (request.Join first count) asks in
        let given = answers (own here.birth.number past) in
        let last = (plan-laws routes).joins here.birth given first count a.at (plan-mean routes here.birth given ∙ mean-asks routes past here.birth c (request.Join first count) None a) in
        ap (λ (n : ℕ). last_answer (own n past)) (sym here.number) ∙ (last-answers (own here.birth.number past) ∙ last)

    parts-open : open_parts (plan_of routes) past x ≡ Some (first, count)
    parts-open = opens (plan_of routes) past x first count parts-last (ended-is (plan_of routes) past x here.birth here.at ∙ ap end_of (fate-asks routes past here.birth c (request.Join first count) None (asking (request.Join first count) asks)))

    parts-over : all_ended (plan_of routes) past first count ≡ true
    parts-over = by_all (all_ended (plan_of routes) past first count) (let able = paused-place (plan_of routes) past here.birth here.placed in let n = here.number in rw (n, parts-last) at able)
      where
        by_all : (v : Bool) → cond v place_is.Ready place_is.Joining ≡ place_is.Ready → v ≡ true
        by_all true h = refl
        by_all false h = absurd (cc h)

    -- they have all ended
    pub ends-complete : IsComplete x t.joins
    ends-complete = ap (λ (o : Option Open). is_some (complete o)) (st.joins.stands x) ∙ (ready-is st.joins x first count parts-open ∙ parts-over)

    pub stands-joined : (parts : List Finished) (joins : List (ℕ × Open)) → IsBelow (plan_of routes) limit past
        → ((calls : List JoinCall) → join.Stands calls t.joins → ends_at calls x ≡ Some parts) → ((calls : List JoinCall) → join.Stands calls t.joins → join.Stands (Took x ∷ calls) joins)
        → Stands routes workers limit ((record { worker = w; kind = Answer x (reply.Joined parts) }) ∷ past)
        (record t { rows = put_at t.rows (x - 1) (answered (length past) r); turns = t.turns + 1; joins = joins })
    stands-joined parts joins below told took =
        let q : Request = request.Join first count in
        let all : joined (plan_of routes) past first count ≡ Some parts = sym (ends-are st.joins x first count parts-open) ∙ told st.joins.calls st.joins.stands in
        let fit : fits q (reply.Joined parts) ≡ true = eq-eqb (length parts) count (joined-many (plan_of routes) past first count parts all) in
        rw (append-nil t.notes) at
        (stands-on q (reply.Joined parts) [] asks refl tt refl refl tt fit joins below all (rw (asked-here q asks) refl)
        (λ legal. joins-closed routes workers limit w x (reply.Joined parts) past legal (goes-on q (reply.Joined parts) [] asks refl tt refl refl tt fit) joins refl took st.joins) refl refl)

  -- the queue that it offers to is one of the set's
  pub offer-within : (queue : ℕ) (discard : Bool) (m : Message) → state_of r ≡ state.Asks c (request.Offer queue discard m) → queue < (plan_of routes).routes
  offer-within queue discard m asks =
      let a = asking (request.Offer queue discard m) asks in
      let laws = plan-laws routes in
      (laws.offers here.birth (answers (own here.birth.number past)) queue discard m a.at (plan-mean routes here.birth (answers (own here.birth.number past)) ∙ mean-asks routes past here.birth c (request.Offer queue discard m) None a)).0

  pub hops-are : (q : Request) → state_of r ≡ state.Asks c q → hops_by r.born r.birth ≡ here.birth.hops
  hops-are q asks = hops-told (plan_of routes) past r.born r.birth r.fault here.birth here.stands.born (subst (λ (v : Bool). Keeps r.born v here.birth r.birth r.fault) (ap state_live asks) here.stands.kept)

  -- and they are few, since each is a turn
  pub hops-few : (q : Request) → state_of r ≡ state.Asks c q → IsBelow (plan_of routes) limit past → hops_by r.born r.birth < 1000000
  hops-few q asks below =
      omega (arith, hops-are q asks, here.stands.hops, below, st.legal.few_turns)

  -- a copy of its message comes into a queue
  module _ (queue : ℕ) (discard : Bool) (m : Message) (asks : state_of r ≡ state.Asks c (request.Offer queue discard m)) (below : IsBelow (plan_of routes) limit past)
      (room : length (waiting (plan_of routes) past queue) < ((plan_of routes).queue queue).size) where
    may-offer : May (plan_of routes) limit past w (Answer x (reply.Queued (length t.rows + 1)))
    may-offer = record {
      asks = record { birth = here.birth; request = request.Offer queue discard m; at = (asking (request.Offer queue discard m) asks).at };
      asked_is = asked-here (request.Offer queue discard m) asks;
      fitting = refl;
      act = (ready, below);
      content = (ap (λ n. n + 1) (rows-many t st), room);
    }

    -- the copy is the exchange that the entry makes
    copy-made : births (plan_of routes) ((record { worker = w; kind = Answer x (reply.Queued (length t.rows + 1)) }) ∷ past)
        ≡ births (plan_of routes) past ++ copy_birth routes (length t.rows + 1) queue (hops_by r.born r.birth) m ∷ []
    copy-made =
        let s = plan_of routes in
        let e : Entry = record { worker = w; kind = Answer x (reply.Queued (length t.rows + 1)) } in
        let hops = hops-are (request.Offer queue discard m) asks in
        births-more s e past
        ∙ (ap (λ o. births s past ++ made_by s (story s past) past o (reply.Queued (length t.rows + 1))) (asked-here (request.Offer queue discard m) asks)
        ∙ rw (hops, rows-many t st) refl)

    copy-row : KeepsRules (plan_of routes) workers limit ((record { worker = w; kind = Answer x (reply.Queued (length t.rows + 1)) }) ∷ past)
        → RowStands routes ((record { worker = w; kind = Answer x (reply.Queued (length t.rows + 1)) }) ∷ past) (copy_birth routes (length t.rows + 1) queue (hops_by r.born r.birth) m)
        (copy_row queue (copy_birth routes (length t.rows + 1) queue (hops_by r.born r.birth) m))
    copy-row legal =
        let e : Entry = record { worker = w; kind = Answer x (reply.Queued (length t.rows + 1)) } in
        let hops = hops-are (request.Offer queue discard m) asks in
        let many = rows-many t st in
        record {
          born = refl;
          kept = refl;
          hops = omega (arith, hops, here.stands.hops, turns-more e past);
          stands = record { queue = queue; origin = refl; none = newborn-own (plan_of routes) workers limit e past (length t.rows + 1) legal (omega (arith, many)) };
        }

    pub stands-queued : (queues : List QueueView) → ((limits : List (ℕ × ℕ)) (calls : List Call) → seda.Stands limits calls t.queues → seda.Stands limits (Offered queue (length t.rows + 1) ∷ calls) queues)
        → Stands routes workers limit ((record { worker = w; kind = Answer x (reply.Queued (length t.rows + 1)) }) ∷ past)
        (record t {
          rows = put_at t.rows (x - 1) (answered (length past) r) ++ (copy_row queue (copy_birth routes (length t.rows + 1) queue (hops_by r.born r.birth) m)) ∷ [];
          turns = t.turns + 1;
          live = t.live + 1;
          queues = queues;
        })
    stands-queued queues offers =
        let q : Request = request.Offer queue discard m in
        let a : Reply = reply.Queued (length t.rows + 1) in
        let k : Asked = record { birth = here.birth; request = q; at = (asking q asks).at } in
        let new : Row = answered (length past) r in
        let copy : Row = copy_row queue (copy_birth routes (length t.rows + 1) queue (hops_by r.born r.birth) m) in
        let now = answered-state (length past) r c q asks in
        let l : row_live new ≡ true = ap state_live now in
        let h' : row_held new ≡ false = ap state_held now in
        let none : notes_in (plan_of routes) past w (Answer x a) ≡ [] = rw (asked-here q asks) refl in
        let lives = answer-lives routes w x a past k (asked-here q asks) (λ h. cc h) (λ h. cc h) in
        rw (none, append-nil t.notes) at
        (stands-own routes workers limit past t w x (Answer x a) (put_at t.rows (x - 1) new ++ copy ∷ []) t.ready t.taken (t.live + 1) queues t.joins t.sleepers t.groups t.keys st lw may-offer (of-answer w x a tt)
        (λ legal. rw copy-made
        (related-push (RowStands routes ((record { worker = w; kind = Answer x a }) ∷ past)) (births (plan_of routes) past) (put_at t.rows (x - 1) new) _ copy
        (rows-one routes workers limit past t w x (x - 1) (Answer x a) r new st legal (of-answer w x a tt) above row (apart-lives routes workers limit w x (Answer x a) past legal (of-answer w x a tt) lives)
        (λ d d_at h. row-on routes (record { worker = w; kind = Answer x a }) past d r new h refl refl refl (was-live q asks ∙ sym l) (rw now (has-it q a asks refl tt refl d d_at h))))
        (copy-row legal)))
        (st.ready ∙ (sym (numbers-stay row_ready 1 t.rows (x - 1) r new row (still-ready q asks ∙ sym (ap state_ready now))) ∙ sym (push-none row_ready (put_at t.rows (x - 1) new) copy refl)))
        (let n = count-set row_held t.rows (x - 1) r new row in let p = count-push row_held (put_at t.rows (x - 1) new) copy in let g = ap bit (not-held q asks) in let g' = ap bit h' in omega (arith, n, p, g, g', st.taken))
        (let n = count-set row_live t.rows (x - 1) r new row in let p = count-push row_live (put_at t.rows (x - 1) new) copy in let g = ap bit (was-live q asks) in let g' = ap bit l in omega (arith, n, p, g, g', st.live))
        (λ legal. queues-offered routes workers limit w x (length t.rows + 1) past k queue discard m t.queues queues legal (asked-here q asks) refl offers st.queues)
        (λ legal. joins-on routes workers limit w x a past legal lives refl (unopened routes past x k (asked-here q asks) tt) st.joins)
        (λ legal. sleepers-stay routes workers limit w (Answer x a) past t.sleepers legal refl st.sleepers)
        (groups-stay routes w (Answer x a) past t.groups refl st.groups)
        (keys-on routes w x a past t.keys refl lives st.keys))

  -- it ends
  module _ (e : End) (m : Message) (asks : state_of r ≡ state.Asks c (request.Finish e m false)) where
    now-ended : state_of (finished e r) ≡ state.Ended (closing_of e)
    now-ended = ended-state e r

    has-done : (d : Birth) → slice_get (births (plan_of routes) past) (x - 1) ≡ Some d → RowStands routes past d r → HasEnded routes ((record { worker = w; kind = Answer x reply.Finished }) ∷ past) d (closing_of e)
    has-done d d_at h =
        subst (λ (n : ℕ). HasEnded routes ((record { worker = w; kind = Answer n reply.Finished }) ∷ past) d (closing_of e)) (number-of d d_at)
        (has-finished routes past w d c e m false None (rw asks at h.stands))

    may-finish : IsBelow (plan_of routes) limit past → May (plan_of routes) limit past w (Answer x reply.Finished)
    may-finish below = record {
      asks = record { birth = here.birth; request = request.Finish e m false; at = (asking (request.Finish e m false) asks).at };
      asked_is = asked-here (request.Finish e m false) asks;
      fitting = refl;
      act = (ready, below);
      content = tt;
    }

    done-some : is_some (ended (plan_of routes) ((record { worker = w; kind = Answer x reply.Finished }) ∷ past) x) ≡ true
    done-some =
        let at : slice_get (births (plan_of routes) past) (x - 1) ≡ Some here.birth = subst (λ (n : ℕ). numbered (births (plan_of routes) past) n ≡ Some here.birth) (sym above) here.at in
        let h = has-done here.birth at here.stands in
        ends-some (plan_of routes) (record { worker = w; kind = Answer x reply.Finished }) past x here.birth (closed_end here.birth (closing_of e)) h.message here.at h.ends

    -- where it came through a queue, it is at work on it
    pub finish-leaves : IsBelow (plan_of routes) limit past → MayLeave r.born t.queues
    finish-leaves below =
        let legal = legal-add (plan_of routes) workers limit (record { worker = w; kind = Answer x reply.Finished }) past st.legal lw (may-finish below) in
        may-leave workers limit w x (Answer x reply.Finished) here.birth t.queues (leaving-answer x reply.Finished refl) legal.entries here.at done-some st.queues r.born here.stands.born

    abbrev lasted : Asked
    lasted = record { birth = here.birth; request = request.Finish e m false; at = (asking (request.Finish e m false) asks).at }

    alive : ended (plan_of routes) past x ≡ None
    alive = ended-is (plan_of routes) past x here.birth here.at ∙ ap end_of (fate-asks routes past here.birth c (request.Finish e m false) None (asking (request.Finish e m false) asks))

    -- it ends with the message that it asked to end with
    ended-so : ended (plan_of routes) ((record { worker = w; kind = Answer x reply.Finished }) ∷ past) x ≡ Some (record { end = e; message = m })
    ended-so =
        let a = asking (request.Finish e m false) asks in
        let fate-is = fate-answer routes past w here.birth reply.Finished a.follows.fed ∙ finished-ends routes here.birth (answers (own here.birth.number past)) e m false a.at (mean-asks routes past here.birth c (request.Finish e m false) None a) in
        ended-is (plan_of routes) ((record { worker = w; kind = Answer x reply.Finished }) ∷ past) x here.birth (birth-stays (plan_of routes) (record { worker = w; kind = Answer x reply.Finished }) past x here.birth here.at)
        ∙ ap end_of (subst (λ (n : ℕ). fate (plan_of routes) ((record { worker = w; kind = Answer n reply.Finished }) ∷ past) here.birth ≡ Ends e m) here.number fate-is)

    -- a part's parent is told so
    told-so : (p i : ℕ) → r.born ≡ made.Part p i → ended_with (part_end r.born r.request) (last_message r.request) ≡ Some (record { end = e; message = m })
    told-so p i is = let f = asks-fields r.stage r.cursor r.request r.fault c (request.Finish e m false) asks in rw (is, f.1) refl

    shut : IsShut x st.joins.calls st.joins.calls
    shut = shut-none x st.joins.calls (st.joins.parts x ∙ unopened routes past x lasted (asked-here (request.Finish e m false) asks) tt)

    pub finish-tells : IsBelow (plan_of routes) limit past → MayTell r.born x (ended_with (part_end r.born r.request) (last_message r.request)) t.joins
    finish-tells below =
        let legal = legal-add (plan_of routes) workers limit (record { worker = w; kind = Answer x reply.Finished }) past st.legal lw (may-finish below) in
        may-tell workers limit w x (Answer x reply.Finished) here.birth (record { end = e; message = m }) legal.entries st.simple (eq-eqb x x refl) (λ y ne. not-same y x ne) (λ n. refl) here.at alive ended-so st.joins st.joins.calls shut t.joins st.joins.stands
        r.born (ended_with (part_end r.born r.request) (last_message r.request)) here.stands.born told-so

    module _ (queues : List QueueView) (joins : List (ℕ × Open)) (behind : Option ℕ) (below : IsBelow (plan_of routes) limit past) (leaves : Leaves r.born t.queues queues)
        (tells : Tells r.born x (ended_with (part_end r.born r.request) (last_message r.request)) t.joins joins) (wakes : Wakes r.born joins behind) where
      joins-told : KeepsRules (plan_of routes) workers limit ((record { worker = w; kind = Answer x reply.Finished }) ∷ past) → JoinsStand routes ((record { worker = w; kind = Answer x reply.Finished }) ∷ past) joins
      joins-told legal =
          joins-ended workers limit w x (Answer x reply.Finished) here.birth (record { end = e; message = m }) legal st.simple (eq-eqb x x refl) (λ y ne. not-same y x ne) (λ n. refl) here.at alive ended-so st.joins st.joins.calls shut t.joins st.joins.stands
          r.born (ended_with (part_end r.born r.request) (last_message r.request)) joins here.stands.born told-so tells

      moves : KeepsRules (plan_of routes) workers limit ((record { worker = w; kind = Answer x reply.Finished }) ∷ past) → AlsoMoves routes past (record { worker = w; kind = Answer x reply.Finished }) x behind
      moves legal =
          also-moves workers limit w x (Answer x reply.Finished) here.birth (record { end = e; message = m }) legal st.simple (eq-eqb x x refl) (λ y ne. not-same y x ne) (λ n. refl) here.at alive ended-so st.joins st.joins.calls shut t.joins st.joins.stands
          r.born joins behind here.stands.born (joins-told legal) wakes

      -- the parent that is ready again has a row
      pub finish-wakes : (y : ℕ) → behind ≡ Some y → (0 < y) × (y ≤ length t.rows)
      finish-wakes y is =
          let legal = legal-add (plan_of routes) workers limit (record { worker = w; kind = Answer x reply.Finished }) past st.legal lw (may-finish below) in
          woken-within t st (record { worker = w; kind = Answer x reply.Finished }) x behind y is (moves legal.entries)

      pub stands-finish : (keys : KeyTable) → Settles x (ending_of e) t.keys keys → Stands routes workers limit ((record { worker = w; kind = Answer x reply.Finished }) ∷ past) (record t {
        rows = rows_behind behind (put_at t.rows (x - 1) (finished e r));
        ready = ready_behind behind (without x t.ready);
        turns = t.turns + 1;
        live = t.live - 1;
        queues = queues;
        joins = joins;
        keys = keys;
      })
      stands-finish keys settled =
          let q : Request = request.Finish e m false in
          let number : 1 + (x - 1) ≡ x = omega (arith, above) in
          let none : notes_in (plan_of routes) past w (Answer x reply.Finished) ≡ [] = rw (asked-here q asks) refl in
          let b : row_held (finished e r) ≡ false = ap state_held now-ended in
          let l : row_live (finished e r) ≡ false = ap state_live now-ended in
          rw (none, append-nil t.notes) at
          (stands-end routes workers limit past t w x (x - 1) (Answer x reply.Finished) r (finished e r) (without x t.ready) t.taken (t.live - 1) queues joins keys behind st lw (may-finish below)
          (of-answer w x reply.Finished tt) refl above row moves
          (λ d d_at h. row-ended routes (record { worker = w; kind = Answer x reply.Finished }) past d r (finished e r) h refl l (rw now-ended (has-done d d_at h)))
          (ap (without x) st.ready ∙ sym (rw number at (numbers-leave row_ready 1 t.rows (x - 1) (finished e r) (ap state_ready now-ended))))
          (rw (not-held q asks, b) refl) (let n = live-counts q asks in rw (was-live q asks, l) (omega (arith, n)))
          (λ legal. queues-ended workers limit w x (Answer x reply.Finished) here.birth t.queues (leaving-answer x reply.Finished refl) legal here.at done-some st.queues r.born queues here.stands.born leaves) joins-told refl refl
          (keys-over routes workers limit past st.legal.entries w x (record { end = e; message = m }) alive t.keys keys settled st.keys reply.Finished refl ended-so))

-- a Ready exchange is starved
module _ {routes : RouteSet} {workers limit : ℕ} {past : Past} (t : Tables) (w x : ℕ) (r : Row) (st : Stands routes workers limit past t) (lw : w ≤ workers)
    (ready : place (plan_of routes) past x ≡ Some place_is.Ready) (row : slice_get t.rows (x - 1) ≡ Some r) where
  starving : IsAt routes past x r place_is.Ready
  starving = is-at t x place_is.Ready r st ready row

  starved-some : is_some (ended (plan_of routes) ((record { worker = w; kind = Starve x }) ∷ past) x) ≡ true
  starved-some =
      let h = subst (λ (n : ℕ). HasEnded routes ((record { worker = w; kind = Starve n }) ∷ past) starving.birth closing.Starved) starving.number (has-starved routes past w starving.birth) in
      ends-some (plan_of routes) (record { worker = w; kind = Starve x }) past x starving.birth (closed_end starving.birth closing.Starved) h.message starving.at h.ends

  pub starve-leaves : MayLeave r.born t.queues
  starve-leaves =
      let legal = legal-add (plan_of routes) workers limit (record { worker = w; kind = Starve x }) past st.legal lw (inl ready) in
      may-leave workers limit w x (Starve x) starving.birth t.queues (leaving-starve x) legal.entries starving.at starved-some st.queues r.born starving.stands.born

  starve-alive : ended (plan_of routes) past x ≡ None
  starve-alive = ended-is (plan_of routes) past x starving.birth starving.at ∙ stands-alive (plan_of routes) past starving.birth place_is.Ready starving.placed refl

  -- it ends with the message that it was born with
  starved-so : ended (plan_of routes) ((record { worker = w; kind = Starve x }) ∷ past) x ≡ Some (record { end = out_of_memory; message = starving.birth.message })
  starved-so = starved-end routes past w x starving.birth starving.number starving.at

  told-starved : (p i : ℕ) → r.born ≡ made.Part p i → starved_end r.birth r.fault ≡ Some (record { end = out_of_memory; message = starving.birth.message })
  told-starved p i is =
      let live : row_live r ≡ true = (ready-facts (state_of r) (ready-row routes past x r starving)).1 in
      starved-told r starving.birth p i is (subst (λ (v : Bool). Keeps r.born v starving.birth r.birth r.fault) live starving.stands.kept)

  module _ (closed : List (ℕ × Open)) (closes : Closes x t.joins closed) where
    shut-starved : IsShut x st.joins.calls (closing_calls x st.joins.calls)
    shut-starved = shut-closing routes past x starving.birth t.joins starving.number starving.placed st.joins

    pub starve-tells : MayTell r.born x (starved_end r.birth r.fault) closed
    starve-tells =
        let legal = legal-add (plan_of routes) workers limit (record { worker = w; kind = Starve x }) past st.legal lw (inl ready) in
        may-tell workers limit w x (Starve x) starving.birth (record { end = out_of_memory; message = starving.birth.message }) legal.entries st.simple (eq-eqb x x refl) (λ y ne. not-same y x ne) (λ n. refl) starving.at starve-alive starved-so st.joins (closing_calls x st.joins.calls) shut-starved closed (closes st.joins.calls st.joins.stands)
        r.born (starved_end r.birth r.fault) starving.stands.born told-starved

    module _ (queues : List QueueView) (joins : List (ℕ × Open)) (behind : Option ℕ) (leaves : Leaves r.born t.queues queues) (tells : Tells r.born x (starved_end r.birth r.fault) closed joins) (wakes : Wakes r.born joins behind) where
      joins-starved : KeepsRules (plan_of routes) workers limit ((record { worker = w; kind = Starve x }) ∷ past) → JoinsStand routes ((record { worker = w; kind = Starve x }) ∷ past) joins
      joins-starved legal =
          joins-ended workers limit w x (Starve x) starving.birth (record { end = out_of_memory; message = starving.birth.message }) legal st.simple (eq-eqb x x refl) (λ y ne. not-same y x ne) (λ n. refl) starving.at starve-alive starved-so st.joins (closing_calls x st.joins.calls) shut-starved closed (closes st.joins.calls st.joins.stands)
          r.born (starved_end r.birth r.fault) joins starving.stands.born told-starved tells

      starve-moves : KeepsRules (plan_of routes) workers limit ((record { worker = w; kind = Starve x }) ∷ past) → AlsoMoves routes past (record { worker = w; kind = Starve x }) x behind
      starve-moves legal =
          also-moves workers limit w x (Starve x) starving.birth (record { end = out_of_memory; message = starving.birth.message }) legal st.simple (eq-eqb x x refl) (λ y ne. not-same y x ne) (λ n. refl) starving.at starve-alive starved-so st.joins (closing_calls x st.joins.calls) shut-starved closed (closes st.joins.calls st.joins.stands)
          r.born joins behind starving.stands.born (joins-starved legal) wakes

      pub starve-wakes : (y : ℕ) → behind ≡ Some y → (0 < y) × (y ≤ length t.rows)
      starve-wakes y is =
          let legal = legal-add (plan_of routes) workers limit (record { worker = w; kind = Starve x }) past st.legal lw (inl ready) in
          woken-within t st (record { worker = w; kind = Starve x }) x behind y is (starve-moves legal.entries)

      pub stands-starve : (keys : KeyTable) → Settles x (ending_of out_of_memory) t.keys keys → Stands routes workers limit ((record { worker = w; kind = Starve x }) ∷ past) (record t {
        rows = rows_behind behind (put_at t.rows (x - 1) (closed_row stage.Starved r));
        ready = ready_behind behind (without x t.ready);
        live = t.live - 1;
        queues = queues;
        joins = joins;
        keys = keys;
      })
      stands-starve keys settled =
          let s = plan_of routes in
          let within = row-within t x place_is.Ready st ready in
          let above : suc (x - 1) ≡ x = omega (arith, within.0) in
          let number : 1 + (x - 1) ≡ x = omega (arith, within.0) in
          let was = ready-row routes past x r starving in
          let facts = ready-facts (state_of r) was in
          let count = count-set row_live t.rows (x - 1) r (closed_row stage.Starved r) row in
          let live = ap bit facts.1 in
          rw (append-nil t.notes, add-zero t.turns) at
          (stands-end routes workers limit past t w x (x - 1) (Starve x) r (closed_row stage.Starved r) (without x t.ready) t.taken (t.live - 1) queues joins keys behind st lw (inl ready) (of-starve w x) refl above row starve-moves
          (λ d d_at h.
          row-ended routes (record { worker = w; kind = Starve x }) past d r (closed_row stage.Starved r) h refl refl
          (subst (λ (n : ℕ). HasEnded routes ((record { worker = w; kind = Starve n }) ∷ past) d closing.Starved) (numbered-at 1 (births s past) (x - 1) d (births-numbered s past) d_at ∙ number) (has-starved routes past w d)))
          (ap (without x) st.ready ∙ sym (rw number at (numbers-leave row_ready 1 t.rows (x - 1) (closed_row stage.Starved r) refl)))
          (rw facts.0 refl) (omega (arith, count, live, st.live))
          (λ legal. queues-ended workers limit w x (Starve x) starving.birth t.queues (leaving-starve x) legal starving.at starved-some st.queues r.born queues starving.stands.born leaves) joins-starved refl refl
          (keys-starved routes workers limit past st.legal.entries w x (record { end = out_of_memory; message = starving.birth.message }) starve-alive t.keys keys settled st.keys starved-so))
