-- The tables behind an entry by which an exchange ends, with its parent, where that is ready again.
use Rattle.std.proofs.Common.{◌≡◌, ◌≢◌, ℕ, zero, suc, ◌+◌, ◌-◌, ◌≤◌, true, false, List, [], ◌∷◌, ◌++◌, set as put_at, Option, Some, None, refl, sym, ap, subst, ◌∙◌, arith}
use Rattle.std.specs.List.{slice_get}
use Rattle.std.proofs.lemmas.Option.{slice_get_within}
use Rattle.eip_exchange.specs.declared.birth.Birth.{Birth}
use Rattle.eip_exchange.specs.declared.end.Fault.{Fault}
use Rattle.eip_route.specs.declared.route.RouteSet.{RouteSet}
use Rattle.eip_frames.specs.declared.request.Request.{Request}
use Rattle.eip_ledger.specs.declared.entry.Entry.{Entry}
use Rattle.eip_ledger.specs.declared.entry.Kind.{Kind}
use Rattle.eip_ledger.specs.declared.place.Place.{Place}
use Rattle.eip_ledger.specs.declared.place.Place.TheVariants as place_is
use Rattle.eip_join.specs.Parts.{Open}
use Rattle.eip_seda.specs.Consuming.{QueueView}
use Rattle.eip_idempotent.specs.Keys.{Table as KeyTable}
use Rattle.eip_history.specs.Own.{Past, concerns, turns_in}
use Rattle.eip_history.specs.Births.{births}
use Rattle.eip_history.specs.Place.{place_of}
use Rattle.eip_history.specs.Rules.{KeepsRules, May}
use Rattle.eip_history.specs.Tables.{Related, bit}
use Rattle.eip_history.specs.TableWords.{moves_sleepers, moves_groups}
use Rattle.eip_history.proofs.Lists.{related-set, related-at, related-length, slice_get-some, numbered-at}
use Rattle.eip_history.proofs.Main.{legal-add}
use Rattle.eip_history.proofs.Told.{births-numbered}
use Rattle.eip_plan.specs.Plan.{plan_of}
use Rattle.eip_plan.proofs.Items.{simple_births}
use Rattle.eip_progress.specs.declared.cursor.Cursor.{Cursor}
use Rattle.eip_tables.specs.declared.row.Stage.{Stage}
use Rattle.eip_tables.specs.declared.row.Stage.TheVariants as stage
use Rattle.eip_tables.specs.Row.{Row}
use Rattle.eip_tables.specs.Moves.{woken, woken_stage}
use Rattle.eip_tables.specs.Numbers.{row_numbers}
use Rattle.eip_tables.specs.State.{State, state_of, state_by, asks_outside, row_outside}
use Rattle.eip_tables.specs.State as state
use Rattle.eip_tables.specs.Parts.{rows_behind, ready_behind, woken_at}
use Rattle.eip_tables.specs.Queues.{QueuesStand}
use Rattle.eip_tables.specs.Joins.{JoinsStand}
use Rattle.eip_tables.specs.Keys.{KeysStand}
use Rattle.eip_tables.specs.Rows.{HasAnswer, RowStands, row_ready, row_held, row_live, state_ready, state_held, state_live}
use Rattle.eip_tables.specs.Stands.{Tables, Stands}
use Rattle.eip_table_laws.proofs.RowNumbers.{numbers-stay, numbers-join, count-set}
use Rattle.eip_table_laws.proofs.RowPlaces.{Placed, row-place, row-on, row-other, answer-other, pause-placed}
use Rattle.eip_table_laws.proofs.SourceEvents.{births-same, get-set-other}
use Rattle.eip_table_laws.proofs.SleepersKept.{sleepers-stay}
use Rattle.eip_table_laws.proofs.GroupsKept.{groups-stay}
use Rattle.eip_table_laws.proofs.OwnEvents.{IsOfOne, IsWoken, AlsoMoves, notes_in, stands-own, stands-one}

-- who stands in its place Joining has a row that waits
joining-state : (b : Birth) (g : State) (p : Place) → p ≡ place_is.Joining → Placed b g p → (c : Cursor) × (i : ℕ) × (g ≡ state.Joining c i)
joining-state b state.Queued p e h = absurd (cc (sym e ∙ h.2))
joining-state b state.New p e h = absurd (cc (sym e ∙ h))
joining-state b (state.Asks c q) p e h = absurd (cc (sym e ∙ h))
joining-state b (state.Held c w) p e h = absurd (cc (sym e ∙ h))
joining-state b (state.Joining c i) p e h = (c, i, refl)
joining-state b (state.Asleep c i due) p e h = absurd (cc (sym e ∙ h))
joining-state b (state.Answered c i) p e h = absurd (cc (sym e ∙ h))
joining-state b (state.Ended c) p e h = absurd (cc (sym e ∙ h))
joining-state b state.Broken p e h = absurd h

joining-fields : (g : Stage) (oc : Option Cursor) (oq : Option Request) (f : Option Fault) (c : Cursor) (i : ℕ) → state_by g oc oq f ≡ state.Joining c i → (g ≡ stage.Joining i) × (oc ≡ Some c)
joining-fields (stage.Joining j) (Some d) oq f c i h = (cc, cc)
joining-fields stage.Asks (Some d) (Some q) f c i h = absurd (cc h)
joining-fields (stage.Held w) (Some d) oq f c i h = absurd (cc h)
joining-fields (stage.Asleep j due) (Some d) oq f c i h = absurd (cc h)
joining-fields (stage.Answered j) (Some d) oq f c i h = absurd (cc h)
joining-fields stage.Failed oc oq (Some f) c i h = absurd (cc h)
joining-fields _ _ _ f c i h = absurd (cc h)

-- behind the end of its last part it has an answer to come
woken-state : (r : Row) (c : Cursor) (i : ℕ) → state_of r ≡ state.Joining c i → state_of (woken r) ≡ state.Answered c i
woken-state r c i h = let f = joining-fields r.stage r.cursor r.request r.fault c i h in rw (f.0, f.1) refl

pub woken-known : (g : Stage) (oq : Option Request) → asks_outside (woken_stage g) oq ≡ asks_outside g oq
woken-known (stage.Joining i) oq = refl
woken-known (stage.Asleep i due) oq = refl
woken-known _ oq = refl

-- nobody else is known to ask somebody outside behind the end of a part
pub behind-outside : (behind : Option ℕ) (rows : List Row) → row_numbers row_outside 1 (rows_behind behind rows) ≡ row_numbers row_outside 1 rows
behind-outside None rows = refl
behind-outside (Some y) rows = by_row (slice_get rows (y - 1)) refl
  where
    by_row : (o : Option Row) → slice_get rows (y - 1) ≡ o → row_numbers row_outside 1 (woken_at o (y - 1) rows) ≡ row_numbers row_outside 1 rows
    by_row None h = refl
    by_row (Some r) h = numbers-stay row_outside 1 rows (y - 1) r (woken r) h (sym (woken-known r.stage r.request))

-- the row of a parent that is ready again
woken-row : (set : RouteSet) (e : Entry) (past : Past) (b : Birth) (r : Row) (c : Cursor) (i : ℕ) → concerns b.number e.kind ≡ false → state_of r ≡ state.Joining c i → place_of (plan_of set) (e ∷ past) b ≡ place_is.Ready
    → RowStands set past b r → RowStands set (e ∷ past) b (woken r)
woken-row set e past b r c i n is now h =
    let was : HasAnswer set past b c i place_is.Joining = rw is at h.stands in
    let l : row_live r ≡ true = ap state_live is in
    let behind = woken-state r c i is in
    let l' : row_live (woken r) ≡ true = ap state_live behind in
    row-on set e past b r (woken r) h refl refl refl (l ∙ sym l')
    (rw behind (answer-other set e past b c i place_is.Joining place_is.Ready n (pause-placed set e past b c i place_is.Joining n was ∙ now) was))

-- the tables behind an entry by which the exchange at i ends; its row, and the Ready numbers and counts that follow from it, are told
pub stands-end : (set : RouteSet) (workers limit : ℕ) (past : Past) (t : Tables) (w x i : ℕ) (k : Kind) (old new : Row) (ready : List ℕ) (taken live : ℕ) (queues : List QueueView) (joins : List (ℕ × Open)) (keys : KeyTable) (behind : Option ℕ)
    → Stands set workers limit past t → w ≤ workers → May (plan_of set) limit past w k → IsOfOne w x k → simple_births (plan_of set) past k ≡ [] → suc i ≡ x
    → slice_get t.rows i ≡ Some old
    → (KeepsRules (plan_of set) workers limit ((record { worker = w; kind = k }) ∷ past) → AlsoMoves set past (record { worker = w; kind = k }) x behind)
    → ((b : Birth) → slice_get (births (plan_of set) past) i ≡ Some b → RowStands set past b old → RowStands set ((record { worker = w; kind = k }) ∷ past) b new)
    → ready ≡ row_numbers row_ready 1 (put_at t.rows i new) → taken + bit (row_held old) ≡ t.taken + bit (row_held new) → live + bit (row_live old) ≡ t.live + bit (row_live new)
    → (KeepsRules (plan_of set) workers limit ((record { worker = w; kind = k }) ∷ past) → QueuesStand set ((record { worker = w; kind = k }) ∷ past) queues)
    → (KeepsRules (plan_of set) workers limit ((record { worker = w; kind = k }) ∷ past) → JoinsStand set ((record { worker = w; kind = k }) ∷ past) joins) → moves_sleepers k ≡ false → moves_groups k ≡ false → KeysStand set ((record { worker = w; kind = k }) ∷ past) keys
    → Stands set workers limit ((record { worker = w; kind = k }) ∷ past) (record t {
      rows = rows_behind behind (put_at t.rows i new);
      ready = ready_behind behind ready;
      turns = t.turns + turns_in k;
      notes = t.notes ++ notes_in (plan_of set) past w k;
      taken = taken;
      live = live;
      queues = queues;
      joins = joins;
      keys = keys;
    })
stands-end routes workers limit past t w x i k old new ready taken live queues joins keys None st lw may of none x_is at moves here ready_is taken_is live_is queues_are joins_are wakeful still keys_are =
    stands-one routes workers limit past t w x i k old new ready taken live queues joins t.sleepers keys st lw may of none x_is at moves here ready_is taken_is live_is queues_are joins_are
    (λ legal. sleepers-stay routes workers limit w k past t.sleepers legal wakeful st.sleepers) still keys_are
stands-end routes workers limit past t w x i k old new ready taken live queues joins keys (Some zero) st lw may of none x_is at moves here ready_is taken_is live_is queues_are joins_are wakeful still keys_are =
    let m = moves (legal-add (plan_of routes) workers limit (record { worker = w; kind = k }) past st.legal lw may).entries in
    let there : None ≡ Some m.birth = m.at in
    absurd (cc there)
stands-end routes workers limit past t w x i k old new ready taken live queues joins keys (Some (suc j)) st lw may of none x_is at moves here ready_is taken_is live_is queues_are joins_are wakeful still keys_are =
    let e : Entry = record { worker = w; kind = k } in
    let s = plan_of routes in
    let rules = (legal-add s workers limit e past st.legal lw may).entries in
    let m : IsWoken routes past e x (suc j) = moves rules in
    let b_at : slice_get (births s past) j ≡ Some m.birth = m.at in
    let many = related-length (RowStands routes past) (births s past) t.rows st.rows in
    let found = slice_get-some t.rows j (omega (arith, slice_get_within (births s past) j m.birth b_at, many)) in
    let stands = related-at (RowStands routes past) (births s past) t.rows j m.birth found.0 st.rows b_at found.1 in
    let waits = joining-state m.birth (state_of found.0) (place_of s past m.birth) m.was (row-place routes past m.birth found.0 stands) in
    let number : m.birth.number ≡ suc j = numbered-at 1 (births s past) j m.birth (births-numbered s past) b_at ∙ omega arith in
    let alone : concerns m.birth.number k ≡ false = of.only m.birth.number (λ same. m.other (sym number ∙ same)) in
    let apart : j ≢ i = λ same. m.other (ap suc same ∙ x_is) in
    let there : slice_get (put_at t.rows i new) j ≡ Some found.0 = get-set-other t.rows i j new apart ∙ found.1 in
    let before : suc j - 1 ≡ j = omega arith in
    let was_ready : row_ready found.0 ≡ false = ap state_ready waits.2 in
    let now_state = woken-state found.0 waits.0 waits.1 waits.2 in
    let now_ready : row_ready (woken found.0) ≡ true = ap state_ready now_state in
    let h : row_held found.0 ≡ false = ap state_held waits.2 in
    let h' : row_held (woken found.0) ≡ false = ap state_held now_state in
    let l : row_live found.0 ≡ true = ap state_live waits.2 in
    let l' : row_live (woken found.0) ≡ true = ap state_live now_state in
    let place : 1 + j ≡ suc j = omega arith in
    rw (before, there)
    (stands-own routes workers limit past t w x k (put_at (put_at t.rows i new) j (woken found.0)) (ready_behind (Some (suc j)) ready) taken live queues joins t.sleepers t.groups keys st lw may of
    (λ legal. rw (births-same routes workers limit e past legal (st.simple, of.simple) none) (both legal m found.0 waits.0 waits.1 waits.2 alone stands b_at number))
    (rw (ready_is, ← place) (sym (numbers-join row_ready 1 (put_at t.rows i new) j found.0 (woken found.0) there was_ready now_ready)))
    (let c = count-set row_held t.rows i old new at in let d = count-set row_held (put_at t.rows i new) j found.0 (woken found.0) there in let u = ap bit h in let v = ap bit h' in omega (arith, c, d, u, v, taken_is, st.taken))
    (let c = count-set row_live t.rows i old new at in let d = count-set row_live (put_at t.rows i new) j found.0 (woken found.0) there in let u = ap bit l in let v = ap bit l' in omega (arith, c, d, u, v, live_is, st.live))
    queues_are joins_are (λ legal. sleepers-stay routes workers limit w k past t.sleepers legal wakeful st.sleepers) (groups-stay routes w k past t.groups still st.groups) keys_are)
  where
    -- the rows but the parent's, and then the parent's
    Between : Birth → Row → Type 0
    Between b r = (b.number ≢ suc j → RowStands routes ((record { worker = w; kind = k }) ∷ past) b r) × (b.number ≡ suc j → RowStands routes past b r)

    both : KeepsRules (plan_of routes) workers limit ((record { worker = w; kind = k }) ∷ past) → (m : IsWoken routes past (record { worker = w; kind = k }) x (suc j)) (r : Row) (c : Cursor) (n : ℕ) → state_of r ≡ state.Joining c n
        → concerns m.birth.number k ≡ false → RowStands routes past m.birth r → slice_get (births (plan_of routes) past) j ≡ Some m.birth → m.birth.number ≡ suc j
        → Related (RowStands routes ((record { worker = w; kind = k }) ∷ past)) (births (plan_of routes) past) (put_at (put_at t.rows i new) j (woken r))
    both legal m r c n is alone stands b_at number =
        let e : Entry = record { worker = w; kind = k } in
        let s = plan_of routes in
        let own : 1 + i ≡ x = omega (arith, x_is) in
        let parent : 1 + j ≡ suc j = omega arith in
        let first : Related Between (births s past) (put_at t.rows i new) =
        related-set (RowStands routes past) Between 1 (births s past) t.rows i new (births-numbered s past)
        (λ b q ne h. (
          λ nep. row-other routes workers limit e past b q legal (of.only b.number (λ y. ne (y ∙ sym own))) (m.apart b (λ y. ne (y ∙ sym own)) nep) h,
          λ same. h,
        ))
        (λ b at_b. (
          λ nep. here b at_b (related-at (RowStands routes past) (births s past) t.rows i b old st.rows at_b at),
          λ same. absurd (m.other (sym same ∙ (numbered-at 1 (births s past) i b (births-numbered s past) at_b ∙ own))),
        )) st.rows in
        related-set Between (RowStands routes (e ∷ past)) 1 (births s past) (put_at t.rows i new) j (woken r) (births-numbered s past)
        (λ b q ne h. h.0 (λ same. ne (same ∙ sym parent)))
        (λ b at_b. let two : Some m.birth ≡ Some b = sym b_at ∙ at_b in let same : m.birth ≡ b = cc in
        subst (λ (d : Birth). RowStands routes (e ∷ past) d (woken r)) same (woken-row routes e past m.birth r c n alone is m.now stands)) first
