-- The tables behind the answer to an exchange that offers a key.
use Rattle.std.proofs.Common.{◌≡◌, ℕ, ◌+◌, ◌-◌, ◌≤◌, Bool, List, [], ◌∷◌, length, set as put_at, Some, None, refl, ◌∙◌}
use Rattle.std.specs.List.{slice_get}
use Rattle.std.proofs.lemmas.List.{append-nil}
use Rattle.eip_route.specs.declared.route.RouteSet.{RouteSet}
use Rattle.eip_frames.specs.declared.request.Request.{Request}
use Rattle.eip_frames.specs.declared.request.Request.TheVariants as request
use Rattle.eip_frames.specs.declared.answer.Answer.{Answer as Reply}
use Rattle.eip_frames.specs.declared.answer.Answer.TheVariants as reply
use Rattle.eip_ledger.specs.declared.entry.Kind.TheVariants.{Answer}
use Rattle.eip_ledger.specs.declared.place.Place.TheVariants as place_is
use Rattle.eip_idempotent.specs.Keys.{Table as KeyTable}
use Rattle.eip_idempotent.specs.declared.repo.Offered.{Offered}
use Rattle.eip_idempotent.specs.declared.repo.Offered.TheVariants as offered
use Rattle.eip_history.specs.Own.{Past}
use Rattle.eip_history.specs.Births.{Asked, asked}
use Rattle.eip_history.specs.Place.{place, ended}
use Rattle.eip_history.specs.Rules.{IsBelow}
use Rattle.eip_history.proofs.Places.{ended-is}
use Rattle.eip_plan.specs.Plan.{plan_of}
use Rattle.eip_progress.specs.declared.cursor.Cursor.{Cursor}
use Rattle.eip_tables.specs.Row.{Row}
use Rattle.eip_tables.specs.Keys.{Offers, key_answer}
use Rattle.eip_tables.specs.Moves.{answered}
use Rattle.eip_tables.specs.State as state
use Rattle.eip_tables.specs.State.{state_of}
use Rattle.eip_tables.specs.Stands.{Tables, Stands}
use Rattle.eip_table_laws.proofs.GroupsKept.{groups-stay}
use Rattle.eip_table_laws.proofs.KeysKept.{key-content, keys-claimed, keys-refused}
use Rattle.eip_table_laws.proofs.OwnCalls.{here, asking, asked-here, goes-on, stands-with, same-joins}
use Rattle.eip_table_laws.proofs.PartFacts.{stands-alive}

module _ {routes : RouteSet} {workers limit : ℕ} {past : Past} (t : Tables) (w x : ℕ) (st : Stands routes workers limit past t) (lw : w ≤ workers) (c : Cursor) (r : Row)
    (ready : place (plan_of routes) past x ≡ Some place_is.Ready) (row : slice_get t.rows (x - 1) ≡ Some r) (repository key : List ℕ) (eager remove : Bool) (asks : state_of r ≡ state.Asks c (request.Idem repository key eager remove))
    (below : IsBelow (plan_of routes) limit past) (keys : KeyTable) where
  abbrev offer : Request
  offer = request.Idem repository key eager remove

  abbrev comes : Asked
  comes = record { birth = (here t w x st lw c r ready row).birth; request = request.Idem repository key eager remove; at = (asking t w x st lw c r ready row (request.Idem repository key eager remove) asks).at }

  comes-here : asked (plan_of routes) past x ≡ Some (record { birth = (here t w x st lw c r ready row).birth; request = request.Idem repository key eager remove; at = (asking t w x st lw c r ready row (request.Idem repository key eager remove) asks).at })
  comes-here = asked-here t w x st lw c r ready row (request.Idem repository key eager remove) asks

  alive : ended (plan_of routes) past x ≡ None
  alive =
      let h = here t w x st lw c r ready row in
      ended-is (plan_of routes) past x h.birth h.at ∙ stands-alive (plan_of routes) past h.birth place_is.Ready h.placed refl

  -- nobody holds the key, and it claims it
  pub stands-fresh : Offers (repository, key) x eager remove offered.Fresh t.keys keys
      → Stands routes workers limit ((record { worker = w; kind = Answer x reply.Fresh }) ∷ past)
      (record t { rows = put_at t.rows (x - 1) (answered (length past) r); turns = t.turns + 1; keys = keys })
  stands-fresh o =
      let q : Request = offer in
      let number = (here t w x st lw c r ready row).number in
      let content = key-content routes workers limit past st.legal.entries x comes comes-here number repository key eager remove refl t.keys keys st.keys offered.Fresh o in
      let lives = goes-on t w x st lw c r ready row q reply.Fresh [] asks refl tt refl refl tt refl in
      rw (append-nil t.notes) at
      (stands-with t w x st lw c r ready row q reply.Fresh [] asks refl tt refl refl tt refl t.joins t.groups keys below content (rw comes-here refl)
      (same-joins t w x st lw c r ready row q reply.Fresh [] asks refl tt refl refl tt refl refl tt)
      (groups-stay routes w (Answer x reply.Fresh) past t.groups refl st.groups)
      (keys-claimed routes workers limit past st.legal.entries x comes comes-here number repository key eager remove refl t.keys keys st.keys w alive o lives))

  -- somebody holds it, the least of whom it is told
  pub stands-duplicate : (holder : ℕ) → Offers (repository, key) x eager remove (offered.Duplicate holder) t.keys keys
      → Stands routes workers limit ((record { worker = w; kind = Answer x (reply.Duplicate holder) }) ∷ past)
      (record t { rows = put_at t.rows (x - 1) (answered (length past) r); turns = t.turns + 1; keys = keys })
  stands-duplicate holder o =
      let q : Request = offer in
      let a : Reply = reply.Duplicate holder in
      let number = (here t w x st lw c r ready row).number in
      let content = key-content routes workers limit past st.legal.entries x comes comes-here number repository key eager remove refl t.keys keys st.keys (offered.Duplicate holder) o in
      let lives = goes-on t w x st lw c r ready row q a [] asks refl tt refl refl tt refl in
      rw (append-nil t.notes) at
      (stands-with t w x st lw c r ready row q a [] asks refl tt refl refl tt refl t.joins t.groups keys below content (rw comes-here refl)
      (same-joins t w x st lw c r ready row q a [] asks refl tt refl refl tt refl refl tt)
      (groups-stay routes w (Answer x a) past t.groups refl st.groups)
      (keys-refused routes workers limit past st.legal.entries x comes comes-here number repository key eager remove refl t.keys keys st.keys w alive holder o lives))

  -- it is answered as the table says
  pub stands-offered : (answer : Offered) → Offers (repository, key) x eager remove answer t.keys keys
      → Stands routes workers limit ((record { worker = w; kind = Answer x (key_answer answer) }) ∷ past)
      (record t { rows = put_at t.rows (x - 1) (answered (length past) r); turns = t.turns + 1; keys = keys })
  stands-offered offered.Fresh o = stands-fresh o
  stands-offered (offered.Duplicate holder) o = stands-duplicate holder o
