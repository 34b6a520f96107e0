-- The tables behind a look at an exchange.
use Rattle.std.proofs.Common.{◌≡◌, ℕ, zero, suc, ◌-◌, ◌<◌, Bool, true, false, List, [], ◌∷◌, length, map, reverse, set as put_at, Option, Some, None, refl, sym, ap, subst, ◌∙◌, arith, ◌⊎◌, inl, inr, get_or, Result, Ok, Err}
use Rattle.std.specs.List.{slice_get}
use Rattle.std.specs.Result.{OnOk, OnErr}
use Rattle.std.proofs.lemmas.Option.{slice_get_within, slice_get_read}
use Rattle.eip_exchange.specs.declared.birth.Birth.{Birth}
use Rattle.eip_exchange.specs.declared.end.Fault.{Fault}
use Rattle.eip_route.specs.declared.route.RouteSet.{RouteSet}
use Rattle.eip_frames.specs.declared.request.Request.{Request}
use Rattle.eip_frames.specs.declared.answer.Answer.{Answer as Reply}
use Rattle.eip_ledger.specs.declared.entry.Entry.{Entry}
use Rattle.eip_ledger.specs.declared.entry.Kind.{Kind}
use Rattle.eip_ledger.specs.declared.entry.Kind.TheVariants.{Answer}
use Rattle.eip_ledger.specs.declared.place.Place.TheVariants as place_is
use Rattle.eip_history.specs.Own.{Past}
use Rattle.eip_history.specs.Births.{births, item_birth}
use Rattle.eip_history.specs.Place.{place}
use Rattle.eip_history.proofs.Lists.{numbered-at}
use Rattle.eip_history.proofs.Told.{births-numbered}
use Rattle.eip_plan.specs.Plan.{plan_of}
use Rattle.eip_meaning.specs.Meaning.{mean}
use Rattle.eip_progress.specs.declared.cursor.Cursor.{Cursor}
use Rattle.eip_progress.specs.Rest.{rest}
use Rattle.eip_tables.specs.declared.row.Born.{Born}
use Rattle.eip_tables.specs.declared.row.Born.TheVariants as made
use Rattle.eip_tables.specs.declared.row.Stage.{Stage}
use Rattle.eip_tables.specs.declared.row.Stage.TheVariants as stage
use Rattle.eip_tables.specs.Row.{Row}
use Rattle.eip_tables.specs.Moves.{begun}
use Rattle.eip_tables.specs.State as state
use Rattle.eip_tables.specs.State.{State, state_of, state_by, known_in, known_of}
use Rattle.eip_tables.specs.Look.{FirstLook, LookedAt, HasCursor, CanTake, Stepped, birth_in, birth_by, birth_of}
use Rattle.eip_tables.specs.Rows.{entry_at, ComesFrom, Keeps, IsUnasked, Follows, HasAnswer, StateStands, RowStands, row_held, row_live, state_ready}
use Rattle.eip_tables.specs.Stands.{Tables, Stands}
use Rattle.eip_table_laws.proofs.RowPlaces.{row-looked}
use Rattle.eip_table_laws.proofs.RowSteps.{looked-new, looked-answer, can-take}
use Rattle.eip_table_laws.proofs.OwnEvents.{stands-look}
use Rattle.eip_table_laws.proofs.OwnCalls.{row-within, is-at, IsAt, ready-row, asks-fields}

pub entry-within : (past : Past) (i : ℕ) (e : Entry) → entry_at past i ≡ Some e → i < length (reverse past)
unfolding entry_at
entry-within past i e h = slice_get_within (reverse past) i e h

entry-there : (past : Past) (i : ℕ) (e : Entry) → entry_at past i ≡ Some e → slice_get (reverse past) i ≡ Some e
unfolding entry_at
entry-there past i e h = h

-- two answers of one entry are one
same-answer : (o : Option Entry) (w n v m : ℕ) (a b : Reply) → o ≡ Some (record { worker = w; kind = Answer n a }) → o ≡ Some (record { worker = v; kind = Answer m b }) → a ≡ b
same-answer o w n v m a b h k =
    let e : Entry = record { worker = w; kind = Answer n a } in
    let d : Entry = record { worker = v; kind = Answer m b } in
    let same : e ≡ d = cc in
    let kinds : Answer n a ≡ Answer m b = ap (λ (x : Entry). x.kind) same in
    cc

-- a row that waits for its cursor to take an answer
answered-fields : (i : ℕ) (oc : Option Cursor) (oq : Option Request) (f : Option Fault) (set : RouteSet) (past : Past) (b : Birth) → StateStands set past b (state_by (stage.Answered i) oc oq f) → (c : Cursor) × ((oc ≡ Some c) × HasAnswer set past b c i place_is.Ready)
answered-fields i (Some c) oq f set past b h = (c, (refl, h))
answered-fields i None oq f set past b h = absurd h

answered-row : (set : RouteSet) (past : Past) (b : Birth) (r : Row) (i : ℕ) → r.stage ≡ stage.Answered i → RowStands set past b r → (c : Cursor) × ((r.cursor ≡ Some c) × HasAnswer set past b c i place_is.Ready)
answered-row set past b r i g h = answered-fields i r.cursor r.request r.fault set past b (rw g at h.stands)

-- a row that is new has a birth of which nothing was asked
new-row : (set : RouteSet) (past : Past) (b : Birth) (r : Row) → r.stage ≡ stage.New → RowStands set past b r → IsUnasked past b
new-row set past b r g h = rw g at h.stands

-- the birth of a live exchange is the one that its row tells
told-by : (set : RouteSet) (past : Past) (x : ℕ) (b : Birth) (o : Born) (live : Bool) (kept : Option Birth) (f : Option Fault) → b.number ≡ x → ComesFrom (plan_of set) past o b → Keeps o live b kept f → live ≡ true
    → birth_by set (reverse past) x o kept ≡ Some b
told-by set past x b (made.Item i) live kept f n h k l =
    ap (birth_in set x) (entry-there past i _ h.entry) ∙ ap Some (sym (h.birth ∙ ap (λ (m : ℕ). item_birth (plan_of set) m h.source h.item h.message) n))
told-by set past x b (made.Copy q) true kept f n h k l = k
told-by set past x b (made.Copy q) false kept f n h k l = absurd (cc l)
told-by set past x b (made.Part y j) true kept f n h k l = k.0
told-by set past x b (made.Part y j) false kept f n h k l = absurd (cc l)
told-by set past x b (made.Group g c) true kept f n h k l = rw k.1 (ap (λ (d : Birth). Some d) (sym k.2))
told-by set past x b (made.Group g c) false kept f n h k l = absurd (cc l)

-- a ready row is new, asks, or has an answer to come
module _ {routes : RouteSet} {workers limit : ℕ} {past : Past} (t : Tables) (x : ℕ) (r : Row) (st : Stands routes workers limit past t)
    (ready : place (plan_of routes) past x ≡ Some place_is.Ready) (row : slice_get t.rows (x - 1) ≡ Some r) where
  here : IsAt routes past x r place_is.Ready
  here = is-at t x place_is.Ready r st ready row

  number-of : (b : Birth) → slice_get (births (plan_of routes) past) (x - 1) ≡ Some b → b.number ≡ x
  number-of b at = let h = row-within t x place_is.Ready st ready in numbered-at 1 (births (plan_of routes) past) (x - 1) b (births-numbered (plan_of routes) past) at ∙ omega (arith, h.0)

  -- the birth of an exchange that nobody has looked at is the one that its row tells
  born-told : r.stage ≡ stage.New → birth_of routes (reverse past) x r ≡ Some here.birth
  born-told g = told-by routes past x here.birth r.born (row_live r) r.birth r.fault here.number here.stands.born here.stands.kept (rw g refl)

  pub born-birth : r.stage ≡ stage.New → (b : Birth) × (birth_of routes (reverse past) x r ≡ Some b)
  born-birth g = (here.birth, born-told g)

  pub answer-within : (i : ℕ) → r.stage ≡ stage.Answered i → i < length (reverse past)
  answer-within i g = let h = answered-row routes past here.birth r i g here.stands in entry-within past i _ h.1.1.entry

  -- the entry that the row names, read at its index, is an answer
  pub answered-entry : (i : ℕ) (entries : List Entry) (e : Entry) → r.stage ≡ stage.Answered i → entries ≡ reverse past → e ≡ get_or entries i e
      → (n : ℕ) × ((a : Reply) × ((get_or entries i e).kind ≡ Answer n a))
  answered-entry i entries e g same read =
      let h = answered-row routes past here.birth r i g here.stands in
      let d : Entry = record { worker = h.1.1.worker; kind = Answer here.birth.number h.1.1.answer } in
      let there : slice_get (reverse past) i ≡ Some d = entry-there past i d h.1.1.entry in
      let within : i < length entries = rw same (answer-within i g) in
      let at : slice_get entries i ≡ Some e = slice_get_read entries (length entries) i e refl within read in
      let found : slice_get (reverse past) i ≡ Some e = ap (λ (es : List Entry). slice_get es i) (sym same) ∙ at in
      let is : e ≡ d = cc in
      (here.birth.number, (h.1.1.answer, ap (λ (f : Entry). f.kind) (sym read) ∙ ap (λ (f : Entry). f.kind) is))

  -- the cursor may take the answer of the entry that the row names
  pub answered-cursor : (i w n : ℕ) (a : Reply) → r.stage ≡ stage.Answered i → slice_get (reverse past) i ≡ Some (record { worker = w; kind = Answer n a }) → HasCursor routes a r
  answered-cursor i w n a g at =
      let h = answered-row routes past here.birth r i g here.stands in
      let there = entry-there past i _ h.1.1.entry in
      let same = same-answer (slice_get (reverse past) i) h.1.1.worker here.birth.number w n h.1.1.answer a there at in
      record { cursor = h.0; has = h.1.0; can = subst (λ (z : Reply). CanTake routes z h.0) same (can-take routes past here.birth h.0 i h.1.1) }

  -- the row of a new exchange has its first cursor
  pub new-looked : (c : Cursor) (q : Request) → r.stage ≡ stage.New → FirstLook routes (reverse past) x r c q → Stands routes workers limit past (record t { rows = put_at t.rows (x - 1) (begun c q r) })
  new-looked c q g f =
      stands-look routes workers limit past t (x - 1) r (begun c q r) st row
      (λ b b_at h.
      row-looked routes past b r (begun c q r) h refl refl refl (rw g refl)
      (let made : birth_of routes (reverse past) x r ≡ Some b = told-by routes past x b r.born (row_live r) r.birth r.fault (number-of b b_at) h.born h.kept (rw g refl) in
      let two = f.made in
      let same : f.birth ≡ b = cc in
      looked-new routes past b c q (new-row routes past b r g h) (subst (λ (d : Birth). Stepped routes (mean routes d) [] c q) same f.stepped)))
      (ready-row routes past x r here) (rw g refl) (rw g refl)

  -- the row behind an answer that its cursor was given
  pub answer-looked : (i w n : ℕ) (a : Reply) (r' : Row) → r.stage ≡ stage.Answered i → slice_get (reverse past) i ≡ Some (record { worker = w; kind = Answer n a }) → LookedAt routes a r r'
      → Stands routes workers limit past (record t { rows = put_at t.rows (x - 1) r' })
  answer-looked i w n a r' g at l =
      rw l.row (stands-look routes workers limit past t (x - 1) r (begun l.now l.request r) st row
      (λ b b_at h.
      row-looked routes past b r (begun l.now l.request r) h refl refl refl (live l.had)
      (let k = answered-row routes past b r i g h in
      let there = entry-there past i _ k.1.1.entry in
      let had = l.had in
      let same = same-answer (slice_get (reverse past) i) k.1.1.worker b.number w n k.1.1.answer a there at in
      let cursor : l.was ≡ k.0 = let has = k.1.0 in cc in
      let f = subst (λ (z : Reply). Follows routes past b k.0 (z ∷ []) None place_is.Ready) same k.1.1.follows in
      looked-answer routes past b k.0 l.now l.request a f (subst (λ (z : Cursor). Stepped routes (rest routes z) (a ∷ []) l.now l.request) cursor l.stepped)))
      (ready-row routes past x r here) (facts l.had) (live l.had))
    where
      facts : r.cursor ≡ Some l.was → row_held r ≡ row_held (begun l.now l.request r)
      facts h = rw (g, h) refl

      live : r.cursor ≡ Some l.was → row_live r ≡ row_live (begun l.now l.request r)
      live h = rw (g, h) refl

-- what is known of an exchange is what its row tells
known-at : (rows : List Row) (i : ℕ) (r : Row) (o : Option Request) → slice_get rows i ≡ Some r → slice_get (map known_of rows) i ≡ Some o → known_of r ≡ o
known-at [] i r o h k = absurd (cc h)
known-at (y ∷ rows) zero r o h k = let e : y ≡ r = cc in let g : known_of y ≡ o = cc in ap known_of (sym e) ∙ g
known-at (y ∷ rows) (suc i) r o h k = known-at rows i r o h k

known-asks : (g : State) (q : Request) → known_in g ≡ Some q → (c : Cursor) × (g ≡ state.Asks c q)
known-asks (state.Asks c q') q h = (c, let e : q' ≡ q = cc in ap (state.Asks c) e)
known-asks state.Queued q h = absurd (cc h)
known-asks state.New q h = absurd (cc h)
known-asks (state.Held c w) q h = absurd (cc h)
known-asks (state.Joining c i) q h = absurd (cc h)
known-asks (state.Asleep c i due) q h = absurd (cc h)
known-asks (state.Answered c i) q h = absurd (cc h)
known-asks (state.Ended c) q h = absurd (cc h)
known-asks state.Broken q h = absurd (cc h)

pub known-state : (rows : List Row) (i : ℕ) (r : Row) (q : Request) → slice_get rows i ≡ Some r → slice_get (map known_of rows) i ≡ Some (Some q) → (c : Cursor) × (state_of r ≡ state.Asks c q)
known-state rows i r q h k = known-asks (state_of r) q (known-at rows i r (Some q) h k)

pub known-request : (rows : List Row) (i : ℕ) (r : Row) (q : Request) → slice_get rows i ≡ Some r → slice_get (map known_of rows) i ≡ Some (Some q) → r.request ≡ Some q
known-request rows i r q h k = let s = known-state rows i r q h k in (asks-fields r.stage r.cursor r.request r.fault s.0 q s.1).1

-- what is known of an exchange whose row was put in place
pub known-now : (rows : List Row) (i : ℕ) (old new : Row) (q : Request) → slice_get rows i ≡ Some old → known_of new ≡ Some q → slice_get (map known_of (put_at rows i new)) i ≡ Some (Some q)
known-now [] i old new q h k = absurd (cc h)
known-now (y ∷ rows) zero old new q h k = ap (λ (o : Option Request). Some o) k
known-now (y ∷ rows) (suc i) old new q h k = known-now rows i old new q h k

pub known-there : (rows : List Row) (i : ℕ) (r : Row) (q : Request) → slice_get rows i ≡ Some r → known_of r ≡ Some q → slice_get (map known_of rows) i ≡ Some (Some q)
known-there [] i r q h k = absurd (cc h)
known-there (y ∷ rows) zero r q h k = let e : y ≡ r = cc in ap (λ (x : Row). Some (known_of x)) e ∙ ap (λ (o : Option Request). Some o) k
known-there (y ∷ rows) (suc i) r q h k = known-there rows i r q h k

-- a ready row that is neither new nor answered asks
asking-fields : (g : Stage) (oc : Option Cursor) (oq : Option Request) (f : Option Fault) → (g ≡ stage.New → ⊥) → ((i : ℕ) → g ≡ stage.Answered i → ⊥) → state_ready (state_by g oc oq f) ≡ true
    → (q : Request) × (known_in (state_by g oc oq f) ≡ Some q)
asking-fields stage.Queued oc oq f n a h = absurd (cc h)
asking-fields stage.New oc oq f n a h = absurd (n refl)
asking-fields (stage.Answered i) oc oq f n a h = absurd (a i refl)
asking-fields stage.Asks (Some c) (Some q) f n a h = (q, refl)
asking-fields stage.Asks (Some c) None f n a h = absurd (cc h)
asking-fields stage.Asks None oq f n a h = absurd (cc h)
asking-fields (stage.Held w) (Some c) oq f n a h = absurd (cc h)
asking-fields (stage.Held w) None oq f n a h = absurd (cc h)
asking-fields (stage.Joining i) (Some c) oq f n a h = absurd (cc h)
asking-fields (stage.Joining i) None oq f n a h = absurd (cc h)
asking-fields (stage.Asleep i due) (Some c) oq f n a h = absurd (cc h)
asking-fields (stage.Asleep i due) None oq f n a h = absurd (cc h)
asking-fields stage.Completed oc oq f n a h = absurd (cc h)
asking-fields stage.Handled oc oq f n a h = absurd (cc h)
asking-fields stage.Failed oc oq (Some f) n a h = absurd (cc h)
asking-fields stage.Failed oc oq None n a h = absurd (cc h)
asking-fields stage.Starved oc oq f n a h = absurd (cc h)
asking-fields stage.NotCommitted oc oq f n a h = absurd (cc h)

pub known-asking : {set : RouteSet} {workers limit : ℕ} {past : Past} (t : Tables) (x : ℕ) (r : Row) → Stands set workers limit past t → place (plan_of set) past x ≡ Some place_is.Ready → slice_get t.rows (x - 1) ≡ Some r
    → (r.stage ≡ stage.New → ⊥) → ((i : ℕ) → r.stage ≡ stage.Answered i → ⊥) → (q : Request) × (slice_get (map known_of t.rows) (x - 1) ≡ Some (Some q))
known-asking {set} {workers} {limit} {past} t x r st ready row n a =
    let here = is-at t x place_is.Ready r st ready row in
    let k = asking-fields r.stage r.cursor r.request r.fault n a (ready-row set past x r here) in
    (k.0, known-there t.rows (x - 1) r k.0 row k.1)

-- a call that did or did not get its memory
pub one-of-both : {X E : Type 0} (result : Result X E) (P Q : Type 0) → OnOk result P → OnErr result Q → P ⊎ Q
one-of-both (Ok x) P Q p q = inl p
one-of-both (Err e) P Q p q = inr q

pub on-ok : {X E : Type 0} (result : Result X E) (P Q : Type 0) → (P → Q) → OnOk result P → OnOk result Q
on-ok (Ok x) P Q f p = f p
on-ok (Err e) P Q f p = tt

-- an answer that was read at its index is that entry of the past
pub answer-there : (past : Past) (i : ℕ) (entries : List Entry) (e : Entry) (n : ℕ) (a : Reply) → entries ≡ reverse past → i < length (reverse past) → e ≡ get_or entries i e → (get_or entries i e).kind ≡ Answer n a
    → slice_get (reverse past) i ≡ Some (record { worker = e.worker; kind = Answer n a })
answer-there past i entries e n a same within read is =
    let within' : i < length entries = rw same within in
    let at : slice_get entries i ≡ Some e = slice_get_read entries (length entries) i e refl within' read in
    let kind : e.kind ≡ Answer n a = ap (λ (d : Entry). d.kind) read ∙ is in
    ap (λ (es : List Entry). slice_get es i) (sym same) ∙ (at ∙ ap (λ (k : Kind). Some (record { worker = e.worker; kind = k })) kind)
