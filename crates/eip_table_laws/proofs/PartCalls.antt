-- The tables behind the entry by which the parts of an exchange are born.
use Rattle.std.proofs.Common.{◌≡◌, ℕ, suc, ◌+◌, ◌-◌, ◌<◌, ◌≤◌, Bool, true, false, cond, List, [], ◌∷◌, ◌++◌, length, set as put_at, filter, Option, Some, None, is_some, refl, sym, ap, subst, ◌∙◌, arith, eq-eqb}
use Rattle.std.specs.List.{slice_get}
use Rattle.std.specs.Prelude.{option_map}
use Rattle.std.proofs.Math.ListN.{length-set}
use Rattle.std.proofs.lemmas.List.{append-nil}
use Rattle.eip_exchange.specs.declared.birth.Birth.{Birth}
use Rattle.eip_route.specs.declared.route.RouteSet.{RouteSet}
use Rattle.eip_frames.specs.declared.request.At.{At}
use Rattle.eip_frames.specs.declared.request.Seed.{Seed}
use Rattle.eip_frames.specs.declared.request.Request.TheVariants as request
use Rattle.eip_frames.specs.declared.answer.Answer.{Answer as Reply}
use Rattle.eip_frames.specs.declared.answer.Answer.TheVariants as reply
use Rattle.eip_ledger.specs.declared.entry.Entry.{Entry}
use Rattle.eip_ledger.specs.declared.entry.Kind.TheVariants.{Answer}
use Rattle.eip_ledger.specs.declared.place.Place.TheVariants as place_is
use Rattle.eip_join.specs.Parts as join
use Rattle.eip_join.specs.Parts.{Call, Began, Open, IsFree, AreNew, join_over}
use Rattle.eip_join.proofs.Standing.{length-ends}
use Rattle.eip_meaning.proofs.Scripts.{AreFew}
use Rattle.eip_progress.specs.declared.cursor.Cursor.{Cursor}
use Rattle.eip_history.specs.Own.{Past, own, concerns, turns, numbered}
use Rattle.eip_history.specs.Births.{Asked, births, asked, part_births}
use Rattle.eip_history.specs.Place.{place, ended, all_ended}
use Rattle.eip_history.specs.Rules.{KeepsRules, May, IsBelow, next}
use Rattle.eip_history.specs.Tables.{Related, without, bit}
use Rattle.eip_history.proofs.Limit.{not-same, turns-more}
use Rattle.eip_history.proofs.Parts.{born-births}
use Rattle.eip_history.proofs.Unborn.{newborn-own, numbered-within}
use Rattle.eip_history.proofs.Main.{legal-add}
use Rattle.eip_history.proofs.Acting.{ended-beside}
use Rattle.eip_plan.proofs.Laws.{plan-laws}
use Rattle.eip_plan.specs.Plan.{plan_of}
use Rattle.eip_tables.specs.declared.parts.Parent.{Parent}
use Rattle.eip_tables.specs.Row.{Row}
use Rattle.eip_tables.specs.Moves.{joining, part_row}
use Rattle.eip_tables.specs.Numbers.{row_numbers, row_count, numbers_from}
use Rattle.eip_tables.specs.Offers.{hops_by}
use Rattle.eip_tables.specs.Parts.{seed_birth, seed_births, seed_rows, parent_of, at_by}
use Rattle.eip_tables.specs.State as state
use Rattle.eip_tables.specs.State.{state_of, row_outside}
use Rattle.eip_tables.specs.Rows.{Keeps, RowStands, IsAsking, HasAnswer, row_ready, row_held, row_live, state_ready, state_held, state_live}
use Rattle.eip_tables.specs.Stands.{Tables, Stands}
use Rattle.eip_table_laws.proofs.RowNumbers.{numbers-leave, count-set}
use Rattle.eip_table_laws.proofs.RowPlaces.{row-on, fate-asks}
use Rattle.eip_table_laws.proofs.RowSteps.{has-answer}
use Rattle.eip_table_laws.proofs.PartFacts.{unopened, answer-lives, joined-none}
use Rattle.eip_table_laws.proofs.JoinsKept.{awaits, unborn-lives, joins-born}
use Rattle.eip_table_laws.proofs.QueueCalls.{queues-on}
use Rattle.eip_table_laws.proofs.SleepersKept.{sleepers-stay}
use Rattle.eip_table_laws.proofs.GroupsKept.{groups-stay}
use Rattle.eip_table_laws.proofs.KeysKept.{keys-on}
use Rattle.eip_table_laws.proofs.OwnEvents.{stands-own, rows-one, apart-lives, notes_in, of-answer}
use Rattle.eip_table_laws.proofs.OwnCalls.{IsAt, is-at, row-within, rows-many, asked-by-fate, asks-fields, hops-told}
use Rattle.eip_table_laws.proofs.OfferCalls.{few-asked}
use Rattle.eip_table_laws.proofs.AskedPlaces.{asked-place}

-- ---- parts and their rows

-- the parent of whoever asks
abbrev asking_parent : Asked → Parent
asking_parent k = record { number = k.birth.number; hops = k.birth.hops; at = k.at }

-- the parts that a birth makes are those of its parent's seeds
seeds-are : (n i : ℕ) (k : Asked) (ds : List Seed) → part_births n k i ds ≡ seed_births (asking_parent k) n i ds
seeds-are n i k [] = refl
seeds-are n i k (d ∷ ds) = ap (λ (bs : List Birth). seed_birth (asking_parent k) n i d ∷ bs) (seeds-are (n + 1) (i + 1) k ds)

seeds-many : (p : Parent) (n i : ℕ) (ds : List Seed) → length (seed_rows p n i ds) ≡ length ds
seeds-many p n i [] = refl
seeds-many p n i (d ∷ ds) = ap suc (seeds-many p (n + 1) (i + 1) ds)

-- new numbers behind those of the rows before
pub numbers-behind : (f : Row → Bool) (n : ℕ) (rs ss : List Row) → row_numbers f n (rs ++ ss) ≡ row_numbers f n rs ++ row_numbers f (n + length rs) ss
numbers-behind f n [] ss = let e : n + 0 ≡ n = omega arith in rw e refl
numbers-behind f n (r ∷ rs) ss =
    let ih = numbers-behind f (n + 1) rs ss in
    let e : n + suc (length rs) ≡ n + 1 + length rs = omega arith in
    rw e (elim (f r) as (λ v. cond v (n ∷ row_numbers f (n + 1) (rs ++ ss)) (row_numbers f (n + 1) (rs ++ ss)) ≡ cond v (n ∷ row_numbers f (n + 1) rs) (row_numbers f (n + 1) rs) ++ row_numbers f (n + 1 + length rs) ss) [
      | true ↦ ap (λ xs. n ∷ xs) ih
      | false ↦ ih
    ])

pub count-behind : (f : Row → Bool) (rs ss : List Row) → row_count f (rs ++ ss) ≡ row_count f rs + row_count f ss
count-behind f [] ss = omega arith
count-behind f (r ∷ rs) ss =
    let ih = count-behind f rs ss in
    elim (f r) as (λ v. length (cond v (r ∷ filter f (rs ++ ss)) (filter f (rs ++ ss))) ≡ length (cond v (r ∷ filter f rs) (filter f rs)) + row_count f ss) [ true ↦ omega (arith, ih) | false ↦ ih ]

-- each part is ready, lives and is in nobody's hand
parts-ready : (p : Parent) (m n i : ℕ) (ds : List Seed) → row_numbers row_ready m (seed_rows p n i ds) ≡ numbers_from m (length ds)
parts-ready p m n i [] = refl
parts-ready p m n i (d ∷ ds) = ap (λ xs. m ∷ xs) (parts-ready p (m + 1) (n + 1) (i + 1) ds)

parts-live : (p : Parent) (n i : ℕ) (ds : List Seed) → row_count row_live (seed_rows p n i ds) ≡ length ds
parts-live p n i [] = refl
parts-live p n i (d ∷ ds) = ap suc (parts-live p (n + 1) (i + 1) ds)

parts-free : (p : Parent) (n i : ℕ) (ds : List Seed) → row_count row_held (seed_rows p n i ds) ≡ 0
parts-free p n i [] = refl
parts-free p n i (d ∷ ds) = parts-free p (n + 1) (i + 1) ds

pub related-behind : {A B : Type 0} (R : A → B → Type 0) (xs zs : List A) (ys ws : List B) → Related R xs ys → Related R zs ws → Related R (xs ++ zs) (ys ++ ws)
related-behind R [] zs [] ws r h = h
related-behind R [] zs (y ∷ ys) ws r h = absurd r
related-behind R (x ∷ xs) zs [] ws r h = absurd r
related-behind R (x ∷ xs) zs (y ∷ ys) ws r h = (r.0, related-behind R xs zs ys ws r.1 h)

-- the row of a newborn part stands for it
part-stands : (set : RouteSet) (past : Past) (p : Parent) (n i : ℕ) (d : Seed) → own n past ≡ [] → p.hops ≤ turns past → RowStands set past (seed_birth p n i d) (part_row p.number i (seed_birth p n i d))
part-stands set past p n i d none hops = record {
  born = refl;
  kept = (refl, refl);
  hops = hops;
  stands = record { fed = rw none refl; taken = rw none refl; silent = rw none refl; runs = rw none refl; left = refl };
}

parts-stand : (set : RouteSet) (past : Past) (p : Parent) (n i : ℕ) (ds : List Seed) → ((m : ℕ) → n ≤ m → own m past ≡ []) → p.hops ≤ turns past → Related (RowStands set past) (seed_births p n i ds) (seed_rows p n i ds)
parts-stand set past p n i [] none hops = tt
parts-stand set past p n i (d ∷ ds) none hops =
    (part-stands set past p n i d (none n (omega arith)) hops, parts-stand set past p (n + 1) (i + 1) ds (λ m l. none m (omega (arith, l))) hops)

-- nobody knows what they ask
parts-unknown : (p : Parent) (m n i : ℕ) (ds : List Seed) → row_numbers row_outside m (seed_rows p n i ds) ≡ []
parts-unknown p m n i [] = refl
parts-unknown p m n i (d ∷ ds) = parts-unknown p (m + 1) (n + 1) (i + 1) ds

pub born-outside : (p : Parent) (n i : ℕ) (ds : List Seed) (rows : List Row) → row_numbers row_outside 1 (rows ++ seed_rows p n i ds) ≡ row_numbers row_outside 1 rows
born-outside p n i ds rows =
    numbers-behind row_outside 1 rows (seed_rows p n i ds)
    ∙ (ap (λ (ns : List ℕ). row_numbers row_outside 1 rows ++ ns) (parts-unknown p (1 + length rows) n i ds) ∙ append-nil (row_numbers row_outside 1 rows))

-- ---- the birth

module _ {routes : RouteSet} {workers limit : ℕ} {past : Past} (t : Tables) (w x : ℕ) (st : Stands routes workers limit past t) (lw : w ≤ workers) (c : Cursor) (r : Row)
    (ready : place (plan_of routes) past x ≡ Some place_is.Ready) (row : slice_get t.rows (x - 1) ≡ Some r) (seeds : List Seed) (asks : state_of r ≡ state.Asks c (request.Spawn seeds)) where
  here : IsAt routes past x r place_is.Ready
  here = is-at t x place_is.Ready r st ready row

  within : (0 < x) × (x ≤ length t.rows)
  within = row-within t x place_is.Ready st ready

  above : suc (x - 1) ≡ x
  above = omega (arith, within.0)

  at-index : slice_get (births (plan_of routes) past) (x - 1) ≡ Some here.birth
  at-index = subst (λ (n : ℕ). numbered (births (plan_of routes) past) n ≡ Some here.birth) (sym above) here.at

  number-of : (b : Birth) → slice_get (births (plan_of routes) past) (x - 1) ≡ Some b → b.number ≡ x
  number-of b at = let two : Some here.birth ≡ Some b = sym at-index ∙ at in let same : here.birth ≡ b = cc in ap (λ (d : Birth). d.number) (sym same) ∙ here.number

  asking : IsAsking routes past here.birth c (request.Spawn seeds) None
  asking = rw asks at here.stands.stands

  abbrev spawns : Asked
  spawns = record { birth = here.birth; request = request.Spawn seeds; at = asking.at }

  asked-here : asked (plan_of routes) past x ≡ Some (record { birth = here.birth; request = request.Spawn seeds; at = asking.at })
  asked-here = asked-by-fate routes past x here.birth (request.Spawn seeds) asking.at here.at (fate-asks routes past here.birth c (request.Spawn seeds) None asking)

  -- its row tells where it asks
  at-told : at_by r.cursor ≡ asking.at
  at-told = let f = asks-fields r.stage r.cursor r.request r.fault c (request.Spawn seeds) asks in ap at_by f.0 ∙ sym (asked-place routes c (request.Spawn seeds) asking.at asking.follows.later asking.asks)

  few : AreFew asking.at seeds
  few = few-asked routes past x spawns seeds asked-here refl

  pub spawn-few : length seeds ≤ 10000
  spawn-few = few.few

  pub spawn-some : 0 < length seeds
  spawn-some = few.some

  -- a number of 32 bits is the index of each part
  pub spawn-indexed : (at_by r.cursor).index + length seeds ≤ 4294967296
  spawn-indexed = let i = ap (λ (p : At). p.index) at-told in let h = few.indexed in omega (arith, i, h)

  -- it has no open join
  pub spawn-free : IsFree x t.joins
  spawn-free = st.joins.stands x ∙ ap (option_map (join_over st.joins.calls)) (st.joins.parts x ∙ unopened routes past x spawns asked-here tt)

  -- and none of the new numbers is a part of one
  pub spawn-new : AreNew (length t.rows + 1) (length seeds) t.joins
  spawn-new p y opened at part from to = by_parts (join.parts_of st.joins.calls p) refl
    where
      by_parts : (o : Option (ℕ × ℕ)) → join.parts_of st.joins.calls p ≡ o → ⊥
      by_parts None h = let g = sym at ∙ (st.joins.stands p ∙ ap (option_map (join_over st.joins.calls)) h) in cc g
      by_parts (Some q) h =
          let g : Some opened ≡ Some (join_over st.joins.calls q) = sym at ∙ (st.joins.stands p ∙ ap (option_map (join_over st.joins.calls)) h) in
          let same : opened ≡ join_over st.joins.calls q = cc in
          let first : opened.first ≡ q.0 = ap (λ (j : Open). j.first) same in
          let many : length opened.ends ≡ q.1 = ap (λ (j : Open). length j.ends) same ∙ length-ends st.joins.calls q.0 q.1 in
          let parts = awaits (plan_of routes) workers limit past p q.0 q.1 st.legal.entries (sym (st.joins.parts p) ∙ h) in
          let b = parts.part (y - q.0) (omega (arith, part.0, part.1, first, many)) in
          let place : q.0 + (y - q.0) ≡ y = omega (arith, part.0, first) in
          let within = numbered-within (births (plan_of routes) past) (q.0 + (y - q.0)) b.0 b.1 in
          let all = rows-many t st in
          omega (arith, place, within, all, from)

  hops-here : hops_by r.born r.birth ≡ here.birth.hops
  hops-here = hops-told (plan_of routes) past r.born r.birth r.fault here.birth here.stands.born (subst (λ (v : Bool). Keeps r.born v here.birth r.birth r.fault) (ap state_live asks) here.stands.kept)

  -- the parent as its birth tells it
  parent-told : parent_of x r ≡ asking_parent spawns
  parent-told =
      let hops = hops-here in
      ap (λ (h : ℕ). record { number = x; hops = h; at = at_by r.cursor }) hops
      ∙ (ap (λ (p : At). record { number = x; hops = here.birth.hops; at = p }) at-told ∙ ap (λ (n : ℕ). record { number = n; hops = here.birth.hops; at = asking.at }) (sym here.number))

  next-is : next (plan_of routes) past ≡ length t.rows + 1
  next-is = let n = rows-many t st in omega (arith, n)

  module _ (below : IsBelow (plan_of routes) limit past) where
    may-born : May (plan_of routes) limit past w (Answer x (reply.Born (length t.rows + 1) (length seeds)))
    may-born = record { asks = spawns; asked_is = asked-here; fitting = eq-eqb (length seeds) (length seeds) refl; act = (ready, below); content = sym next-is }

    -- its parts are the exchanges that the entry makes
    born-now : births (plan_of routes) ((record { worker = w; kind = Answer x (reply.Born (length t.rows + 1) (length seeds)) }) ∷ past)
        ≡ births (plan_of routes) past ++ seed_births (parent_of x r) (length t.rows + 1) (at_by r.cursor).index seeds
    born-now =
        let s = plan_of routes in
        let i = ap (λ (p : At). p.index) at-told in
        born-births s past w x spawns seeds (length t.rows + 1) (length seeds) asked-here refl
        ∙ ap (λ (bs : List Birth). births s past ++ bs)
        (ap (λ (n : ℕ). part_births n spawns asking.at.index seeds) next-is
        ∙ (ap (λ (n : ℕ). part_births (length t.rows + 1) spawns n seeds) (sym i) ∙ (seeds-are (length t.rows + 1) (at_by r.cursor).index spawns seeds ∙ ap (λ (p : Parent). seed_births p (length t.rows + 1) (at_by r.cursor).index seeds) (sym parent-told))))

    born-lives : ended (plan_of routes) ((record { worker = w; kind = Answer x (reply.Born (length t.rows + 1) (length seeds)) }) ∷ past) x ≡ None
    born-lives = answer-lives routes w x (reply.Born (length t.rows + 1) (length seeds)) past spawns asked-here (λ h. cc h) (λ h. cc h)

    born-legal : KeepsRules (plan_of routes) workers limit ((record { worker = w; kind = Answer x (reply.Born (length t.rows + 1) (length seeds)) }) ∷ past)
    born-legal = (legal-add (plan_of routes) workers limit (record { worker = w; kind = Answer x (reply.Born (length t.rows + 1) (length seeds)) }) past st.legal lw may-born).entries

    -- and none of them has ended
    unended : all_ended (plan_of routes) ((record { worker = w; kind = Answer x (reply.Born (length t.rows + 1) (length seeds)) }) ∷ past) (length t.rows + 1) (length seeds) ≡ false
    unended =
        let s = plan_of routes in
        let e : Entry = record { worker = w; kind = Answer x (reply.Born (length t.rows + 1) (length seeds)) } in
        let many = rows-many t st in
        let newborn : length (births s past) < length t.rows + 1 + 0 = omega (arith, many) in
        let apart : concerns (length t.rows + 1 + 0) e.kind ≡ false = not-same (length t.rows + 1 + 0) x (λ same. let h = within in omega (arith, same, h.1)) in
        ap is_some (joined-none s (e ∷ past) (length t.rows + 1) (length seeds) 0 spawn-some (ended-beside s (plan-laws routes) workers limit e past (length t.rows + 1 + 0) born-legal apart ∙ unborn-lives s past (length t.rows + 1 + 0) newborn))

    born-answer : (d : Birth) → slice_get (births (plan_of routes) past) (x - 1) ≡ Some d → RowStands routes past d r
        → HasAnswer routes ((record { worker = w; kind = Answer x (reply.Born (length t.rows + 1) (length seeds)) }) ∷ past) d c (length past) place_is.Joining
    born-answer d d_at h =
        let a : Reply = reply.Born (length t.rows + 1) (length seeds) in
        let number = number-of d d_at in
        let left = subst (λ (n : ℕ). all_ended (plan_of routes) ((record { worker = w; kind = Answer n a }) ∷ past) (length t.rows + 1) (length seeds) ≡ false) (sym number) unended in
        subst (λ (n : ℕ). HasAnswer routes ((record { worker = w; kind = Answer n a }) ∷ past) d c (length past) place_is.Joining) number
        (has-answer routes past w d c (request.Spawn seeds) a None place_is.Joining (rw left refl) tt (eq-eqb (length seeds) (length seeds) refl) (rw asks at h.stands))

    now-joining : state_of (joining (length past) r) ≡ state.Joining c (length past)
    now-joining = let f = asks-fields r.stage r.cursor r.request r.fault c (request.Spawn seeds) asks in rw f.0 refl

    pub stands-born : (joins : List (ℕ × Open)) → ((calls : List Call) → join.Stands calls t.joins → join.Stands (Began x (length t.rows + 1) (length seeds) ∷ calls) joins)
        → Stands routes workers limit ((record { worker = w; kind = Answer x (reply.Born (length t.rows + 1) (length seeds)) }) ∷ past) (record t {
          rows = put_at t.rows (x - 1) (joining (length past) r) ++ seed_rows (parent_of x r) (length t.rows + 1) (at_by r.cursor).index seeds;
          ready = without x t.ready ++ numbers_from (length t.rows + 1) (length seeds);
          turns = t.turns + 1;
          live = t.live + length seeds;
          joins = joins;
        })
    stands-born joins began =
        let s = plan_of routes in
        let n = length t.rows + 1 in
        let p = parent_of x r in
        let i = (at_by r.cursor).index in
        let a : Reply = reply.Born (length t.rows + 1) (length seeds) in
        let e : Entry = record { worker = w; kind = Answer x a } in
        let new : Row = joining (length past) r in
        let rows = put_at t.rows (x - 1) new in
        let parts = seed_rows p n i seeds in
        let number : 1 + (x - 1) ≡ x = omega (arith, above) in
        let many : length rows ≡ length t.rows = length-set t.rows (x - 1) new in
        let first : 1 + length rows ≡ length t.rows + 1 = omega (arith, many) in
        let none : notes_in s past w (Answer x a) ≡ [] = rw asked-here refl in
        let was_ready : row_ready r ≡ true = ap state_ready asks in
        let now_ready : row_ready new ≡ false = ap state_ready now-joining in
        let h : row_held r ≡ false = ap state_held asks in
        let h' : row_held new ≡ false = ap state_held now-joining in
        let l : row_live r ≡ true = ap state_live asks in
        let l' : row_live new ≡ true = ap state_live now-joining in
        let hops = hops-here in
        rw (none, append-nil t.notes) at
        (stands-own routes workers limit past t w x (Answer x a) (rows ++ parts) (without x t.ready ++ numbers_from n (length seeds)) t.taken (t.live + length seeds) t.queues joins t.sleepers t.groups t.keys st lw may-born (of-answer w x a tt)
        (λ legal. rw born-now
        (related-behind (RowStands routes (e ∷ past)) (births s past) (seed_births p n i seeds) rows parts
        (rows-one routes workers limit past t w x (x - 1) (Answer x a) r new st legal (of-answer w x a tt) above row (apart-lives routes workers limit w x (Answer x a) past legal (of-answer w x a tt) born-lives)
        (λ d d_at g. row-on routes e past d r new g refl refl refl (l ∙ sym l') (rw now-joining (born-answer d d_at g))))
        (parts-stand routes (e ∷ past) p n i seeds (λ m le. newborn-own s workers limit e past m legal (let all = rows-many t st in omega (arith, all, le))) (omega (arith, hops, here.stands.hops, turns-more e past)))))
        (ap (λ (ns : List ℕ). without x ns ++ numbers_from n (length seeds)) st.ready
        ∙ sym (numbers-behind row_ready 1 rows parts ∙ (rw number at (ap (λ (ns : List ℕ). ns ++ row_numbers row_ready (1 + length rows) parts) (numbers-leave row_ready 1 t.rows (x - 1) new now_ready))
        ∙ ap (λ (ns : List ℕ). without x (row_numbers row_ready 1 t.rows) ++ ns) (parts-ready p (1 + length rows) n i seeds ∙ ap (λ (m : ℕ). numbers_from m (length seeds)) first))))
        (let k = count-set row_held t.rows (x - 1) r new row in let b = count-behind row_held rows parts in let z = parts-free p n i seeds in let g = ap bit h in let g' = ap bit h' in omega (arith, k, b, z, g, g', st.taken))
        (let k = count-set row_live t.rows (x - 1) r new row in let b = count-behind row_live rows parts in let z = parts-live p n i seeds in let g = ap bit l in let g' = ap bit l' in omega (arith, k, b, z, g, g', st.live))
        (λ legal. queues-on routes workers limit w x a past here.birth t.queues legal refl here.at born-lives st.queues)
        (λ legal. joins-born routes workers limit w x a past legal born-lives n (length seeds) joins refl (sym next-is) began (let q = within in let all = rows-many t st in omega (arith, q.1, all)) st.joins)
        (λ legal. sleepers-stay routes workers limit w (Answer x a) past t.sleepers legal refl st.sleepers)
        (groups-stay routes w (Answer x a) past t.groups refl st.groups)
        (keys-on routes w x a past t.keys refl born-lives st.keys))
