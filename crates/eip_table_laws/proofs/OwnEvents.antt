-- What the entries of an exchange make of the tables.
use Rattle.std.proofs.Common.{◌≡◌, ◌≢◌, ℕ, suc, ◌+◌, ◌≤◌, ◌==◌, false, inl, inr, eq-eqb, List, [], ◌∷◌, ◌++◌, set as put_at, filter_map, Option, Some, None, refl, sym, ap, ◌∙◌, arith}
use Rattle.std.specs.List.{slice_get}
use Rattle.std.proofs.lemmas.Bool.{cases_Bool, eqb-true}
use Rattle.eip_exchange.specs.declared.birth.Birth.{Birth}
use Rattle.eip_route.specs.declared.route.RouteSet.{RouteSet}
use Rattle.eip_frames.specs.declared.answer.Answer.{Answer as Reply}
use Rattle.eip_ledger.specs.declared.entry.Entry.{Entry}
use Rattle.eip_ledger.specs.declared.entry.Kind.{Kind}
use Rattle.eip_ledger.specs.declared.entry.Kind.TheVariants.{Start, Take, Answer, Starve}
use Rattle.eip_ledger.specs.declared.place.Note.{Note}
use Rattle.eip_ledger.specs.declared.place.Place.TheVariants as place_is
use Rattle.eip_history.specs.Plan.{Plan}
use Rattle.eip_history.specs.Own.{Past, concerns, answer_in, is_starve, moved, ticked, turns_in, numbered, SourceState, source_state}
use Rattle.eip_history.specs.Births.{births}
use Rattle.eip_history.specs.Place.{ended, place_of}
use Rattle.eip_history.specs.Rules.{KeepsRules, May, Served, served_in}
use Rattle.eip_history.specs.Stop.{fault_in}
use Rattle.eip_history.specs.Tables.{Related, bit}
use Rattle.eip_history.specs.Texts.{note_for}
use Rattle.eip_history.proofs.Lists.{related-set, related-at}
use Rattle.eip_history.proofs.Limit.{source-after, pulls-same, turns-more, not-same}
use Rattle.eip_history.proofs.Main.{legal-add}
use Rattle.eip_history.proofs.Told.{births-numbered}
use Rattle.eip_history.proofs.Unborn.{legal-tail}
use Rattle.eip_history.proofs.Places.{EndsNone, clock-same, place-other, ended-other}
use Rattle.eip_history.proofs.Moves.{ends-nobody}
use Rattle.eip_plan.specs.Plan.{plan_of}
use Rattle.eip_plan.specs.Simple.{IsSimpleAnswer, IsSimpleEntry}
use Rattle.eip_plan.proofs.Items.{simple_births}
use Rattle.eip_seda.specs.Consuming.{QueueView}
use Rattle.eip_join.specs.Parts.{Open}
use Rattle.eip_tables.specs.Row.{Row}
use Rattle.eip_tables.specs.Numbers.{row_numbers, row_count}
use Rattle.eip_tables.specs.Queues.{QueuesStand}
use Rattle.eip_tables.specs.Joins.{JoinsStand}
use Rattle.eip_tables.specs.Sleepers.{SleepersStand}
use Rattle.eip_tables.specs.Groups.{GroupsStand}
use Rattle.eip_tables.specs.Keys.{KeysStand}
use Rattle.eip_aggregator.specs.Tables.{Table}
use Rattle.eip_idempotent.specs.Keys.{Table as KeyTable}
use Rattle.eip_history.specs.TableWords.{moves_groups}
use Rattle.eip_tables.specs.Rows.{RowStands, row_ready, row_held, row_live}
use Rattle.eip_tables.specs.Stands.{Tables, Stands}
use Rattle.eip_table_laws.proofs.RowNumbers.{numbers-stay, count-set}
use Rattle.eip_table_laws.proofs.RowPlaces.{row-other}
use Rattle.eip_table_laws.proofs.JoinsKept.{lived}
use Rattle.eip_table_laws.proofs.GroupsKept.{groups-stay}
use Rattle.eip_table_laws.proofs.SourceEvents.{births-same, sources-same, notes-more, fault-none}

-- an entry of exchange x: it concerns nobody else, moves no source, and answers a simple request or none
pub record IsOfOne (w x : ℕ) (k : Kind) : Type 0 where
  pub only : (y : ℕ) → y ≢ x → concerns y k ≡ false
  pub unmoved : (u : ℕ) (was : SourceState) → moved w u k was ≡ was
  pub no_fault : fault_in k ≡ None
  pub no_tick : (n : ℕ) → ticked k n ≡ n
  pub simple : IsSimpleEntry k

pub of-take : (w x : ℕ) → IsOfOne w x (Take x)
of-take w x = record { only = λ y ne. not-same y x ne; unmoved = λ u was. refl; no_fault = refl; no_tick = λ n. refl; simple = tt }

pub of-answer : (w x : ℕ) (a : Reply) → IsSimpleAnswer a → IsOfOne w x (Answer x a)
of-answer w x a i = record { only = λ y ne. not-same y x ne; unmoved = λ u was. refl; no_fault = refl; no_tick = λ n. refl; simple = i }

pub of-start : (w q x : ℕ) → IsOfOne w x (Start q x)
of-start w q x = record { only = λ y ne. not-same y x ne; unmoved = λ u was. refl; no_fault = refl; no_tick = λ n. refl; simple = tt }

pub of-starve : (w x : ℕ) → IsOfOne w x (Starve x)
of-starve w x = record { only = λ y ne. not-same y x ne; unmoved = λ u was. refl; no_fault = refl; no_tick = λ n. refl; simple = tt }

-- the lines of the log that an entry adds
abbrev pub notes_in : Plan → Past → ℕ → Kind → List Note
notes_in s past w k = filter_map (λ (v : Served). note_for v.asked.birth.number v.asked.request v.answer) (served_in s past w k)

-- the tables behind an entry of an exchange; the rows, and the Ready numbers and counts that follow from them, are told
pub stands-own : (set : RouteSet) (workers limit : ℕ) (past : Past) (t : Tables) (w x : ℕ) (k : Kind) (rows : List Row) (ready : List ℕ) (taken live : ℕ) (queues : List QueueView) (joins : List (ℕ × Open)) (sleepers : List (ℕ × ℕ)) (groups : Table) (keys : KeyTable)
    → Stands set workers limit past t → w ≤ workers → May (plan_of set) limit past w k → IsOfOne w x k
    → (KeepsRules (plan_of set) workers limit ((record { worker = w; kind = k }) ∷ past)
    → Related (RowStands set ((record { worker = w; kind = k }) ∷ past)) (births (plan_of set) ((record { worker = w; kind = k }) ∷ past)) rows)
    → ready ≡ row_numbers row_ready 1 rows → taken ≡ row_count row_held rows → live ≡ row_count row_live rows
    → (KeepsRules (plan_of set) workers limit ((record { worker = w; kind = k }) ∷ past) → QueuesStand set ((record { worker = w; kind = k }) ∷ past) queues)
    → (KeepsRules (plan_of set) workers limit ((record { worker = w; kind = k }) ∷ past) → JoinsStand set ((record { worker = w; kind = k }) ∷ past) joins)
    → (KeepsRules (plan_of set) workers limit ((record { worker = w; kind = k }) ∷ past) → SleepersStand set ((record { worker = w; kind = k }) ∷ past) sleepers)
    → GroupsStand set ((record { worker = w; kind = k }) ∷ past) groups
    → KeysStand set ((record { worker = w; kind = k }) ∷ past) keys
    → Stands set workers limit ((record { worker = w; kind = k }) ∷ past)
    (record t { rows = rows; ready = ready; turns = t.turns + turns_in k; notes = t.notes ++ notes_in (plan_of set) past w k; taken = taken; live = live; queues = queues; joins = joins; sleepers = sleepers; groups = groups; keys = keys })
stands-own routes workers limit past t w x k rows ready taken live queues joins sleepers groups keys st lw may of rows_are ready_is taken_is live_is queues_are joins_are sleepers_are groups_are keys_are =
    let e : Entry = record { worker = w; kind = k } in
    let s = plan_of routes in
    let legal = legal-add s workers limit e past st.legal lw may in
    record {
      legal = legal;
      simple = (st.simple, of.simple);
      rows = rows_are legal.entries;
      ready = ready_is;
      sources = sources-same s e past t.sources (λ u. source-after w u k past ∙ of.unmoved u (source_state u past)) st.sources;
      turns = ap (λ n. n + turns_in k) st.turns ∙ sym (turns-more e past);
      fault = st.fault ∙ sym (fault-none e past of.no_fault);
      notes = ap (λ xs. xs ++ notes_in s past w k) st.notes ∙ sym (notes-more s e past);
      taken = taken_is;
      pulled = st.pulled ∙ sym (pulls-same s e past of.unmoved);
      live = live_is;
      queues = queues_are legal.entries;
      joins = joins_are legal.entries;
      clock = st.clock ∙ sym (clock-same e past of.no_tick);
      sleepers = sleepers_are legal.entries;
      groups = groups_are;
      keys = keys_are;
    }

-- nobody but x stands elsewhere behind an entry
abbrev pub StandsApart : RouteSet → Past → Entry → ℕ → Type 0
StandsApart set past e x = (b : Birth) → b.number ≢ x → place_of (plan_of set) (e ∷ past) b ≡ place_of (plan_of set) past b

-- an entry that answers nothing and starves nobody moves its own exchange alone
pub apart-quiet : (set : RouteSet) (workers limit w x : ℕ) (k : Kind) (past : Past) → KeepsRules (plan_of set) workers limit ((record { worker = w; kind = k }) ∷ past) → IsOfOne w x k → answer_in k ≡ [] → is_starve k ≡ false
    → StandsApart set past (record { worker = w; kind = k }) x
apart-quiet set workers limit w x k past legal of a v b ne =
    let e : Entry = record { worker = w; kind = k } in
    place-other (plan_of set) workers limit e past b (legal-tail (plan_of set) workers limit e past legal) (ends-nobody (plan_of set) e past a v) (of.only b.number ne) of.no_tick

-- and so does one behind which it lives
pub apart-lives : (set : RouteSet) (workers limit w x : ℕ) (k : Kind) (past : Past) → KeepsRules (plan_of set) workers limit ((record { worker = w; kind = k }) ∷ past) → IsOfOne w x k
    → ended (plan_of set) ((record { worker = w; kind = k }) ∷ past) x ≡ None → StandsApart set past (record { worker = w; kind = k }) x
apart-lives set workers limit w x k past legal of lives b ne =
    place-other (plan_of set) workers limit (record { worker = w; kind = k }) past b (legal-tail (plan_of set) workers limit (record { worker = w; kind = k }) past legal) ends-none (of.only b.number ne) of.no_tick
  where
    ends-none : EndsNone (plan_of set) (record { worker = w; kind = k }) past
    ends-none y d at = elim (cases_Bool (y == x)) [
      | inl t ↦ (let same = eqb-true y x t in rw same (lives ∙ sym (lived (plan_of set) workers limit (record { worker = w; kind = k }) past x legal lives)))
      | inr f ↦ ended-other (plan_of set) (record { worker = w; kind = k }) past y d at (of.only y (λ same. let g = eq-eqb y x same in let m = sym g ∙ f in cc m))
    ]

-- the rows behind an entry that moves its own exchange alone
pub rows-one : (set : RouteSet) (workers limit : ℕ) (past : Past) (t : Tables) (w x i : ℕ) (k : Kind) (old new : Row)
    → Stands set workers limit past t → KeepsRules (plan_of set) workers limit ((record { worker = w; kind = k }) ∷ past) → IsOfOne w x k → suc i ≡ x → slice_get t.rows i ≡ Some old
    → StandsApart set past (record { worker = w; kind = k }) x
    → ((b : Birth) → slice_get (births (plan_of set) past) i ≡ Some b → RowStands set past b old → RowStands set ((record { worker = w; kind = k }) ∷ past) b new)
    → Related (RowStands set ((record { worker = w; kind = k }) ∷ past)) (births (plan_of set) past) (put_at t.rows i new)
rows-one routes workers limit past t w x i k old new st legal of x_is at apart here =
    let e : Entry = record { worker = w; kind = k } in
    let s = plan_of routes in
    let suc_is : 1 + i ≡ suc i = omega arith in
    let number : 1 + i ≡ x = suc_is ∙ x_is in
    related-set (RowStands routes past) (RowStands routes (e ∷ past)) 1 (births s past) t.rows i new (births-numbered s past)
    (λ b r ne h. row-other routes workers limit e past b r legal (of.only b.number (λ y. ne (y ∙ sym number))) (apart b (λ y. ne (y ∙ sym number))) h)
    (λ b b_at. here b b_at (related-at (RowStands routes past) (births s past) t.rows i b old st.rows b_at at)) st.rows

-- the tables behind an entry of the exchange at i that moves nobody else and lets nobody be born; its row, and the Ready numbers and counts that follow from it, are told
pub stands-beside : (set : RouteSet) (workers limit : ℕ) (past : Past) (t : Tables) (w x i : ℕ) (k : Kind) (old new : Row) (ready : List ℕ) (taken live : ℕ) (queues : List QueueView) (joins : List (ℕ × Open)) (sleepers : List (ℕ × ℕ)) (groups : Table) (keys : KeyTable)
    → Stands set workers limit past t → w ≤ workers → May (plan_of set) limit past w k → IsOfOne w x k → simple_births (plan_of set) past k ≡ [] → suc i ≡ x
    → slice_get t.rows i ≡ Some old
    → (KeepsRules (plan_of set) workers limit ((record { worker = w; kind = k }) ∷ past) → StandsApart set past (record { worker = w; kind = k }) x)
    → ((b : Birth) → slice_get (births (plan_of set) past) i ≡ Some b → RowStands set past b old → RowStands set ((record { worker = w; kind = k }) ∷ past) b new)
    → ready ≡ row_numbers row_ready 1 (put_at t.rows i new) → taken + bit (row_held old) ≡ t.taken + bit (row_held new) → live + bit (row_live old) ≡ t.live + bit (row_live new)
    → (KeepsRules (plan_of set) workers limit ((record { worker = w; kind = k }) ∷ past) → QueuesStand set ((record { worker = w; kind = k }) ∷ past) queues)
    → (KeepsRules (plan_of set) workers limit ((record { worker = w; kind = k }) ∷ past) → JoinsStand set ((record { worker = w; kind = k }) ∷ past) joins)
    → (KeepsRules (plan_of set) workers limit ((record { worker = w; kind = k }) ∷ past) → SleepersStand set ((record { worker = w; kind = k }) ∷ past) sleepers)
    → GroupsStand set ((record { worker = w; kind = k }) ∷ past) groups
    → KeysStand set ((record { worker = w; kind = k }) ∷ past) keys
    → Stands set workers limit ((record { worker = w; kind = k }) ∷ past)
    (record t { rows = put_at t.rows i new; ready = ready; turns = t.turns + turns_in k; notes = t.notes ++ notes_in (plan_of set) past w k; taken = taken; live = live; queues = queues; joins = joins; sleepers = sleepers; groups = groups; keys = keys })
stands-beside routes workers limit past t w x i k old new ready taken live queues joins sleepers groups keys st lw may of none x_is at apart here ready_is taken_is live_is queues_are joins_are sleepers_are groups_are keys_are =
    let e : Entry = record { worker = w; kind = k } in
    let s = plan_of routes in
    stands-own routes workers limit past t w x k (put_at t.rows i new) ready taken live queues joins sleepers groups keys st lw may of
    (λ legal. rw (births-same routes workers limit e past legal (st.simple, of.simple) none) (rows-one routes workers limit past t w x i k old new st legal of x_is at (apart legal) here))
    ready_is
    (let c = count-set row_held t.rows i old new at in omega (arith, c, taken_is, st.taken))
    (let c = count-set row_live t.rows i old new at in omega (arith, c, live_is, st.live))
    queues_are joins_are sleepers_are groups_are keys_are

-- and one by which no group grows or closes
pub stands-one : (set : RouteSet) (workers limit : ℕ) (past : Past) (t : Tables) (w x i : ℕ) (k : Kind) (old new : Row) (ready : List ℕ) (taken live : ℕ) (queues : List QueueView) (joins : List (ℕ × Open)) (sleepers : List (ℕ × ℕ)) (keys : KeyTable)
    → Stands set workers limit past t → w ≤ workers → May (plan_of set) limit past w k → IsOfOne w x k → simple_births (plan_of set) past k ≡ [] → suc i ≡ x
    → slice_get t.rows i ≡ Some old
    → (KeepsRules (plan_of set) workers limit ((record { worker = w; kind = k }) ∷ past) → StandsApart set past (record { worker = w; kind = k }) x)
    → ((b : Birth) → slice_get (births (plan_of set) past) i ≡ Some b → RowStands set past b old → RowStands set ((record { worker = w; kind = k }) ∷ past) b new)
    → ready ≡ row_numbers row_ready 1 (put_at t.rows i new) → taken + bit (row_held old) ≡ t.taken + bit (row_held new) → live + bit (row_live old) ≡ t.live + bit (row_live new)
    → (KeepsRules (plan_of set) workers limit ((record { worker = w; kind = k }) ∷ past) → QueuesStand set ((record { worker = w; kind = k }) ∷ past) queues)
    → (KeepsRules (plan_of set) workers limit ((record { worker = w; kind = k }) ∷ past) → JoinsStand set ((record { worker = w; kind = k }) ∷ past) joins)
    → (KeepsRules (plan_of set) workers limit ((record { worker = w; kind = k }) ∷ past) → SleepersStand set ((record { worker = w; kind = k }) ∷ past) sleepers)
    → moves_groups k ≡ false → KeysStand set ((record { worker = w; kind = k }) ∷ past) keys
    → Stands set workers limit ((record { worker = w; kind = k }) ∷ past)
    (record t { rows = put_at t.rows i new; ready = ready; turns = t.turns + turns_in k; notes = t.notes ++ notes_in (plan_of set) past w k; taken = taken; live = live; queues = queues; joins = joins; sleepers = sleepers; keys = keys })
stands-one routes workers limit past t w x i k old new ready taken live queues joins sleepers keys st lw may of none x_is at apart here ready_is taken_is live_is queues_are joins_are sleepers_are still keys_are =
    stands-beside routes workers limit past t w x i k old new ready taken live queues joins sleepers t.groups keys st lw may of none x_is at apart here ready_is taken_is live_is queues_are joins_are sleepers_are
    (groups-stay routes w k past t.groups still st.groups) keys_are

-- behind an entry of x the parent y, which has waited for parts, is ready again, and nobody else moves
pub record IsWoken (set : RouteSet) (past : Past) (e : Entry) (x y : ℕ) : Type 0 where
  pub other : y ≢ x
  pub birth : Birth
  pub at : numbered (births (plan_of set) past) y ≡ Some birth
  pub was : place_of (plan_of set) past birth ≡ place_is.Joining
  pub now : place_of (plan_of set) (e ∷ past) birth ≡ place_is.Ready
  pub apart : (b : Birth) → b.number ≢ x → b.number ≢ y → place_of (plan_of set) (e ∷ past) b ≡ place_of (plan_of set) past b

abbrev pub AlsoMoves : RouteSet → Past → Entry → ℕ → Option ℕ → Type 0
AlsoMoves set past e x None = StandsApart set past e x
AlsoMoves set past e x (Some y) = IsWoken set past e x y

-- a look at the exchange at i, which leaves its place: no entry comes
pub stands-look : (set : RouteSet) (workers limit : ℕ) (past : Past) (t : Tables) (i : ℕ) (old new : Row) → Stands set workers limit past t → slice_get t.rows i ≡ Some old
    → ((b : Birth) → slice_get (births (plan_of set) past) i ≡ Some b → RowStands set past b old → RowStands set past b new) → row_ready old ≡ row_ready new → row_held old ≡ row_held new → row_live old ≡ row_live new
    → Stands set workers limit past (record t { rows = put_at t.rows i new })
stands-look routes workers limit past t i old new st at here ready held live =
    let s = plan_of routes in
    record {
      legal = st.legal;
      simple = st.simple;
      rows = related-set (RowStands routes past) (RowStands routes past) 1 (births s past) t.rows i new (births-numbered s past) (λ b r ne h. h)
          (λ b b_at. here b b_at (related-at (RowStands routes past) (births s past) t.rows i b old st.rows b_at at)) st.rows;
      ready = st.ready ∙ sym (numbers-stay row_ready 1 t.rows i old new at ready);
      sources = st.sources;
      turns = st.turns;
      fault = st.fault;
      notes = st.notes;
      taken = let c = count-set row_held t.rows i old new at in let h = ap bit held in omega (arith, c, h, st.taken);
      pulled = st.pulled;
      live = let c = count-set row_live t.rows i old new at in let h = ap bit live in omega (arith, c, h, st.live);
      queues = st.queues;
      joins = st.joins;
      clock = st.clock;
      sleepers = st.sleepers;
      groups = st.groups;
      keys = st.keys;
    }
