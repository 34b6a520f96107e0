-- What the entries of a source make of the tables.
use Rattle.std.proofs.Common.{◌≡◌, ◌≢◌, ℕ, zero, suc, ◌+◌, ◌-◌, ◌<◌, ◌≤◌, true, false, ◌==◌, cond, List, [], ◌∷◌, ◌++◌, length, set as put_at, filter_map, Option, Some, None, refl, sym, ap, ◌∙◌, arith, eq-eqb, inl, inr}
use Rattle.std.specs.List.{slice_get}
use Rattle.std.proofs.Math.ListN.{length-set}
use Rattle.std.proofs.lemmas.List.{append-nil}
use Rattle.std.proofs.lemmas.List.Elements.{filter_map-append}
use Rattle.std.proofs.lemmas.Bool.{cases_Bool, eqb-true}
use Rattle.eip_exchange.specs.declared.birth.Birth.{Birth}
use Rattle.eip_exchange.specs.declared.message.Message.{Message}
use Rattle.eip_route.specs.declared.route.RouteSet.{RouteSet}
use Rattle.eip_ledger.specs.declared.entry.Entry.{Entry}
use Rattle.eip_ledger.specs.declared.entry.Kind.{Kind}
use Rattle.eip_ledger.specs.declared.entry.Kind.TheVariants.{Pull, Accept, Refuse, SourceEnd, SourceFault}
use Rattle.eip_ledger.specs.declared.entry.Refused.{Refused}
use Rattle.eip_history.specs.Plan.{Plan}
use Rattle.eip_history.specs.Own.{Past, concerns, answer_in, is_starve, ticked, source_state, moved, is_out, turns_in, SourceState, Idle, Out}
use Rattle.eip_history.specs.Births.{births, item_birth}
use Rattle.eip_history.specs.Place.{pulls_out}
use Rattle.eip_history.specs.Rules.{KeepsRules, May, Served, served, served_in}
use Rattle.eip_history.specs.Stop.{first_fault, fault_in, or_else}
use Rattle.eip_history.specs.Tables.{Related, bit}
use Rattle.eip_history.specs.TableWords.{moves_waiting, moves_busy, moves_joins, moves_sleepers, moves_groups}
use Rattle.eip_history.specs.Texts.{notes, note_for}
use Rattle.eip_history.proofs.Lists.{related-all, related-push, related-length}
use Rattle.eip_history.proofs.Limit.{source-after, pulls-change, turns-more, not-same}
use Rattle.eip_history.proofs.Main.{legal-add}
use Rattle.eip_history.proofs.Unborn.{legal-tail, newborn-own}
use Rattle.eip_history.proofs.Places.{clock-same, place-other}
use Rattle.eip_history.proofs.Moves.{ends-nobody}
use Rattle.eip_plan.specs.Plan.{plan_of}
use Rattle.eip_plan.specs.Simple.{IsSimpleEntry, AnswersSimply}
use Rattle.eip_plan.proofs.Items.{simple_births, births-simply}
use Rattle.eip_tables.specs.Row.{Row}
use Rattle.eip_tables.specs.Moves.{new_row}
use Rattle.eip_tables.specs.declared.row.SourceState.{SourceState as Kept}
use Rattle.eip_tables.specs.declared.row.SourceState.TheVariants as kept
use Rattle.eip_tables.specs.Numbers.{row_numbers}
use Rattle.eip_tables.specs.Rows.{RowStands, SourcesStand, source_row, kept_state, row_ready, row_held, row_live}
use Rattle.eip_tables.specs.Stands.{Tables, Stands}
use Rattle.eip_table_laws.proofs.RowNumbers.{numbers-push, count-push}
use Rattle.eip_table_laws.proofs.QueueCalls.{queues-stay}
use Rattle.eip_table_laws.proofs.JoinsKept.{joins-stay}
use Rattle.eip_table_laws.proofs.SleepersKept.{sleepers-stay}
use Rattle.eip_table_laws.proofs.GroupsKept.{groups-stay}
use Rattle.eip_table_laws.proofs.KeysKept.{keys-stay}
use Rattle.eip_history.specs.Kept.{moves_keys}
use Rattle.eip_table_laws.proofs.RowPlaces.{row-other, entry-new}

pub get-set-same : {A : Type 0} (xs : List A) (i : ℕ) (x : A) → i < length xs → slice_get (put_at xs i x) i ≡ Some x
get-set-same [] i x l = absurd (omega arith)
get-set-same (y ∷ xs) zero x l = refl
get-set-same (y ∷ xs) (suc i) x l = get-set-same xs i x (omega arith)

pub get-set-other : {A : Type 0} (xs : List A) (i j : ℕ) (x : A) → j ≢ i → slice_get (put_at xs i x) j ≡ slice_get xs j
get-set-other [] i j x ne = refl
get-set-other (y ∷ xs) zero zero x ne = absurd (ne refl)
get-set-other (y ∷ xs) zero (suc j) x ne = refl
get-set-other (y ∷ xs) (suc i) zero x ne = refl
get-set-other (y ∷ xs) (suc i) (suc j) x ne = get-set-other xs i j x (λ e. ne (ap suc e))

row-same : (s : Plan) (e : Entry) (past : Past) (u : ℕ) → source_state u (e ∷ past) ≡ source_state u past → source_row s (e ∷ past) u ≡ source_row s past u
row-same s e past u h = ap (λ st. cond (s.is_source u) (kept_state st) kept.Unused) h

-- one source moves
pub sources-set : (s : Plan) (e : Entry) (past : Past) (rows : List Kept) (t : ℕ) (new : Kept) → t < s.routes → ((u : ℕ) → u ≢ t → source_state u (e ∷ past) ≡ source_state u past)
    → new ≡ source_row s (e ∷ past) t → SourcesStand s past rows → SourcesStand s (e ∷ past) (put_at rows t new)
sources-set s e past rows t new within others here st = record {
  many = length-set rows t new ∙ st.many;
  each = λ r l. elim (cases_Bool (r == t)) [
    | inl y ↦ (let same : r ≡ t = eqb-true r t y in rw (same, here) (get-set-same rows t (source_row s (e ∷ past) t) (omega (arith, st.many, within))))
    | inr f ↦ (let ne : r ≢ t = λ g. let k = eq-eqb r t g in cc in get-set-other rows t r new ne ∙ (st.each r l ∙ ap Some (sym (row-same s e past r (others r ne)))))
  ];
}

-- none moves
pub sources-same : (s : Plan) (e : Entry) (past : Past) (rows : List Kept) → ((u : ℕ) → source_state u (e ∷ past) ≡ source_state u past) → SourcesStand s past rows → SourcesStand s (e ∷ past) rows
sources-same s e past rows others st = record { many = st.many; each = λ r l. st.each r l ∙ ap Some (sym (row-same s e past r (others r))) }

-- the lines of the log behind an entry
pub notes-more : (s : Plan) (e : Entry) (past : Past) → notes s (e ∷ past) ≡ notes s past ++ filter_map (λ (v : Served). note_for v.asked.birth.number v.asked.request v.answer) (served_in s past e.worker e.kind)
unfolding served
notes-more s e past = filter_map-append (λ (v : Served). note_for v.asked.birth.number v.asked.request v.answer) (served s past) (served_in s past e.worker e.kind)

pub notes-none : (s : Plan) (e : Entry) (past : Past) → served_in s past e.worker e.kind ≡ [] → notes s (e ∷ past) ≡ notes s past
notes-none s e past h = notes-more s e past ∙ (ap (λ vs. notes s past ++ filter_map (λ (v : Served). note_for v.asked.birth.number v.asked.request v.answer) vs) h ∙ append-nil (notes s past))

pub or_else-none : (o : Option ℕ) → or_else o None ≡ o
or_else-none None = refl
or_else-none (Some x) = refl

pub fault-more : (e : Entry) (past : Past) → first_fault (e ∷ past) ≡ or_else (first_fault past) (fault_in e.kind)
unfolding first_fault
fault-more e past = refl

pub fault-none : (e : Entry) (past : Past) → fault_in e.kind ≡ None → first_fault (e ∷ past) ≡ first_fault past
fault-none e past h = fault-more e past ∙ (ap (or_else (first_fault past)) h ∙ or_else-none (first_fault past))

pub births-same : (set : RouteSet) (w limit : ℕ) (e : Entry) (past : Past) → KeepsRules (plan_of set) w limit (e ∷ past) → AnswersSimply (e ∷ past) → simple_births (plan_of set) past e.kind ≡ [] → births (plan_of set) (e ∷ past) ≡ births (plan_of set) past
births-same set w limit e past legal simple none =
    births-simply (plan_of set) w limit e past legal simple ∙ (ap (λ bs. births (plan_of set) past ++ bs) none ∙ append-nil (births (plan_of set) past))

-- an entry of a source: it concerns no exchange, and no other source, and answers no request
pub record IsOfSource (w t : ℕ) (k : Kind) : Type 0 where
  pub nobody : (x : ℕ) → concerns x k ≡ false
  pub others : (u : ℕ) (was : SourceState) → u ≢ t → moved w u k was ≡ was
  pub simple : IsSimpleEntry k
  pub waits : moves_waiting k ≡ false
  pub works : moves_busy k ≡ false
  pub joins : moves_joins k ≡ false
  pub wakeful : moves_sleepers k ≡ false
  pub still : moves_groups k ≡ false
  pub keyless : moves_keys k ≡ false
  pub silent : answer_in k ≡ []
  pub fed : is_starve k ≡ false
  pub no_tick : (n : ℕ) → ticked k n ≡ n

pub rows-quiet : (set : RouteSet) (workers limit : ℕ) (e : Entry) (past : Past) (bs : List Birth) (rows : List Row) → KeepsRules (plan_of set) workers limit (e ∷ past) → ((x : ℕ) → concerns x e.kind ≡ false) → answer_in e.kind ≡ [] → is_starve e.kind ≡ false
    → ((n : ℕ) → ticked e.kind n ≡ n) → Related (RowStands set past) bs rows → Related (RowStands set (e ∷ past)) bs rows
rows-quiet set workers limit e past bs rows legal nobody a v t rel =
    related-all (RowStands set past) (RowStands set (e ∷ past)) bs rows
    (λ b r. row-other set workers limit e past b r legal (nobody b.number)
    (place-other (plan_of set) workers limit e past b (legal-tail (plan_of set) workers limit e past legal) (ends-nobody (plan_of set) e past a v) (nobody b.number) t)) rel

state-others : (w t : ℕ) (k : Kind) (past : Past) → IsOfSource w t k → (u : ℕ) → u ≢ t → source_state u ((record { worker = w; kind = k }) ∷ past) ≡ source_state u past
state-others w t k past of u ne = source-after w u k past ∙ of.others u (source_state u past) ne

-- where the source stands now, as the books keep it
kept-here : (s : Plan) (w t : ℕ) (k : Kind) (past : Past) (after : SourceState) → s.is_source t ≡ true → moved w t k (source_state t past) ≡ after → kept_state after ≡ source_row s ((record { worker = w; kind = k }) ∷ past) t
kept-here s w t k past after is now = rw (is, source-after w t k past, now) refl

pub pulled-here : (s : Plan) (w t : ℕ) (k : Kind) (past : Past) (was after : SourceState) → t < s.routes → IsOfSource w t k → source_state t past ≡ was → moved w t k (source_state t past) ≡ after
    → pulls_out s ((record { worker = w; kind = k }) ∷ past) + bit (is_out was) ≡ pulls_out s past + bit (is_out after)
pulled-here s w t k past was after l of before now =
    let e : Entry = record { worker = w; kind = k } in
    let c = pulls-change s e past t l (λ u st ne. of.others u st ne) in
    let a = ap (λ st. bit (is_out st)) before in
    let b = ap (λ st. bit (is_out st)) (source-after w t k past ∙ now) in
    omega (arith, c, a, b)

-- the tables behind an entry of a source that makes no exchange
pub stands-source : (set : RouteSet) (workers limit : ℕ) (past : Past) (t : Tables) (w r : ℕ) (k : Kind) (was after : SourceState) (pulled : ℕ)
    → Stands set workers limit past t → w ≤ workers → May (plan_of set) limit past w k → r < (plan_of set).routes → (plan_of set).is_source r ≡ true → IsOfSource w r k
    → simple_births (plan_of set) past k ≡ [] → served_in (plan_of set) past w k ≡ []
    → source_state r past ≡ was → moved w r k (source_state r past) ≡ after → pulled + bit (is_out was) ≡ t.pulled + bit (is_out after)
    → Stands set workers limit ((record { worker = w; kind = k }) ∷ past) (record t { sources = put_at t.sources r (kept_state after); turns = t.turns + turns_in k; fault = or_else t.fault (fault_in k); pulled = pulled })
stands-source routes workers limit past t w r k was after pulled st lw may within is of none unserved before now count =
    let e : Entry = record { worker = w; kind = k } in
    let s = plan_of routes in
    let legal = legal-add s workers limit e past st.legal lw may in
    let simple : AnswersSimply (e ∷ past) = (st.simple, of.simple) in
    let same = births-same routes workers limit e past legal.entries simple none in
    record {
      legal = legal;
      simple = simple;
      rows = rw same (rows-quiet routes workers limit e past (births s past) t.rows legal.entries of.nobody of.silent of.fed of.no_tick st.rows);
      ready = st.ready;
      sources = sources-set s e past t.sources r (kept_state after) within (state-others w r k past of) (kept-here s w r k past after is now) st.sources;
      turns = ap (λ n. n + turns_in k) st.turns ∙ sym (turns-more e past);
      fault = ap (λ o. or_else o (fault_in k)) st.fault ∙ sym (fault-more e past);
      notes = st.notes ∙ sym (notes-none s e past unserved);
      taken = st.taken;
      pulled = let c = pulled-here s w r k past was after within of before now in omega (arith, c, count, st.pulled);
      live = st.live;
      queues = queues-stay routes workers limit w k past t.queues legal.entries of.waits of.works st.queues;
      joins = joins-stay routes workers limit w k past t.joins legal.entries of.joins st.joins;
      clock = st.clock ∙ sym (clock-same e past of.no_tick);
      sleepers = sleepers-stay routes workers limit w k past t.sleepers legal.entries of.wakeful st.sleepers;
      groups = groups-stay routes w k past t.groups of.still st.groups;
      keys = keys-stay routes w k past t.keys of.keyless st.keys;
    }

pub of-pull : (w t : ℕ) → IsOfSource w t (Pull t)
of-pull w t = record { nobody = λ x. refl; others = λ u was ne. rw (not-same u t ne) refl; simple = tt; waits = refl; works = refl; joins = refl; wakeful = refl; still = refl; keyless = refl; silent = refl; fed = refl; no_tick = λ n. refl }

pub of-accept : (w t : ℕ) (item : List ℕ) (m : Message) → IsOfSource w t (Accept t item m)
of-accept w t item m = record { nobody = λ x. refl; others = λ u was ne. rw (not-same u t ne) refl; simple = tt; waits = refl; works = refl; joins = refl; wakeful = refl; still = refl; keyless = refl; silent = refl; fed = refl; no_tick = λ n. refl }

pub of-refuse : (w t : ℕ) (item : List ℕ) (c : Refused) → IsOfSource w t (Refuse t item c)
of-refuse w t item c = record { nobody = λ x. refl; others = λ u was ne. rw (not-same u t ne) refl; simple = tt; waits = refl; works = refl; joins = refl; wakeful = refl; still = refl; keyless = refl; silent = refl; fed = refl; no_tick = λ n. refl }

pub of-end : (w t : ℕ) → IsOfSource w t (SourceEnd t)
of-end w t = record { nobody = λ x. refl; others = λ u was ne. rw (not-same u t ne) refl; simple = tt; waits = refl; works = refl; joins = refl; wakeful = refl; still = refl; keyless = refl; silent = refl; fed = refl; no_tick = λ n. refl }

pub of-fault : (w t : ℕ) → IsOfSource w t (SourceFault t)
of-fault w t = record { nobody = λ x. refl; others = λ u was ne. rw (not-same u t ne) refl; simple = tt; waits = refl; works = refl; joins = refl; wakeful = refl; still = refl; keyless = refl; silent = refl; fed = refl; no_tick = λ n. refl }

-- the row of a newborn stands for it
newborn-row : (set : RouteSet) (workers limit : ℕ) (past : Past) (w r : ℕ) (item : List ℕ) (m : Message) → KeepsRules (plan_of set) workers limit ((record { worker = w; kind = Accept r item m }) ∷ past)
    → RowStands set ((record { worker = w; kind = Accept r item m }) ∷ past) (item_birth (plan_of set) (length (births (plan_of set) past) + 1) r item m) (new_row (length past))
newborn-row set workers limit past w r item m legal =
    let e : Entry = record { worker = w; kind = Accept r item m } in
    record {
      born = record { worker = w; source = r; item = item; message = m; entry = entry-new e past; birth = refl };
      kept = tt;
      hops = omega arith;
      stands =
          let o = newborn-own (plan_of set) workers limit e past (length (births (plan_of set) past) + 1) legal (omega arith) in
          record { fed = rw o refl; taken = rw o refl; silent = rw o refl; runs = rw o refl; left = refl };
    }

-- the tables behind an accepted item
pub stands-accept : (set : RouteSet) (workers limit : ℕ) (past : Past) (t : Tables) (w r : ℕ) (item : List ℕ) (m : Message)
    → Stands set workers limit past t → w ≤ workers → May (plan_of set) limit past w (Accept r item m)
    → Stands set workers limit ((record { worker = w; kind = Accept r item m }) ∷ past)
    (record t { rows = t.rows ++ (new_row (length past)) ∷ []; ready = t.ready ++ (length t.rows + 1) ∷ []; sources = put_at t.sources r kept.Idle; turns = t.turns + 1; pulled = t.pulled - 1; live = t.live + 1 })
stands-accept routes workers limit past t w r item m st lw may =
    let k : Kind = Accept r item m in
    let e : Entry = record { worker = w; kind = k } in
    let s = plan_of routes in
    let row : Row = new_row (length past) in
    let legal = legal-add s workers limit e past st.legal lw may in
    let within = may.0.0 in
    let of = of-accept w r item m in
    let idle : moved w r k (source_state r past) ≡ Idle = rw (eq-eqb r r refl) refl in
    let old = rows-quiet routes workers limit e past (births s past) t.rows legal.entries of.nobody of.silent of.fed of.no_tick st.rows in
    let many : length (births s past) ≡ length t.rows = related-length (RowStands routes past) (births s past) t.rows st.rows in
    let number : 1 + length t.rows ≡ length t.rows + 1 = omega arith in
    let simple : AnswersSimply (e ∷ past) = (st.simple, tt) in
    record {
      legal = legal;
      simple = simple;
      rows = rw (births-simply s workers limit e past legal.entries simple) (related-push (RowStands routes (e ∷ past)) (births s past) t.rows _ row old (newborn-row routes workers limit past w r item m legal.entries));
      ready = ap (λ xs. xs ++ (length t.rows + 1) ∷ []) st.ready ∙ sym (numbers-push row_ready 1 t.rows row ∙ ap (λ n. row_numbers row_ready 1 t.rows ++ n ∷ []) number);
      sources = sources-set s e past t.sources r kept.Idle within (state-others w r k past of) (kept-here s w r k past Idle may.0.1 idle) st.sources;
      turns = ap (λ n. n + 1) st.turns ∙ sym (turns-more e past);
      fault = st.fault ∙ sym (fault-none e past refl);
      notes = st.notes ∙ sym (notes-none s e past refl);
      taken = let c = count-push row_held t.rows row in omega (arith, c, st.taken);
      pulled = let c = pulled-here s w r k past (Out w) Idle within of may.1 idle in omega (arith, c, st.pulled);
      live = let c = count-push row_live t.rows row in omega (arith, c, st.live);
      queues = queues-stay routes workers limit w k past t.queues legal.entries refl refl st.queues;
      joins = joins-stay routes workers limit w k past t.joins legal.entries refl st.joins;
      clock = st.clock ∙ sym (clock-same e past of.no_tick);
      sleepers = sleepers-stay routes workers limit w k past t.sleepers legal.entries refl st.sleepers;
      groups = groups-stay routes w k past t.groups refl st.groups;
      keys = keys-stay routes w k past t.keys refl st.keys;
    }
