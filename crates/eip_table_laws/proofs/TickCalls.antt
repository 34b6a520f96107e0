-- The tables behind a tick, and behind a force.
use Rattle.std.proofs.Common.{◌≡◌, ℕ, ◌+◌, ◌≤◌, Bool, true, ◌&&◌, List, ◌∷◌, ◌++◌, length, map, filter, Option, Some, None, refl, sym, ap, ◌∙◌, arith, add-zero}
use Rattle.std.proofs.lemmas.Bool.{and_parts}
use Rattle.std.proofs.lemmas.List.{length-map}
use Rattle.eip_frames.specs.declared.answer.Completion.TheVariants as by
use Rattle.eip_route.specs.declared.route.RouteSet.{RouteSet}
use Rattle.eip_ledger.specs.declared.entry.Entry.{Entry}
use Rattle.eip_ledger.specs.declared.entry.Kind.TheVariants.{Tick, Force}
use Rattle.eip_aggregator.specs.Arrivals as table
use Rattle.eip_aggregator.specs.Arrivals.{Ticked, Forced}
use Rattle.eip_aggregator.specs.Tables as tables
use Rattle.eip_aggregator.specs.Tables.{Table, AreClosed}
use Rattle.eip_aggregator.specs.declared.closed.Closed.{Closed}
use Rattle.eip_history.specs.Plan.{Plan}
use Rattle.eip_history.specs.Own.{Past, clock}
use Rattle.eip_history.specs.Groups.{Group, is_open, is_due, is_forced, due_of, is_at_most}
use Rattle.eip_history.specs.Births.{births, groups, group_births}
use Rattle.eip_history.specs.Rules.{KeepsRules, May}
use Rattle.eip_history.specs.Tables.{Related}
use Rattle.eip_history.specs.Stop.{open_groups}
use Rattle.eip_history.proofs.Falls.{open-due, closed-count}
use Rattle.eip_history.proofs.GroupNumbers.{groups-numbered}
use Rattle.eip_history.proofs.Limit.{source-after, pulls-same, turns-more}
use Rattle.eip_history.proofs.Main.{legal-add}
use Rattle.eip_history.proofs.Places.{clock-same}
use Rattle.eip_history.proofs.Unborn.{newborn-own}
use Rattle.eip_plan.specs.Plan.{plan_of}
use Rattle.eip_plan.proofs.Items.{births-simply}
use Rattle.eip_tables.specs.Row.{Row}
use Rattle.eip_tables.specs.Numbers.{row_numbers, row_count, numbers_from}
use Rattle.eip_tables.specs.Groups.{settings, group_calls, group_rows}
use Rattle.eip_tables.specs.Rows.{RowStands, row_ready, row_held, row_live}
use Rattle.eip_tables.specs.Sleepers.{SleepersTold, roused_rows}
use Rattle.eip_tables.specs.Stands.{Tables, Stands}
use Rattle.eip_table_laws.proofs.SourceEvents.{rows-quiet, sources-same, notes-none, fault-none}
use Rattle.eip_table_laws.proofs.QueueCalls.{queues-stay}
use Rattle.eip_table_laws.proofs.JoinsKept.{joins-stay}
use Rattle.eip_table_laws.proofs.SleepersKept.{sleepers-stay}
use Rattle.eip_table_laws.proofs.OwnCalls.{rows-many}
use Rattle.eip_table_laws.proofs.PartCalls.{numbers-behind, count-behind, related-behind}
use Rattle.eip_table_laws.proofs.RowTicks.{rows-ticked, count-roused, roused-held, roused-live, told-stand}
use Rattle.eip_table_laws.proofs.GroupLists.{only-one}
use Rattle.eip_table_laws.proofs.GroupLaws.{gathers}
use Rattle.eip_table_laws.proofs.GroupsKept.{later, groups-ticked, groups-forced}
use Rattle.eip_table_laws.proofs.KeysKept.{keys-stay}
use Rattle.eip_table_laws.proofs.GroupShut.{shut_group, are-shut, groups-stand}
use Rattle.eip_table_laws.proofs.GroupRows.{groups-ready, groups-live, groups-free, told-more}

clock-ticked : (w now : ℕ) (past : Past) → clock ((record { worker = w; kind = Tick now }) ∷ past) ≡ now
unfolding clock
clock-ticked w now past = refl

same-most : (o : Option ℕ) (t : ℕ) → table.is_at_most o t ≡ is_at_most o t
same-most None t = refl
same-most (Some d) t = refl

due-mine : (set : RouteSet) (now : ℕ) (g : Group) → is_open g ≡ true → table.is_at_most (due_of (plan_of set) g) now ≡ is_due (plan_of set) now g
due-mine set now g o = same-most (due_of (plan_of set) g) now

forced-mine : (set : RouteSet) (g : Group) → is_open g ≡ true → ((plan_of set).group g.aggregator).force ≡ is_forced (plan_of set) g
forced-mine set g o = ap (λ (v : Bool). v && ((plan_of set).group g.aggregator).force) (sym o)

forced-open : (s : Plan) (g : Group) → is_forced s g ≡ true → is_open g ≡ true
forced-open s g h = (and_parts (is_open g) (s.group g.aggregator).force h).0

module _ {set : RouteSet} {workers limit : ℕ} {past : Past} (t : Tables) (w : ℕ) (st : Stands set workers limit past t) (lw : w ≤ workers) where
  -- the groups that are due, as the table closes them
  pub due-shut : (now : ℕ) (closed : List Closed) → AreClosed (settings set) (group_calls set past) (λ (g : table.Group). table.is_at_most g.due now) by.Timeout closed
      → closed ≡ map (shut_group set by.Timeout) (filter (is_due (plan_of set) now) (groups (plan_of set) past))
  due-shut now closed are =
      are-shut set (groups (plan_of set) past) (group_calls set past) (groups-numbered (plan_of set) past) (λ a key. only-one (plan_of set) past a key) (gathers set workers limit past st.legal.entries)
      (λ (g : table.Group). table.is_at_most g.due now) (is_due (plan_of set) now) by.Timeout closed (λ g h. open-due (plan_of set) now g h) (λ g o. due-mine set now g o) are

  -- and those that may be forced
  pub forced-shut : (closed : List Closed) → AreClosed (settings set) (group_calls set past) (λ (g : table.Group). g.force) by.Force closed
      → closed ≡ map (shut_group set by.Force) (filter (is_forced (plan_of set)) (groups (plan_of set) past))
  forced-shut closed are =
      are-shut set (groups (plan_of set) past) (group_calls set past) (groups-numbered (plan_of set) past) (λ a key. only-one (plan_of set) past a key) (gathers set workers limit past st.legal.entries)
      (λ (g : table.Group). g.force) (is_forced (plan_of set)) by.Force closed (λ g h. forced-open (plan_of set) g h) (λ g o. forced-mine set g o) are

  -- no more than are open
  pub due-few : (now : ℕ) (closed : List Closed) → AreClosed (settings set) (group_calls set past) (λ (g : table.Group). table.is_at_most g.due now) by.Timeout closed → length closed ≤ length (open_groups (plan_of set) past)
  due-few now closed are =
      let n = ap (λ (xs : List Closed). length xs) (due-shut now closed are) in
      let m = length-map (filter (is_due (plan_of set) now) (groups (plan_of set) past)) (shut_group set by.Timeout) in
      let k = closed-count by.Timeout (is_due (plan_of set) now) (groups (plan_of set) past) (λ g h. open-due (plan_of set) now g h) in
      omega (arith, n, m, k)

  pub forced-few : (closed : List Closed) → AreClosed (settings set) (group_calls set past) (λ (g : table.Group). g.force) by.Force closed → length closed ≤ length (open_groups (plan_of set) past)
  forced-few closed are =
      let n = ap (λ (xs : List Closed). length xs) (forced-shut closed are) in
      let m = length-map (filter (is_forced (plan_of set)) (groups (plan_of set) past)) (shut_group set by.Force) in
      let k = closed-count by.Force (is_forced (plan_of set)) (groups (plan_of set) past) (λ g h. forced-open (plan_of set) g h) in
      omega (arith, n, m, k)

  numbers-more : (rows : List Row) (closed : List Closed) → length rows ≡ length t.rows
      → row_numbers row_ready 1 rows ++ numbers_from (length t.rows + 1) (length closed) ≡ row_numbers row_ready 1 (rows ++ group_rows set (length t.rows + 1) closed)
  numbers-more rows closed many =
      let first : 1 + length rows ≡ length t.rows + 1 = omega (arith, many) in
      sym (numbers-behind row_ready 1 rows (group_rows set (length t.rows + 1) closed)
      ∙ ap (λ (ns : List ℕ). row_numbers row_ready 1 rows ++ ns) (groups-ready set (1 + length rows) (length t.rows + 1) closed ∙ ap (λ (n : ℕ). numbers_from n (length closed)) first))

  held-more : (rows : List Row) (closed : List Closed) → row_count row_held rows ≡ t.taken → t.taken ≡ row_count row_held (rows ++ group_rows set (length t.rows + 1) closed)
  held-more rows closed h = let b = count-behind row_held rows (group_rows set (length t.rows + 1) closed) in let z = groups-free set (length t.rows + 1) closed in omega (arith, b, z, h)

  live-more : (rows : List Row) (closed : List Closed) → row_count row_live rows ≡ t.live → t.live + length closed ≡ row_count row_live (rows ++ group_rows set (length t.rows + 1) closed)
  live-more rows closed h = let b = count-behind row_live rows (group_rows set (length t.rows + 1) closed) in let z = groups-live set (length t.rows + 1) closed in omega (arith, b, z, h)

  module _ (now : ℕ) (sleepers : List (ℕ × ℕ)) (closed : List Closed) (kept : Table) (may : May (plan_of set) limit past w (Tick now)) (told : SleepersTold (roused_rows now t.rows) sleepers)
      (are : AreClosed (settings set) (group_calls set past) (λ (g : table.Group). table.is_at_most g.due now) by.Timeout closed)
      (ticked : tables.Stands (settings set) (Ticked now ∷ group_calls set past) kept) where
    abbrev ticks : Entry
    ticks = record { worker = w; kind = Tick now }

    tick-legal : KeepsRules (plan_of set) workers limit ((record { worker = w; kind = Tick now }) ∷ past)
    tick-legal = (legal-add (plan_of set) workers limit ticks past st.legal lw may).entries

    same-length : length (roused_rows now t.rows) ≡ length t.rows
    same-length = length-map t.rows _

    tick-rows : Related (RowStands set ((record { worker = w; kind = Tick now }) ∷ past)) (births (plan_of set) ((record { worker = w; kind = Tick now }) ∷ past)) (roused_rows now t.rows ++ group_rows set (length t.rows + 1) closed)
    tick-rows =
        let s = plan_of set in
        let many = rows-many t st in
        let first : length (births s past) + 1 ≡ length t.rows + 1 = omega (arith, many) in
        rw (births-simply s workers limit ticks past tick-legal (st.simple, tt), first, due-shut now closed are)
        (related-behind (RowStands set (ticks ∷ past)) (births s past) (group_births s (length t.rows + 1) by.Timeout (filter (is_due s now) (groups s past))) (roused_rows now t.rows) _
        (rows-ticked set workers limit w now past tick-legal (births s past) t.rows st.rows)
        (groups-stand set (ticks ∷ past) (length t.rows + 1) by.Timeout (is_due s now) (groups s past) (λ m l. newborn-own s workers limit ticks past m tick-legal (omega (arith, many, l))) (later set ticks past t.groups st.groups)))

    pub stands-tick : Stands set workers limit ((record { worker = w; kind = Tick now }) ∷ past) (record t {
      rows = roused_rows now t.rows ++ group_rows set (length t.rows + 1) closed;
      ready = row_numbers row_ready 1 (roused_rows now t.rows) ++ numbers_from (length t.rows + 1) (length closed);
      live = t.live + length closed;
      clock = now;
      sleepers = sleepers;
      groups = kept;
    })
    stands-tick =
        let s = plan_of set in
        record {
          legal = legal-add s workers limit ticks past st.legal lw may;
          simple = (st.simple, tt);
          rows = tick-rows;
          ready = numbers-more (roused_rows now t.rows) closed same-length;
          sources = sources-same s ticks past t.sources (λ u. source-after w u (Tick now) past) st.sources;
          turns = st.turns ∙ sym (turns-more ticks past ∙ add-zero _);
          fault = st.fault ∙ sym (fault-none ticks past refl);
          notes = st.notes ∙ sym (notes-none s ticks past refl);
          taken = held-more (roused_rows now t.rows) closed (count-roused row_held now t.rows (λ r. roused-held now r) ∙ sym st.taken);
          pulled = st.pulled ∙ sym (pulls-same s ticks past (λ u was. refl));
          live = live-more (roused_rows now t.rows) closed (count-roused row_live now t.rows (λ r. roused-live now r) ∙ sym st.live);
          queues = queues-stay set workers limit w (Tick now) past t.queues tick-legal refl refl st.queues;
          joins = joins-stay set workers limit w (Tick now) past t.joins tick-legal refl st.joins;
          clock = sym (clock-ticked w now past);
          sleepers = told-stand set (ticks ∷ past) (roused_rows now t.rows ++ group_rows set (length t.rows + 1) closed) sleepers tick-rows (told-more set (length t.rows + 1) closed (roused_rows now t.rows) sleepers told);
          groups = groups-ticked set w now past t.groups kept ticked st.groups;
          keys = keys-stay set w (Tick now) past t.keys refl st.keys;
        }

  module _ (closed : List Closed) (kept : Table) (may : May (plan_of set) limit past w Force)
      (are : AreClosed (settings set) (group_calls set past) (λ (g : table.Group). g.force) by.Force closed)
      (forced : tables.Stands (settings set) (Forced ∷ group_calls set past) kept) where
    abbrev forces : Entry
    forces = record { worker = w; kind = Force }

    force-legal : KeepsRules (plan_of set) workers limit ((record { worker = w; kind = Force }) ∷ past)
    force-legal = (legal-add (plan_of set) workers limit forces past st.legal lw may).entries

    force-rows : Related (RowStands set ((record { worker = w; kind = Force }) ∷ past)) (births (plan_of set) ((record { worker = w; kind = Force }) ∷ past)) (t.rows ++ group_rows set (length t.rows + 1) closed)
    force-rows =
        let s = plan_of set in
        let many = rows-many t st in
        let first : length (births s past) + 1 ≡ length t.rows + 1 = omega (arith, many) in
        rw (births-simply s workers limit forces past force-legal (st.simple, tt), first, forced-shut closed are)
        (related-behind (RowStands set (forces ∷ past)) (births s past) (group_births s (length t.rows + 1) by.Force (filter (is_forced s) (groups s past))) t.rows _
        (rows-quiet set workers limit forces past (births s past) t.rows force-legal (λ x. refl) refl refl (λ n. refl) st.rows)
        (groups-stand set (forces ∷ past) (length t.rows + 1) by.Force (is_forced s) (groups s past) (λ m l. newborn-own s workers limit forces past m force-legal (omega (arith, many, l))) (later set forces past t.groups st.groups)))

    pub stands-force : Stands set workers limit ((record { worker = w; kind = Force }) ∷ past) (record t {
      rows = t.rows ++ group_rows set (length t.rows + 1) closed;
      ready = t.ready ++ numbers_from (length t.rows + 1) (length closed);
      live = t.live + length closed;
      groups = kept;
    })
    stands-force =
        let s = plan_of set in
        record {
          legal = legal-add s workers limit forces past st.legal lw may;
          simple = (st.simple, tt);
          rows = force-rows;
          ready = ap (λ (ns : List ℕ). ns ++ numbers_from (length t.rows + 1) (length closed)) st.ready ∙ numbers-more t.rows closed refl;
          sources = sources-same s forces past t.sources (λ u. source-after w u Force past) st.sources;
          turns = st.turns ∙ sym (turns-more forces past ∙ add-zero _);
          fault = st.fault ∙ sym (fault-none forces past refl);
          notes = st.notes ∙ sym (notes-none s forces past refl);
          taken = held-more t.rows closed (sym st.taken);
          pulled = st.pulled ∙ sym (pulls-same s forces past (λ u was. refl));
          live = live-more t.rows closed (sym st.live);
          queues = queues-stay set workers limit w Force past t.queues force-legal refl refl st.queues;
          joins = joins-stay set workers limit w Force past t.joins force-legal refl st.joins;
          clock = st.clock ∙ sym (clock-same forces past (λ n. refl));
          sleepers = sleepers-stay set workers limit w Force past t.sleepers force-legal refl st.sleepers;
          groups = groups-forced set w past t.groups kept forced st.groups;
          keys = keys-stay set w Force past t.keys refl st.keys;
        }
