-- The tables behind the answer to an exchange that asks to join a group.
use Rattle.std.proofs.Common.{suc, ◌≡◌, ℕ, ◌+◌, ◌-◌, ◌≤◌, true, false, List, [], ◌∷◌, ◌++◌, length, set as put_at, Option, Some, None, Result, Ok, Err, refl, sym, ap, subst, ◌∙◌, arith}
use Rattle.std.specs.List.{slice_get, find}
use Rattle.std.proofs.lemmas.List.{append-nil, length-set}
use Rattle.eip_exchange.specs.declared.message.Message.{Message}
use Rattle.eip_route.specs.declared.route.RouteSet.{RouteSet}
use Rattle.eip_frames.specs.declared.request.At.{At}
use Rattle.eip_frames.specs.declared.request.Request.{Request}
use Rattle.eip_frames.specs.declared.request.Request.TheVariants as request
use Rattle.eip_frames.specs.declared.answer.Answer.{Answer as Reply}
use Rattle.eip_frames.specs.declared.answer.Answer.TheVariants as reply
use Rattle.eip_frames.specs.declared.answer.Completion.{Completion}
use Rattle.eip_ledger.specs.declared.entry.Entry.{Entry}
use Rattle.eip_ledger.specs.declared.entry.Kind.TheVariants.{Answer}
use Rattle.eip_ledger.specs.declared.place.Place.TheVariants as place_is
use Rattle.eip_strategy.specs.Adding.{added}
use Rattle.eip_strategy.specs.declared.fault.StrategyFault.{StrategyFault}
use Rattle.eip_aggregator.specs.Arrivals as table
use Rattle.eip_aggregator.specs.Arrivals.{Came, parts_of, number_of, begun, next_number, cause_of, group_of}
use Rattle.eip_aggregator.specs.Tables as tables
use Rattle.eip_aggregator.specs.Tables.{Table, added_at as added_by, answer_at, closed_by, closed_as}
use Rattle.eip_aggregator.specs.declared.closed.Arrived.{Arrived}
use Rattle.eip_aggregator.specs.declared.closed.Closed.{Closed}
use Rattle.eip_history.specs.Plan.{Faults}
use Rattle.eip_history.specs.Own.{Past, turns}
use Rattle.eip_history.specs.Groups.{Arrival, Group, is_for, arrived, cause_at, folded, greatest_hops}
use Rattle.eip_history.specs.Births.{Asked, story, births, groups, asked, arrival_of, made_by, group_birth}
use Rattle.eip_history.specs.Place.{place}
use Rattle.eip_history.specs.Rules.{KeepsRules, May, IsBelow, added_at, message_so_far, is_fault}
use Rattle.eip_history.specs.Tables.{bit}
use Rattle.eip_history.proofs.GroupNumbers.{groups-numbered}
use Rattle.eip_history.proofs.Lists.{related-push}
use Rattle.eip_history.proofs.Told.{births-more}
use Rattle.eip_history.proofs.Unborn.{newborn-own}
use Rattle.eip_meaning.specs.Parts.{fault_of_strategy}
use Rattle.eip_meaning.specs.Values.{id_of}
use Rattle.eip_plan.specs.Plan.{plan_of, setting_of, added_one}
use Rattle.eip_progress.specs.declared.cursor.Cursor.{Cursor}
use Rattle.eip_tables.specs.Row.{Row}
use Rattle.eip_tables.specs.Moves.{answered}
use Rattle.eip_tables.specs.Offers.{hops_by}
use Rattle.eip_tables.specs.Parts.{at_by}
use Rattle.eip_tables.specs.Groups.{told, settings, group_calls, coming, group_row}
use Rattle.eip_tables.specs.State as state
use Rattle.eip_tables.specs.State.{state_of}
use Rattle.eip_tables.specs.Rows.{RowStands, row_ready, row_held, row_live, state_ready, state_held, state_live}
use Rattle.eip_tables.specs.Numbers.{row_numbers}
use Rattle.eip_tables.specs.Stands.{Tables, Stands}
use Rattle.eip_table_laws.proofs.RowNumbers.{numbers-stay, numbers-push, count-set, count-push}
use Rattle.eip_table_laws.proofs.RowPlaces.{row-on}
use Rattle.eip_table_laws.proofs.PartFacts.{unopened, answer-lives}
use Rattle.eip_table_laws.proofs.JoinsKept.{joins-on}
use Rattle.eip_table_laws.proofs.SleepersKept.{sleepers-stay}
use Rattle.eip_table_laws.proofs.QueueCalls.{queues-on}
use Rattle.eip_table_laws.proofs.OwnEvents.{stands-own, rows-one, apart-lives, notes_in, of-answer}
use Rattle.eip_table_laws.proofs.OwnCalls.{here, above, asking, asked-here, has-it, hops-are, answered-state, asks-fields, rows-many, stands-on, stands-with, same-joins}
use Rattle.eip_table_laws.proofs.AskedPlaces.{asked-place}
use Rattle.eip_table_laws.proofs.GroupLists.{only-one}
use Rattle.eip_table_laws.proofs.GroupParts.{same-folded, same-added, same-hops}
use Rattle.eip_table_laws.proofs.GroupLaws.{parts_in, Gathers, gathers, its-own, its-number, its-message, its-cause, its-parts, found-key}
use Rattle.eip_table_laws.proofs.GroupsKept.{its-hops, groups-grown, groups-shut}
use Rattle.eip_table_laws.proofs.KeysKept.{keys-on}
use Rattle.eip_table_laws.proofs.GroupShut.{shut_group, group-stands}

-- what a strategy makes is no fault
no-fault : (r : Result Message StrategyFault) (m : Message) → r ≡ Ok m → is_fault (added_one r) ≡ false
no-fault (Ok n) m h = refl
no-fault (Err f) m h = absurd (cc h)

-- which group closed, and by what
closed-none : (c : Option Completion) (n : ℕ) (g : table.Group) → closed_by c n g ≡ None → c ≡ None
closed-none None n g h = refl
closed-none (Some c) n g h = absurd (cc h)

closed-some : (c : Option Completion) (n : ℕ) (g : table.Group) (x : Closed) → closed_by c n g ≡ Some x → (c ≡ Some x.cause) × (x ≡ closed_as x.cause n g)
closed-some None n g x h = absurd (cc h)
closed-some (Some c) n g x h = let same : closed_as c n g ≡ x = cc in (ap (λ (y : Closed). Some y.cause) same, sym same ∙ ap (λ (y : Closed). closed_as y.cause n g) same)

module _ {routes : RouteSet} {workers limit : ℕ} {past : Past} (t : Tables) (w x : ℕ) (st : Stands routes workers limit past t) (lw : w ≤ workers) (c : Cursor) (r : Row)
    (ready : place (plan_of routes) past x ≡ Some place_is.Ready) (row : slice_get t.rows (x - 1) ≡ Some r) (a : ℕ) (key : List ℕ) (m : Message) (asks : state_of r ≡ state.Asks c (request.Arrive a key m)) where
  abbrev comes : Asked
  comes = record { birth = (here t w x st lw c r ready row).birth; request = request.Arrive a key m; at = (asking t w x st lw c r ready row (request.Arrive a key m) asks).at }

  comes-here : asked (plan_of routes) past x ≡ Some (record { birth = (here t w x st lw c r ready row).birth; request = request.Arrive a key m; at = (asking t w x st lw c r ready row (request.Arrive a key m) asks).at })
  comes-here = asked-here t w x st lw c r ready row (request.Arrive a key m) asks

  abbrev arrival : Arrival
  arrival = arrival_of past comes m

  -- its row tells how it comes
  coming-is : coming routes x t.clock r m ≡ told routes arrival
  coming-is =
      let h = here t w x st lw c r ready row in
      let k = asking t w x st lw c r ready row (request.Arrive a key m) asks in
      let f = asks-fields r.stage r.cursor r.request r.fault c (request.Arrive a key m) asks in
      let place : at_by r.cursor ≡ k.at = ap at_by f.0 ∙ sym (asked-place routes c (request.Arrive a key m) k.at k.follows.later k.asks) in
      let hops : hops_by r.born r.birth ≡ h.birth.hops = hops-are t w x st lw c r ready row (request.Arrive a key m) asks in
      ap (λ (p : At). record { number = x; route = id_of routes p.route; hops = hops_by r.born r.birth; at = t.clock; message = m }) place
      ∙ (ap (λ (n : ℕ). record { number = x; route = id_of routes k.at.route; hops = n; at = t.clock; message = m }) hops
      ∙ (ap (λ (n : ℕ). record { number = n; route = id_of routes k.at.route; hops = h.birth.hops; at = t.clock; message = m }) (sym h.number)
      ∙ ap (λ (n : ℕ). record { number = h.birth.number; route = id_of routes k.at.route; hops = h.birth.hops; at = n; message = m }) st.clock))

  its-calls : Gathers routes (groups (plan_of routes) past) (group_calls routes past)
  its-calls = gathers routes workers limit past st.legal.entries

  -- what the strategy says of it
  so-far : (o : Option Group) → find (is_for a key) (groups (plan_of routes) past) ≡ o → table.message_of (setting_of routes a) key (parts_in routes o) ≡ message_so_far (plan_of routes) o
  so-far None h = refl
  so-far (Some g) h =
      let of = found-key a key (groups (plan_of routes) past) g h in
      same-folded routes a key g.parts
      ∙ (ap (λ (n : ℕ). folded ((plan_of routes).group n) key 0 None g.parts) (sym of.1) ∙ ap (λ (l : List ℕ). folded ((plan_of routes).group g.aggregator) l 0 None g.parts) (sym of.2))

  strategy-says : added_at (plan_of routes) past a key m ≡ added_one (added_by (settings routes) (group_calls routes past) (a, key) (coming routes x t.clock r m))
  strategy-says =
      same-added routes a key (message_so_far (plan_of routes) (find (is_for a key) (groups (plan_of routes) past))) m
      ∙ (ap (λ (o : Option Message). added_one (added (setting_of routes a).strategy o m)) (sym (so-far (find (is_for a key) (groups (plan_of routes) past)) refl))
      ∙ ap (λ (ps : List table.Arrival). added_one (added (setting_of routes a).strategy (table.message_of (setting_of routes a) key ps) m)) (sym (its-calls.parts (a, key))))

  module _ (below : IsBelow (plan_of routes) limit past) where
    -- the strategy can't add it
    pub stands-unfit : (f : StrategyFault) → added_by (settings routes) (group_calls routes past) (a, key) (coming routes x t.clock r m) ≡ Err f
        → Stands routes workers limit ((record { worker = w; kind = Answer x (reply.Unfit (fault_of_strategy f)) }) ∷ past)
        (record t { rows = put_at t.rows (x - 1) (answered (length past) r); turns = t.turns + 1 })
    stands-unfit f says =
        let q : Request = request.Arrive a key m in
        let content : added_at (plan_of routes) past a key m ≡ Faults (fault_of_strategy f) = strategy-says ∙ ap added_one says in
        rw (append-nil t.notes) at
        (stands-on t w x st lw c r ready row q (reply.Unfit (fault_of_strategy f)) [] asks refl tt refl refl tt refl t.joins below content (rw comes-here refl)
        (same-joins t w x st lw c r ready row q (reply.Unfit (fault_of_strategy f)) [] asks refl tt refl refl tt refl refl tt) refl refl)

    module _ (open_groups : Table) (came : tables.Stands (settings routes) (Came (a, key) (coming routes x t.clock r m) ∷ group_calls routes past) open_groups)
        (sum : Message) (adds : added_by (settings routes) (group_calls routes past) (a, key) (coming routes x t.clock r m) ≡ Ok sum) (answer : Arrived)
        (answers : answer ≡ answer_at (settings routes) (group_calls routes past) (a, key) (coming routes x t.clock r m)) where
      came-told : tables.Stands (settings routes) (Came (a, key) (told routes arrival) ∷ group_calls routes past) open_groups
      came-told = subst (λ (p : table.Arrival). tables.Stands (settings routes) (Came (a, key) p ∷ group_calls routes past) open_groups) coming-is came

      fits-in : is_fault (added_at (plan_of routes) past a key m) ≡ false
      fits-in = ap is_fault (strategy-says ∙ ap added_one adds) ∙ no-fault (Ok sum) sum refl

      number-is : (arrived 1 (groups (plan_of routes) past) a key arrival).number ≡ answer.group
      number-is =
          sym (ap (λ (y : Arrived). y.group) answers
          ∙ its-number routes (groups (plan_of routes) past) (group_calls routes past) (groups-numbered (plan_of routes) past) a key (only-one (plan_of routes) past a key) its-calls arrival)

      closing-is : answer.closed ≡ closed_by (cause_at (plan_of routes) (arrived 1 (groups (plan_of routes) past) a key arrival) arrival) answer.group (group_of (setting_of routes a) (a, key) (told routes arrival ∷ parts_of (settings routes) (group_calls routes past) (a, key)))
      closing-is =
          let ps = parts_of (settings routes) (group_calls routes past) (a, key) in
          let n = next_number ps (number_of (settings routes) (group_calls routes past) (a, key)) (begun (settings routes) (group_calls routes past)) in
          ap (λ (y : Arrived). y.closed) answers
          ∙ (ap (λ (p : table.Arrival). closed_by (cause_of (setting_of routes a) key p ps) n (group_of (setting_of routes a) (a, key) (p ∷ ps))) coming-is
          ∙ (ap (λ (o : Option Completion). closed_by o n (group_of (setting_of routes a) (a, key) (told routes arrival ∷ ps)))
          (its-cause routes (groups (plan_of routes) past) (group_calls routes past) (groups-numbered (plan_of routes) past) a key (only-one (plan_of routes) past a key) its-calls arrival)
          ∙ ap (λ (k : ℕ). closed_by (cause_at (plan_of routes) (arrived 1 (groups (plan_of routes) past) a key arrival) arrival) k (group_of (setting_of routes a) (a, key) (told routes arrival ∷ ps)))
          (sym (ap (λ (y : Arrived). y.group) answers))))

      -- its group stays open
      pub stands-arrived : answer.closed ≡ None
          → Stands routes workers limit ((record { worker = w; kind = Answer x (reply.Arrived answer.group) }) ∷ past)
          (record t { rows = put_at t.rows (x - 1) (answered (length past) r); turns = t.turns + 1; groups = open_groups })
      stands-arrived still =
          let q : Request = request.Arrive a key m in
          let e : Reply = reply.Arrived answer.group in
          let cause : cause_at (plan_of routes) (arrived 1 (groups (plan_of routes) past) a key arrival) arrival ≡ None = closed-none _ answer.group _ (sym closing-is ∙ still) in
          let few = (here t w x st lw c r ready row).stands.hops in
          rw (append-nil t.notes) at
          (stands-with t w x st lw c r ready row q e [] asks refl tt refl refl tt refl t.joins open_groups t.keys below (fits-in, number-is, cause) (rw comes-here refl)
          (same-joins t w x st lw c r ready row q e [] asks refl tt refl refl tt refl refl tt)
          (groups-grown routes past x comes a key m comes-here refl few t.groups open_groups came-told st.groups w answer.group)
          (keys-on routes w x e past t.keys refl (answer-lives routes w x e past comes comes-here (λ k. cc k) (λ k. cc k)) st.keys))

      -- its group closes
      module _ (closed : Closed) (shuts : answer.closed ≡ Some closed) where
        closing : (cause_at (plan_of routes) (arrived 1 (groups (plan_of routes) past) a key arrival) arrival ≡ Some closed.cause)
            × (closed ≡ closed_as closed.cause answer.group (group_of (setting_of routes a) (a, key) (told routes arrival ∷ parts_of (settings routes) (group_calls routes past) (a, key))))
        closing = closed-some _ answer.group _ closed (sym closing-is ∙ shuts)

        closed-is : closed ≡ shut_group routes closed.cause (arrived 1 (groups (plan_of routes) past) a key arrival)
        closed-is =
            let g = arrived 1 (groups (plan_of routes) past) a key arrival in
            let ns = groups-numbered (plan_of routes) past in
            let one = only-one (plan_of routes) past a key in
            let hops = ap table.greatest_hops (sym (its-parts routes (groups (plan_of routes) past) (group_calls routes past) ns a key one its-calls arrival)) ∙ same-hops routes g.parts in
            let message = its-message routes (groups (plan_of routes) past) (group_calls routes past) ns a key one its-calls arrival in
            let own = its-own routes (groups (plan_of routes) past) (group_calls routes past) ns a key one its-calls arrival in
            closing.1
            ∙ (ap (λ (n : ℕ). record { group = n; block = a; cause = closed.cause; hops = table.greatest_hops (told routes arrival ∷ parts_of (settings routes) (group_calls routes past) (a, key)); message = table.or_empty (table.message_of (setting_of routes a) key (told routes arrival ∷ parts_of (settings routes) (group_calls routes past) (a, key))) }) (sym number-is)
            ∙ (ap (λ (n : ℕ). record { group = g.number; block = n; cause = closed.cause; hops = table.greatest_hops (told routes arrival ∷ parts_of (settings routes) (group_calls routes past) (a, key)); message = table.or_empty (table.message_of (setting_of routes a) key (told routes arrival ∷ parts_of (settings routes) (group_calls routes past) (a, key))) }) (sym own.0)
            ∙ (ap (λ (n : ℕ). record { group = g.number; block = g.aggregator; cause = closed.cause; hops = n; message = table.or_empty (table.message_of (setting_of routes a) key (told routes arrival ∷ parts_of (settings routes) (group_calls routes past) (a, key))) }) hops
            ∙ ap (λ (y : Message). record { group = g.number; block = g.aggregator; cause = closed.cause; hops = greatest_hops g.parts; message = y }) message)))

        abbrev shut_answer : Reply
        shut_answer = reply.Closed answer.group closed.cause (length t.rows + 1)

        abbrev shut_entry : Entry
        shut_entry = record { worker = w; kind = Answer x (reply.Closed answer.group closed.cause (length t.rows + 1)) }

        may-shut : May (plan_of routes) limit past w (Answer x (reply.Closed answer.group closed.cause (length t.rows + 1)))
        may-shut = record {
          asks = comes;
          asked_is = comes-here;
          fitting = refl;
          act = (ready, below);
          content = (fits-in, number-is, closing.0, ap (λ (n : ℕ). n + 1) (rows-many t st));
        }

        -- its exchange is the one that the entry makes
        shut-made : births (plan_of routes) ((record { worker = w; kind = Answer x (reply.Closed answer.group closed.cause (length t.rows + 1)) }) ∷ past)
            ≡ births (plan_of routes) past ++ group_birth (plan_of routes) (length t.rows + 1) closed.cause (arrived 1 (groups (plan_of routes) past) a key arrival) ∷ []
        shut-made =
            let s = plan_of routes in
            births-more s shut_entry past
            ∙ (ap (λ (o : Option Asked). births s past ++ made_by s (story s past) past o (reply.Closed answer.group closed.cause (length t.rows + 1))) comes-here
            ∙ ap (λ (n : ℕ). births s past ++ group_birth s (n + 1) closed.cause (arrived 1 (groups s past) a key arrival) ∷ []) (sym (rows-many t st)))

        few : (here t w x st lw c r ready row).birth.hops ≤ turns past
        few = (here t w x st lw c r ready row).stands.hops

        shut-row : KeepsRules (plan_of routes) workers limit ((record { worker = w; kind = Answer x (reply.Closed answer.group closed.cause (length t.rows + 1)) }) ∷ past)
            → RowStands routes ((record { worker = w; kind = Answer x (reply.Closed answer.group closed.cause (length t.rows + 1)) }) ∷ past) (group_birth (plan_of routes) (length t.rows + 1) closed.cause (arrived 1 (groups (plan_of routes) past) a key arrival)) (group_row routes (length t.rows + 1) closed)
        shut-row legal =
            let s = plan_of routes in
            let g = arrived 1 (groups s past) a key arrival in
            let many = rows-many t st in
            let stands = group-stands routes (shut_entry ∷ past) (length t.rows + 1) closed.cause g (newborn-own s workers limit shut_entry past (length t.rows + 1) legal (omega (arith, many)))
            (its-hops routes past x comes a key m comes-here refl few t.groups open_groups came-told st.groups shut_entry) in
            subst (λ (y : Closed). RowStands routes (shut_entry ∷ past) (group_birth s (length t.rows + 1) closed.cause g) (group_row routes (length t.rows + 1) y)) (sym closed-is) stands

        pub stands-closed : Stands routes workers limit ((record { worker = w; kind = Answer x (reply.Closed answer.group closed.cause (length t.rows + 1)) }) ∷ past) (record t {
          rows = put_at t.rows (x - 1) (answered (length past) r) ++ (group_row routes (length t.rows + 1) closed) ∷ [];
          ready = t.ready ++ (length t.rows + 1) ∷ [];
          turns = t.turns + 1;
          live = t.live + 1;
          groups = open_groups;
        })
        stands-closed =
            let s = plan_of routes in
            let q : Request = request.Arrive a key m in
            let e : Reply = reply.Closed answer.group closed.cause (length t.rows + 1) in
            let h = here t w x st lw c r ready row in
            let new : Row = answered (length past) r in
            let its : Row = group_row routes (length t.rows + 1) closed in
            let now = answered-state (length past) r c q asks in
            let l : row_live new ≡ true = ap state_live now in
            let h' : row_held new ≡ false = ap state_held now in
            let was_ready : row_ready r ≡ true = ap state_ready asks in
            let was_held : row_held r ≡ false = ap state_held asks in
            let was_live : row_live r ≡ true = ap state_live asks in
            let over : suc (x - 1) ≡ x = above t w x st lw c r ready row in
            let none : notes_in s past w (Answer x e) ≡ [] = rw comes-here refl in
            let lives = answer-lives routes w x e past comes comes-here (λ k. cc k) (λ k. cc k) in
            let many : length (put_at t.rows (x - 1) new) ≡ length t.rows = length-set t.rows (x - 1) new in
            let number : 1 + length (put_at t.rows (x - 1) new) ≡ length t.rows + 1 = omega (arith, many) in
            rw (none, append-nil t.notes) at
            (stands-own routes workers limit past t w x (Answer x e) (put_at t.rows (x - 1) new ++ its ∷ []) (t.ready ++ (length t.rows + 1) ∷ []) t.taken (t.live + 1) t.queues t.joins t.sleepers open_groups t.keys st lw may-shut (of-answer w x e tt)
            (λ legal. rw shut-made
            (related-push (RowStands routes (shut_entry ∷ past)) (births s past) (put_at t.rows (x - 1) new) _ its
            (rows-one routes workers limit past t w x (x - 1) (Answer x e) r new st legal (of-answer w x e tt) over row (apart-lives routes workers limit w x (Answer x e) past legal (of-answer w x e tt) lives)
            (λ d d_at g. row-on routes shut_entry past d r new g refl refl refl (was_live ∙ sym l) (rw now (has-it t w x st lw c r ready row q e asks refl tt refl d d_at g))))
            (shut-row legal)))
            (ap (λ (xs : List ℕ). xs ++ (length t.rows + 1) ∷ []) (st.ready ∙ sym (numbers-stay row_ready 1 t.rows (x - 1) r new row (was_ready ∙ sym (ap state_ready now))))
            ∙ sym (numbers-push row_ready 1 (put_at t.rows (x - 1) new) its ∙ ap (λ (n : ℕ). row_numbers row_ready 1 (put_at t.rows (x - 1) new) ++ n ∷ []) number))
            (let n = count-set row_held t.rows (x - 1) r new row in let p = count-push row_held (put_at t.rows (x - 1) new) its in let g = ap bit was_held in let g' = ap bit h' in omega (arith, n, p, g, g', st.taken))
            (let n = count-set row_live t.rows (x - 1) r new row in let p = count-push row_live (put_at t.rows (x - 1) new) its in let g = ap bit was_live in let g' = ap bit l in omega (arith, n, p, g, g', st.live))
            (λ legal. queues-on routes workers limit w x e past h.birth t.queues legal refl h.at lives st.queues)
            (λ legal. joins-on routes workers limit w x e past legal lives refl (unopened routes past x comes comes-here tt) st.joins)
            (λ legal. sleepers-stay routes workers limit w (Answer x e) past t.sleepers legal refl st.sleepers)
            (groups-shut routes past x comes a key m comes-here refl few t.groups open_groups came-told st.groups w answer.group (length t.rows + 1) closed.cause)
            (keys-on routes w x e past t.keys refl lives st.keys))
