-- The exchange of a closed batch asks for the messages that arrived, in order.
use Rattle.std.proofs.Common.{◌≡◌, ℕ, ◌≤◌, ◌&&◌, not, Bool, true, false, cond, List, [], ◌∷◌, length, map, take, take_all, Some, None, is_some, is_none, Ok, refl, sym, ap, subst, ◌∙◌, arith}
use Rattle.std.specs.Prelude.{unwrap_or}
use Rattle.std.proofs.lemmas.Bool.{and_parts}
use Rattle.std.proofs.lemmas.List.{length-map}
use Rattle.eip_exchange.specs.declared.birth.Birth.{Birth}
use Rattle.eip_exchange.specs.declared.birth.Care.TheVariants.{Full}
use Rattle.eip_exchange.specs.declared.birth.Work.{Work}
use Rattle.eip_exchange.specs.declared.birth.Work.TheVariants as work
use Rattle.eip_exchange.specs.declared.end.Fault.{Fault}
use Rattle.eip_exchange.specs.declared.message.Message.{Message}
use Rattle.eip_exchange.specs.declared.setting.How.TheVariants as how
use Rattle.eip_exchange.specs.declared.setting.Key.{Key}
use Rattle.eip_exchange.specs.declared.setting.Strategy.TheVariants as strategy
use Rattle.eip_frames.specs.Fate.{Fate}
use Rattle.eip_frames.specs.declared.answer.Answer.{Answer as Reply}
use Rattle.eip_frames.specs.declared.answer.Completion.{Completion}
use Rattle.eip_frames.specs.declared.request.Seed.{Seed}
use Rattle.eip_splitter.specs.Batches.{AreHeld, IsBatchOf, batch_parts, placed_from}
use Rattle.eip_splitter.specs.Splitting.{parts}
use Rattle.eip_splitter.proofs.Batching.{batch_is}
use Rattle.eip_strategy.specs.Batches.{IsPackedOf}
use Rattle.eip_route.specs.Valid.{IsValid, is_plain_fan}
use Rattle.eip_route.specs.declared.route.RouteSet.{RouteSet}
use Rattle.eip_route.specs.declared.step.Aggregate.{Aggregate}
use Rattle.eip_route.specs.declared.step.Fan.{Fan}
use Rattle.eip_route.specs.declared.step.Step.{Step}
use Rattle.eip_route.specs.declared.step.Step.TheVariants as step
use Rattle.eip_history.specs.Own.{Past, own, answers, numbered, starved}
use Rattle.eip_history.specs.Groups.{Arrival, Group, message_of}
use Rattle.eip_history.specs.Births.{births, fate, fate_by, groups, group_birth}
use Rattle.eip_history.specs.Place.{ended, end_of}
use Rattle.eip_history.specs.Rules.{KeepsRules}
use Rattle.eip_history.proofs.Parts.{numbered-number}
use Rattle.eip_history.proofs.Places.{ended-is}
use Rattle.eip_history_laws.proofs.Gathered.{groups-fold, groups-within, closed-groups-run}
use Rattle.eip_meaning.specs.Contexts.{context_of, place_of, care_of_parts}
use Rattle.eip_meaning.specs.FanOuts.{at_once, cut, fan_mean, in_turn, split_mean, with_parts}
use Rattle.eip_meaning.specs.Attempts.{faulted, number_of_try}
use Rattle.eip_meaning.specs.Meaning.{mean, finished, is_committed, item_of, handle_in, work_mean, steps_mean, steps_of, nested_in, call_in}
use Rattle.eip_meaning.specs.Outcomes.{Outcome, Goes, followed, caught}
use Rattle.eip_meaning.specs.Parts.{block_seed}
use Rattle.eip_meaning.specs.Steps.{one_try}
use Rattle.eip_meaning.proofs.Unfolding.{block_equation, next_of, tries_equation}
use Rattle.eip_plan.specs.Plan.{plan_of, aggregator_among}
use Rattle.eip_plan_laws.specs.Parts.{parts_asked}
use Rattle.eip_plan_laws.specs.Statements.{arrived_messages, IsResequenced, BatchesResequenced}
use Rattle.eip_plan_laws.proofs.Asked.{parts-by-answers}
use Rattle.eip_plan_laws.proofs.Gathering.{IsBatching, batching-is, folds-packed, batch-adds, batch-size}
use Rattle.eip_plan_laws.proofs.InTurn.{AsksInTurn, seeds_before, turn-none, turn-same, in-turn-asks}

not-true : (v : Bool) → not v ≡ true → v ≡ false
not-true true h = absurd (cc h)
not-true false h = refl

-- the parts run one behind the other, each of them, with a unit of work of their own
pub record IsPlain (fan : Fan) : Type 0 where
  pub parallel : fan.parallel ≡ false
  pub stop : fan.stop ≡ false
  pub share : fan.share ≡ false

plain-is : (fan : Fan) → is_plain_fan fan ≡ true → IsPlain fan
plain-is fan h =
    let a = and_parts (is_none fan.strategy) (not fan.parallel && (not fan.stop && not fan.share)) h in
    let b = and_parts (not fan.parallel) (not fan.stop && not fan.share) a.1 in
    let c = and_parts (not fan.stop) (not fan.share) b.1 in
    record { parallel = not-true fan.parallel b.0; stop = not-true fan.stop c.0; share = not-true fan.share c.1 }

-- ---- an exchange whose work is the split of a batch

module _ (set : RouteSet) (b : Birth) (n : ℕ) (key : Key) (fan : Fan) (block : ℕ) (works : b.work ≡ work.Block n)
    (steps : steps_of set n ≡ step.Split (how.Batch key) fan block ∷ []) (plain : IsPlain fan) where
  -- one try of the split
  abbrev Try : Message → List Reply → Outcome
  Try m A = one_try set (nested_in set (handle_in set (context_of b)) (context_of b) n) (call_in set (handle_in set (context_of b)) (context_of b)) (context_of b) (step.Split (how.Batch key) fan block) m A

  -- what follows its fault
  abbrev Behind : Fault → Bool → List Reply → Outcome
  Behind f again A =
      faulted set (handle_in set (context_of b)) (context_of b) (number_of_try 1000) (next_of set (handle_in set (context_of b)) Try (context_of b) 1000) b.message f again A

  -- the exchange, by what the split gives
  abbrev Around : Outcome → Fate
  Around o = finished (is_committed set b) (item_of b.origin) (place_of b) (followed (caught o Behind) (λ m A. Goes m A))

  mean-is : (A : List Reply) → mean set b A ≡ Around (split_mean set (context_of b) (how.Batch key) fan block b.message A)
  unfolding mean
  mean-is A =
      let c = context_of b in
      let h = handle_in set c in
      let finish : Outcome → Fate = finished (is_committed set b) (item_of b.origin) (place_of b) in
      ap (λ (w : Work). finish (work_mean set c w b.message A)) works
      ∙ (ap finish (block_equation set h c n b.message A)
      ∙ (ap (λ (ss : List Step). finish (steps_mean set h (nested_in set h c n) (call_in set h c) c ss b.message A)) steps
      ∙ ap (λ (o : Outcome). finish (followed o (λ m A'. Goes m A'))) (tries_equation set h Try c 1000 b.message A)))

  module _ (ps : List Message) (cuts : cut (how.Batch key) b.message ≡ Ok ps) where
    abbrev seeds : List Seed
    seeds = map (λ piece. block_seed (care_of_parts (context_of b) fan.share) block piece) ps

    fan-is : (A : List Reply) → mean set b A ≡ Around (fan_mean set (context_of b) fan (unwrap_or fan.strategy strategy.Original) seeds b.message A)
    fan-is A =
        mean-is A
        ∙ ap (λ r. Around (with_parts r (λ ms A'. fan_mean set (context_of b) fan (unwrap_or fan.strategy strategy.Original)
        (map (λ piece. block_seed (care_of_parts (context_of b) fan.share) block piece) ms) b.message A') A)) cuts

    split-asks : (xs : List Seed) → ((A : List Reply) → mean set b A ≡ Around (fan_mean set (context_of b) fan (unwrap_or fan.strategy strategy.Original) xs b.message A))
        → (A : List Reply) → AsksInTurn xs (mean set b) A
    split-asks [] h A = turn-none (mean set b) A
    split-asks (x ∷ xs) h A =
        let s = unwrap_or fan.strategy strategy.Original in
        turn-same (x ∷ xs) (mean set b) (λ B. Around (in_turn set (context_of b) s false [] 0 (x ∷ xs) b.message B)) A
        (λ B. h B
        ∙ (ap (λ v. Around (cond v (at_once set (context_of b) s (x ∷ xs) b.message B) (in_turn set (context_of b) s fan.stop [] 0 (x ∷ xs) b.message B))) plain.parallel
        ∙ ap (λ v. Around (in_turn set (context_of b) s v [] 0 (x ∷ xs) b.message B)) plain.stop))
        (in-turn-asks set (context_of b) s b.message Around (λ q p. refl) refl [] 0 (x ∷ xs) A)

    pub batch-asks : (A : List Reply) → AsksInTurn seeds (mean set b) A
    batch-asks A = split-asks seeds fan-is A

-- ---- the exchange of a group

-- who ended without a Starve ended by its meaning
ended-by : (set : RouteSet) (past : Past) (x : ℕ) (b : Birth) → numbered (births (plan_of set) past) x ≡ Some b → is_some (ended (plan_of set) past x) ≡ true
    → starved (own x past) ≡ false → is_some (end_of (mean set b (answers (own x past)))) ≡ true
unfolding fate plan_of
ended-by set past x b at h none =
    let n = numbered-number (plan_of set) past x b at in
    let e = ap is_some (sym (ended-is (plan_of set) past x b at)) ∙ h in
    let own_is : is_some (end_of (fate_by (plan_of set) b (own x past))) ≡ true = subst (λ y. is_some (end_of (fate_by (plan_of set) b (own y past))) ≡ true) n e in
    rw none at own_is

mean-of : (set : RouteSet) → (plan_of set).mean ≡ mean set
unfolding plan_of
mean-of set = refl

cut-batch : (key : Key) (m : Message) → cut (how.Batch key) m ≡ batch_parts key m
unfolding parts
cut-batch key m = refl

module _ (set : RouteSet) (workers limit : ℕ) (past : Past) (n : ℕ) (g : Group) (c : Completion) (a : Aggregate) (valid : IsValid set)
    (legal : KeepsRules (plan_of set) workers limit past) (at : numbered (groups (plan_of set) past) n ≡ Some g) (closed : g.closed ≡ Some c)
    (among : aggregator_among g.aggregator set.blocks ≡ Some a) (batch : a.strategy ≡ strategy.Batch) (held : AreHeld (arrived_messages g)) where
  is_batching : IsBatching set a g.aggregator
  is_batching = batching-is set g.aggregator a valid among batch

  few-parts : length (arrived_messages g) ≤ 10000
  few-parts =
      let i = is_batching in
      let w = groups-within (plan_of set) workers limit past n i.most g legal at (batch-size set g.aggregator a among ∙ i.size) i.some in
      let l = length-map g.parts (λ (p : Arrival). p.message) in
      omega (arith, w.0, l, i.few)

  packed : IsPackedOf (message_of (plan_of set) g).body (arrived_messages g)
  packed =
      folds-packed ((plan_of set).group g.aggregator) g.key (batch-adds set g.aggregator a among batch) 0 None [] g.parts (message_of (plan_of set) g) refl
      (groups-fold (plan_of set) workers limit past n g legal at)

  pub resequenced : IsResequenced set past g c
  resequenced =
      let s = plan_of set in
      let i = is_batching in
      let run = closed-groups-run s past n g c at closed in
      let x = run.0 in
      let b = group_birth s x c g in
      let of_batch = batch_is i.runs.key (arrived_messages g) b.message held few-parts packed in
      let ps = placed_from (length (arrived_messages g)) 0 of_batch.ordered in
      let cuts : cut (how.Batch i.runs.key) b.message ≡ Ok ps = cut-batch i.runs.key b.message ∙ of_batch.parts_are in
      let plain = plain-is i.runs.fan i.runs.plain in
      let turn = batch-asks set b g.aggregator i.runs.key i.runs.fan i.runs.block refl i.runs.step_is plain ps cuts (answers (own x past)) in
      let asked : parts_asked s past x ≡ seeds_before (mean set b) (answers (own x past)) =
      parts-by-answers s x workers limit past b legal run.1 ∙ ap (λ m. seeds_before (m b) (answers (own x past))) (mean-of set) in
      let full : map (λ piece. block_seed (care_of_parts (context_of b) i.runs.fan.share) i.runs.block piece) ps ≡ map (block_seed Full i.runs.block) ps =
      rw plain.share refl in
      let many : length (map (λ piece. block_seed (care_of_parts (context_of b) i.runs.fan.share) i.runs.block piece) ps) ≡ length ps =
      length-map ps (λ piece. block_seed (care_of_parts (context_of b) i.runs.fan.share) i.runs.block piece) in
      let first : take (length ps) (parts_asked s past x) ≡ take (length (parts_asked s past x)) (map (block_seed Full i.runs.block) ps) =
      rw (asked, ← full) (subst (λ k. take k (seeds_before (mean set b) (answers (own x past)))
      ≡ take (length (seeds_before (mean set b) (answers (own x past)))) (map (λ piece. block_seed (care_of_parts (context_of b) i.runs.fan.share) i.runs.block piece) ps)) many turn.first) in
      record {
        exchange = x;
        born = run.1;
        key = i.runs.key;
        fan = i.runs.fan;
        block = i.runs.block;
        step = i.runs.step_is;
        parts = ps;
        cut_is = cuts;
        batch = subst (IsBatchOf i.runs.key (arrived_messages g)) of_batch.parts_are of_batch;
        first = first;
        all = λ over living.
            let l = turn.all (ended-by set past x b run.1 over living) in
            let k = length-map ps (block_seed Full i.runs.block) in
            first ∙ take_all (length (parts_asked s past x)) (map (block_seed Full i.runs.block) ps) (rw asked (omega (arith, l, many, k)));
      }

pub batches-resequenced : BatchesResequenced
batches-resequenced set workers limit past n g c a valid legal at closed among batch held = resequenced set workers limit past n g c a valid legal at closed among batch held
