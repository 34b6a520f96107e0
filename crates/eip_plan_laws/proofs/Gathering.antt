-- The aggregators of a valid set that gather batches, and what their groups' messages are packed of.
use Rattle.std.proofs.Common.{◌≡◌, ℕ, zero, suc, ◌+◌, ◌≤◌, ◌&&◌, Bool, true, false, cond, eqb, List, [], ◌∷◌, ◌++◌, map, All, get_or, Option, Some, None, is_none, Result, Ok, Err, refl, sym, ap, subst, ◌∙◌, arith, append_assoc, append-nil}
use Rattle.std.specs.List.{slice_get}
use Rattle.std.specs.Prelude.{unwrap_or}
use Rattle.std.proofs.lemmas.Bool.{and_parts, eqb-true, leb-true}
use Rattle.eip_exchange.specs.declared.message.Message.{Message}
use Rattle.eip_exchange.specs.declared.setting.How.TheVariants as how
use Rattle.eip_exchange.specs.declared.setting.Key.{Key}
use Rattle.eip_exchange.specs.declared.setting.Strategy.TheVariants as strategy
use Rattle.eip_strategy.specs.Adding.{added}
use Rattle.eip_strategy.specs.Batches.{added_packed, IsPackedOf}
use Rattle.eip_strategy.specs.declared.fault.StrategyFault.{StrategyFault}
use Rattle.eip_strategy.proofs.Packed.{batch_begins, batch_grows}
use Rattle.eip_route.specs.Nest.{step_numbers}
use Rattle.eip_route.specs.Valid.{IsValid, is_step, are_steps, is_batching, is_batch_key, is_needed_between, is_batch_strategy, is_plain_fan, is_key, is_batch_block, is_batch_at, HoldsBatches}
use Rattle.eip_route.specs.declared.route.Block.{Block}
use Rattle.eip_route.specs.declared.route.Names.{Names}
use Rattle.eip_route.specs.declared.route.RouteSet.{RouteSet}
use Rattle.eip_route.specs.declared.step.Aggregate.{Aggregate}
use Rattle.eip_route.specs.declared.step.Fan.{Fan}
use Rattle.eip_route.specs.declared.step.Step.{Step}
use Rattle.eip_route.specs.declared.step.Step.TheVariants as step
use Rattle.eip_history.specs.Plan.{GroupRule, Gives}
use Rattle.eip_history.specs.Groups.{Arrival, labelled}
use Rattle.eip_history_laws.specs.Folds.{FoldsFrom}
use Rattle.eip_meaning.specs.Meaning.{steps_of}
use Rattle.eip_plan.specs.Plan.{plan_of, plain_aggregate, group_rule, aggregator_of, aggregator_in, aggregator_among, or_aggregator, added_one}

-- ---- the aggregator of a block is a step of the set

-- all but the first
all-behind : {A : Type 0} (P : A → Type 0) (x : A) (xs : List A) → All P (x ∷ xs) → All P xs
all-behind P x xs h = λ k d inside. h (suc k) d (omega (arith, inside))

-- what holds of each step of the set holds of it, and it runs this block
module _ (P : Step → Type 0) (n : ℕ) where
  found-in : (ss : List Step) (a : Aggregate) → All P ss → aggregator_in n ss ≡ Some a → P (step.Aggregate a) × (a.block ≡ n)
  found-in [] a h e = absurd (cc e)
  found-in (s ∷ ss) a h e = by_step s (h 0 s (omega arith)) e (λ g. found-in ss a (all-behind P s ss h) g)
    where
      by_block : (g : Aggregate) (v : Bool) → eqb g.block n ≡ v → P (step.Aggregate g) → or_aggregator (cond v (Some g) None) (aggregator_in n ss) ≡ Some a
          → (aggregator_in n ss ≡ Some a → P (step.Aggregate a) × (a.block ≡ n)) → P (step.Aggregate a) × (a.block ≡ n)
      by_block g true t p f later = let same : g ≡ a = cc f in subst (λ k. P (step.Aggregate k) × (k.block ≡ n)) same (p, eqb-true g.block n t)
      by_block g false t p f later = later f

      by_step : (t : Step) → P t → or_aggregator (aggregator_of n t) (aggregator_in n ss) ≡ Some a
          → (aggregator_in n ss ≡ Some a → P (step.Aggregate a) × (a.block ≡ n)) → P (step.Aggregate a) × (a.block ≡ n)
      by_step (step.Aggregate g) p f later = by_block g (eqb g.block n) refl p f later
      by_step _ p f later = later f

  found-among : (bs : List Block) (a : Aggregate) → All (λ (b : Block). All P b.steps) bs → aggregator_among n bs ≡ Some a → P (step.Aggregate a) × (a.block ≡ n)
  found-among [] a h e = absurd (cc e)
  found-among (b ∷ bs) a h e =
      by_found (aggregator_in n b.steps) refl e (λ g. found-in b.steps a (h 0 b (omega arith)) g) (λ g. found-among bs a (all-behind (λ (d : Block). All P d.steps) b bs h) g)
    where
      by_found : (o : Option Aggregate) → aggregator_in n b.steps ≡ o → or_aggregator o (aggregator_among n bs) ≡ Some a
          → (aggregator_in n b.steps ≡ Some a → P (step.Aggregate a) × (a.block ≡ n)) → (aggregator_among n bs ≡ Some a → P (step.Aggregate a) × (a.block ≡ n))
          → P (step.Aggregate a) × (a.block ≡ n)
      by_found (Some g) t f here later = here (t ∙ f)
      by_found None t f here later = later f

all-steps : (names : Names) (ss : List Step) → are_steps names ss ≡ true → All (λ (s : Step). is_step names s ≡ true) ss
all-steps names [] h = λ k d inside. absurd (omega (arith, inside))
all-steps names (s ∷ ss) h = by_place (and_parts (is_step names s) (are_steps names ss) h).0 (all-steps names ss (and_parts (is_step names s) (are_steps names ss) h).1)
  where
    by_place : is_step names s ≡ true → All (λ (t : Step). is_step names t ≡ true) ss → All (λ (t : Step). is_step names t ≡ true) (s ∷ ss)
    by_place here later zero d inside = here
    by_place here later (suc k) d inside = later k d (omega (arith, inside))

all-blocks : (names : Names) (bs : List Block) → All (λ (b : Block). are_steps names b.steps ≡ true) bs → All (λ (b : Block). All (λ (s : Step). is_step names s ≡ true) b.steps) bs
all-blocks names bs h = λ k d inside. all-steps names (get_or bs k d).steps (h k d inside)

-- the block of this number
at-number : (P : Block → Type 0) (bs : List Block) (n : ℕ) (b : Block) → All P bs → slice_get bs n ≡ Some b → P b
at-number P [] n b h e = absurd (cc e)
at-number P (d ∷ bs) zero b h e = let same : d ≡ b = cc e in subst P same (h 0 d (omega arith))
at-number P (d ∷ bs) (suc n) b h e = at-number P bs n b (all-behind P d bs h) e

-- ---- the block of an aggregator that gathers batches

-- its one step
pub record IsBatchBlock (set : RouteSet) (n : ℕ) : Type 0 where
  pub key : Key
  pub fan : Fan
  pub block : ℕ
  pub step_is : steps_of set n ≡ step.Split (how.Batch key) fan block ∷ []
  pub plain : is_plain_fan fan ≡ true

block-of : (set : RouteSet) (n : ℕ) → All (λ (b : Block). are_steps set.names b.steps ≡ true) set.blocks → is_batch_at set.blocks n ≡ true → IsBatchBlock set n
block-of set n valid h = by_block (slice_get set.blocks n) refl h
  where
    by_steps : (b : Block) (ss : List Step) → b.steps ≡ ss → slice_get set.blocks n ≡ Some b → are_steps set.names ss ≡ true → is_batch_block ss ≡ true → IsBatchBlock set n
    by_steps b [] same e v t = absurd (cc t)
    by_steps b (step.Split (how.Batch k) fan block ∷ []) same e v t =
        let one = (and_parts (is_step set.names (step.Split (how.Batch k) fan block)) true v).0 in
        record { key = k; fan = fan; block = block; step_is = rw e same; plain = (and_parts (is_key k) (is_plain_fan fan) one).1 }
    by_steps b (_ ∷ []) same e v t = absurd (cc t)
    by_steps b (x ∷ y ∷ ss) same e v t = absurd (cc t)

    by_block : (o : Option Block) → slice_get set.blocks n ≡ o → is_batch_block (Rattle.eip_route.specs.Faults.steps_of o) ≡ true → IsBatchBlock set n
    by_block None e t = absurd (cc t)
    by_block (Some b) e t = by_steps b b.steps refl e (at-number (λ (d : Block). are_steps set.names d.steps ≡ true) set.blocks n b valid e) t

-- a batching aggregator has a size of 1 to 1,000
pub record IsBatching (set : RouteSet) (a : Aggregate) (n : ℕ) : Type 0 where
  pub runs : IsBatchBlock set n
  pub most : ℕ
  pub size : a.size ≡ Some most
  pub some : 1 ≤ most
  pub few : most ≤ 1000

size-of : (o : Option ℕ) → is_needed_between 1 1000 o ≡ true → (most : ℕ) × (o ≡ Some most) × (1 ≤ most) × (most ≤ 1000)
size-of None h = absurd (cc h)
size-of (Some n) h = let b = and_parts _ _ h in (n, refl, leb-true 1 n b.0, leb-true n 1000 b.1)

pub batching-is : (set : RouteSet) (n : ℕ) (a : Aggregate) → IsValid set → aggregator_among n set.blocks ≡ Some a → a.strategy ≡ strategy.Batch → IsBatching set a n
unfolding step_numbers
batching-is set n a valid e batch =
    let holds = found-among (HoldsBatches set.blocks) n set.blocks a valid.gathered e in
    let at_block : is_batch_at set.blocks a.block ≡ is_batch_strategy a.strategy = holds.0 0 a.block (omega arith) in
    let block : is_batch_at set.blocks n ≡ true = subst (λ k. is_batch_at set.blocks k ≡ true) holds.1 (at_block ∙ ap is_batch_strategy batch) in
    let good = (found-among (λ (s : Step). is_step set.names s ≡ true) n set.blocks a (all-blocks set.names set.blocks valid.blocks) e).0 in
    let gathers : is_batching a ≡ true = rw batch at good in
    let parts = and_parts (is_batch_key a.key && is_none a.predicate) ((is_needed_between 1 1000 a.size && is_needed_between 1 1000000000 a.timeout) && a.force) gathers in
    let bounds = and_parts (is_needed_between 1 1000 a.size && is_needed_between 1 1000000000 a.timeout) a.force parts.1 in
    let size = size-of a.size (and_parts (is_needed_between 1 1000 a.size) (is_needed_between 1 1000000000 a.timeout) bounds.0).0 in
    record { runs = block-of set n valid.blocks block; most = size.0; size = size.1; some = size.2; few = size.3 }

-- ---- what a batch's message is packed of

-- the messages before are packed of these
abbrev IsSoFar : Option Message → List Message → Type 0
IsSoFar None ms = ms ≡ []
IsSoFar (Some old) ms = IsPackedOf old.body ms

one-added : (r : Result Message StrategyFault) (m : Message) → added_one r ≡ Gives m → r ≡ Ok m
one-added (Ok k) m h = let same : k ≡ m = cc h in ap Ok same
one-added (Err f) m h = absurd (cc h)

added-batch : (before : Option Message) (new one : Message) → added_one (added strategy.Batch before new) ≡ Gives one → added_packed before new ≡ Ok one
unfolding added
added-batch before new one h = one-added (added_packed before new) one h

module _ (r : GroupRule) (key : List ℕ) (adds : (before : Option Message) (new : Message) → r.add before new ≡ added_one (added strategy.Batch before new)) where
  one-packed : (before : Option Message) (ms : List Message) (new one : Message) → IsSoFar before ms → added_packed before new ≡ Ok one → IsPackedOf one.body (ms ++ new ∷ [])
  one-packed None ms new one so_far h = rw so_far (batch_begins new one h)
  one-packed (Some old) ms new one so_far h = batch_grows ms old new one so_far h

  pub folds-packed : (n : ℕ) (before : Option Message) (ms : List Message) (ps : List Arrival) (m : Message) → IsSoFar before ms → FoldsFrom r key n before ps m
      → IsPackedOf m.body (ms ++ map (λ (p : Arrival). p.message) ps)
  folds-packed n None ms [] m so_far h = absurd (cc h)
  folds-packed n (Some old) ms [] m so_far h = let same : old ≡ m = cc h in rw (append-nil ms) (subst (λ (k : Message). IsPackedOf k.body ms) same so_far)
  folds-packed n before ms (p ∷ ps) m so_far h =
      let one = one-packed before ms p.message h.0 so_far (added-batch before p.message h.0 (sym (adds before p.message) ∙ h.1)) in
      subst (IsPackedOf m.body) (append_assoc ms (p.message ∷ []) (map (λ (q : Arrival). q.message) ps))
      (folds-packed (n + 1) (Some (labelled (n + 1) key h.0)) (ms ++ p.message ∷ []) ps m one h.2)

-- the rule of a batching aggregator
pub batch-adds : (set : RouteSet) (n : ℕ) (a : Aggregate) → aggregator_among n set.blocks ≡ Some a → a.strategy ≡ strategy.Batch → (before : Option Message) (new : Message)
    → ((plan_of set).group n).add before new ≡ added_one (added strategy.Batch before new)
unfolding plan_of
batch-adds set n a e batch before new =
    ap (λ o. (group_rule set n (unwrap_or o (plain_aggregate n))).add before new) e ∙ ap (λ s. added_one (added s before new)) batch

pub batch-size : (set : RouteSet) (n : ℕ) (a : Aggregate) → aggregator_among n set.blocks ≡ Some a → ((plan_of set).group n).size ≡ a.size
unfolding plan_of
batch-size set n a e = ap (λ o. (group_rule set n (unwrap_or o (plain_aggregate n))).size) e
