-- The sets that can be run: what a route file gives.
use Rattle.std.specs.Prelude.{◌≡◌, ◌<◌, ℕ, Bool, true, false, not, cond, codes, is_none, slice_get, ◌||◌, ◌&&◌, ◌==◌, nat_le, nat_eq, length, List, [], ◌∷◌, ◌++◌, Option, Some, None, is_some, bytes_eq, All, count_by}
use Rattle.std.specs.List.{list_all, list_any}
use Rattle.eip_exchange.specs.declared.setting.Clause.{Clause}
use Rattle.eip_exchange.specs.declared.setting.How.{How}
use Rattle.eip_exchange.specs.declared.setting.How.TheVariants as how
use Rattle.eip_exchange.specs.declared.setting.Key.{Key}
use Rattle.eip_exchange.specs.declared.setting.Key.TheVariants as key
use Rattle.eip_exchange.specs.declared.setting.Policy.{Policy}
use Rattle.eip_exchange.specs.declared.setting.Strategy.{Strategy}
use Rattle.eip_exchange.specs.declared.setting.Strategy.TheVariants as strategy
use Rattle.eip_text.specs.Names.{is_name, is_alphanumeric}
use Rattle.eip_simple_read.specs.declared.tree.Predicate.{Predicate}
use Rattle.eip_uri.specs.Inlets.{inlet_of}
use Rattle.eip_uri.specs.Ranges.{is_uri, is_between}
use Rattle.eip_uri.specs.Sides.{is_consumer, is_producer}
use Rattle.eip_uri.specs.declared.uri.Uri.{Uri}
use Rattle.eip_route.specs.Faults.{set_fault, outer_numbers, steps_numbers, steps_of}
use Rattle.eip_route.specs.Goals.{is_among, lane_of}
use Rattle.eip_route.specs.Nest.{own_repository, step_numbers}
use Rattle.eip_route.specs.declared.route.Block.{Block}
use Rattle.eip_route.specs.declared.route.Handler.{Handler}
use Rattle.eip_route.specs.declared.route.Names.{Names}
use Rattle.eip_route.specs.declared.route.Route.{Route}
use Rattle.eip_route.specs.declared.route.RouteSet.{RouteSet}
use Rattle.eip_route.specs.declared.step.Aggregate.{Aggregate}
use Rattle.eip_route.specs.declared.step.Catch.{Catch}
use Rattle.eip_route.specs.declared.step.Check.{Check}
use Rattle.eip_route.specs.declared.step.Check.TheVariants as check
use Rattle.eip_route.specs.declared.step.Expr.{Expr}
use Rattle.eip_route.specs.declared.step.Expr.TheVariants as expr
use Rattle.eip_route.specs.declared.step.Fan.{Fan}
use Rattle.eip_route.specs.declared.step.Step.{Step}
use Rattle.eip_route.specs.declared.step.Step.TheVariants as step

-- ---- ranges

-- within the range, where it is given
abbrev pub is_given_between : ℕ → ℕ → Option ℕ → Bool
is_given_between low high None = true
is_given_between low high (Some n) = is_between low high n

abbrev pub is_policy : Policy → Bool
is_policy p = (is_given_between 0 1000 p.maximum && is_given_between 0 1000000000 p.delay) && (is_given_between 1 100 p.multiplier && is_given_between 0 1000000000 p.greatest)

abbrev pub is_filled : {A : Type 0} → List A → Bool
is_filled xs = nat_le 1 (length xs)

-- a byte that may stand in a kind of fault
abbrev pub is_kind_byte : ℕ → Bool
is_kind_byte b = is_alphanumeric b || ((b == 95) || ((b == 45) || (b == 36)))

-- a kind of fault that a step may raise: 1 to 64 ASCII letters, digits, `_`, `-` and `$`
unfoldable pub is_kind : List ℕ → Bool
is_kind bs = (nat_le 1 (length bs) && nat_le (length bs) 64) && list_all is_kind_byte bs

abbrev pub is_given_name : Option (List ℕ) → Bool
is_given_name None = true
is_given_name (Some name) = is_name name

abbrev pub is_expr : Expr → Bool
is_expr (expr.Simple template) = true
is_expr (expr.Constant text) = true
is_expr (expr.Header name) = is_name name
is_expr (expr.Property name) = is_name name

abbrev pub is_token : How → Bool
is_token (how.Token token) = is_filled token
is_token how.JsonArray = true
is_token (how.Batch k) = false

-- the parts of a fan-out aren't packed
abbrev pub is_fan_strategy : Option Strategy → Bool
is_fan_strategy (Some strategy.Batch) = false
is_fan_strategy _ = true

abbrev pub is_fan : Fan → Bool
is_fan fan = is_fan_strategy fan.strategy

-- a group takes its messages as they come: there is none before the first
abbrev pub is_group_strategy : Strategy → Bool
is_group_strategy strategy.Original = false
is_group_strategy strategy.Latest = true
is_group_strategy (strategy.Joined between) = true
is_group_strategy strategy.Grouped = true
is_group_strategy strategy.Sum = true
is_group_strategy strategy.Batch = false

-- a group is closed by something
abbrev pub is_completed : Option ℕ → Option ℕ → Option Predicate → Bool → Bool
is_completed size timeout predicate force = (is_some size || is_some timeout) || (is_some predicate || force)

abbrev pub is_aggregate : Aggregate → Bool
is_aggregate a = ((is_expr a.key && is_group_strategy a.strategy) && (is_given_between 1 1000000 a.size && is_given_between 1 1000000000 a.timeout)) && is_completed a.size a.timeout a.predicate a.force

-- ---- batches

-- what the messages of a batch are put in order by
abbrev pub is_key : Key → Bool
is_key key.Body = true
is_key (key.Header name) = is_name name
is_key (key.Property name) = is_name name

abbrev pub is_plain_fan : Fan → Bool
is_plain_fan fan = is_none fan.strategy && (not fan.parallel && (not fan.stop && not fan.share))

-- a split by itself, and one of a batch
abbrev pub is_split : How → Fan → Bool
is_split (how.Batch k) fan = is_key k && is_plain_fan fan
is_split h fan = is_token h && is_fan fan

abbrev pub is_batch_key : Expr → Bool
is_batch_key (expr.Constant text) = bytes_eq text (codes "batch")
is_batch_key _ = false

abbrev pub is_needed_between : ℕ → ℕ → Option ℕ → Bool
is_needed_between low high None = false
is_needed_between low high (Some n) = is_between low high n

-- the setting of an aggregator that makes batches
abbrev pub is_batching : Aggregate → Bool
is_batching a = (is_batch_key a.key && is_none a.predicate) && ((is_needed_between 1 1000 a.size && is_needed_between 1 1000000000 a.timeout) && a.force)

abbrev pub is_batch_strategy : Strategy → Bool
is_batch_strategy strategy.Batch = true
is_batch_strategy _ = false

abbrev pub is_gathering : Aggregate → Bool
is_gathering a = cond (is_batch_strategy a.strategy) (is_batching a) (is_aggregate a)

-- ---- repositories

-- a repository that is named, or the own one of the block
abbrev pub is_repository : ℕ → List ℕ → Bool
is_repository b repository = is_name repository || bytes_eq repository (own_repository b)

-- ---- what is handed in

abbrev pub is_given_among : Option (List ℕ) → List (List ℕ) → Bool
is_given_among None names = true
is_given_among (Some name) names = is_among name names

-- the lane of a target
abbrev pub has_lane : Names → Uri → Bool
has_lane names u = is_given_among (lane_of u) names.lanes

-- an endpoint at `from`, with its inlet
abbrev pub is_source : Names → Uri → Bool
is_source names u = (is_uri u && is_consumer u) && is_given_among (inlet_of u) names.inlets

-- an endpoint at `to`, with its lane
abbrev pub is_target : Names → Uri → Bool
is_target names u = (is_uri u && is_producer u) && has_lane names u

-- a dead letter channel's endpoint, where there is one
abbrev pub is_dead : Names → Option Uri → Bool
is_dead names None = true
is_dead names (Some u) = is_target names u

abbrev pub is_check : Names → Check → Bool
is_check names (check.Simple predicate) = true
is_check names (check.Fixed flag) = true
is_check names (check.Stored name) = is_among name names.predicates

abbrev pub are_cases : Names → List (Check × ℕ) → Bool
are_cases names [] = true
are_cases names (c ∷ cs) = is_check names c.0 && are_cases names cs

abbrev pub is_given_check : Names → Option Check → Bool
is_given_check names None = true
is_given_check names (Some c) = is_check names c

abbrev pub is_catch : Names → Catch → Bool
is_catch names c = is_filled c.names && is_given_check names c.when

abbrev pub are_catches : Names → List Catch → Bool
are_catches names [] = true
are_catches names (c ∷ cs) = is_catch names c && are_catches names cs

-- ---- steps, and what holds them

abbrev pub is_step : Names → Step → Bool
is_step names (step.SetBody value) = is_expr value
is_step names (step.SetHeader name value) = is_name name && is_expr value
is_step names (step.SetProperty name value) = is_name name && is_expr value
is_step names (step.RemoveHeader name) = is_name name
is_step names (step.To u) = is_target names u
is_step names (step.Log name message) = is_given_name name
is_step names (step.Throw kind message) = is_kind kind
is_step names (step.Process name) = is_among name names.processors
is_step names (step.Choice cases otherwise) = is_filled cases && are_cases names cases
is_step names (step.Filter check b) = is_check names check
is_step names (step.Split h fan b) = is_split h fan
is_step names (step.Multicast fan bs) = is_filled bs && is_fan fan
is_step names (step.Recipients addresses delimiter fan) = (is_expr addresses && is_filled delimiter) && is_fan fan
is_step names (step.Aggregate a) = is_gathering a
is_step names (step.Idempotent key repository skip eager remove b) = is_expr key && is_repository b repository
is_step names (step.Try b catches finish) = are_catches names catches

abbrev pub are_steps : Names → List Step → Bool
are_steps names [] = true
are_steps names (s ∷ ss) = is_step names s && are_steps names ss

abbrev pub is_route : Names → Route → Bool
is_route names r = is_name r.id && is_source names r.from

abbrev pub is_handler : Names → Handler → Bool
is_handler names h = is_dead names h.dead && is_policy h.policy

abbrev pub is_clause : Clause → Bool
is_clause c = is_filled c.names && is_policy c.policy

-- ---- which steps name a batch

-- the aggregator that gathers one
abbrev pub gathers_batch : Step → Bool
gathers_batch (step.Aggregate a) = is_batch_strategy a.strategy
gathers_batch _ = false

-- and the split into its messages, which is the one step of a block
abbrev pub splits_batch : Step → Bool
splits_batch (step.Split (how.Batch k) fan b) = true
splits_batch _ = false

abbrev pub is_batch_block : List Step → Bool
is_batch_block (s ∷ []) = splits_batch s
is_batch_block _ = false

-- the block of this number is a batch's
abbrev pub is_batch_at : List Block → ℕ → Bool
is_batch_at bs n = is_batch_block (steps_of (slice_get bs n))

-- the blocks of a step are batches' exactly where it gathers one
abbrev pub HoldsBatches : List Block → Step → Type 0
HoldsBatches bs s = All (λ n. is_batch_at bs n ≡ gathers_batch s) (step_numbers s)

-- the numbers of all blocks, by the places at which they stand
abbrev pub blocks_numbers : List Block → List ℕ
blocks_numbers [] = []
blocks_numbers (b ∷ bs) = steps_numbers b.steps ++ blocks_numbers bs

abbrev pub places : RouteSet → List ℕ
places s = outer_numbers s ++ blocks_numbers s.blocks

pub record IsValid (s : RouteSet) : Type 0 where
  pub checked : set_fault s ≡ None
  pub routes : All (λ r. is_route s.names r ≡ true) s.routes
  pub handler : is_handler s.names s.handler ≡ true
  pub clauses : All (λ c. is_clause c ≡ true) s.clauses
  pub blocks : All (λ b. are_steps s.names b.steps ≡ true) s.blocks
  -- each block stands in exactly one place
  pub placed : (n : ℕ) → n < length s.blocks → count_by (nat_eq n) (places s) ≡ 1
  -- the split of a batch stands alone in the block of the aggregator that gathers it, and nowhere else
  pub gathered : All (λ b. All (λ t. HoldsBatches s.blocks t) b.steps) s.blocks
  pub alone : All (λ b. list_any splits_batch b.steps ≡ is_batch_block b.steps) s.blocks
  pub outside : All (λ n. is_batch_at s.blocks n ≡ false) (outer_numbers s)
