-- Steps as they nest, before their blocks have numbers: how blocks are numbered, and back from numbered blocks.
use Rattle.std.specs.Prelude.{◌≡◌, ℕ, Bool, true, false, cond, ◌+◌, nat_eq, length, List, [], ◌∷◌, ◌++◌, Option, Some, None, is_some, codes, decimal, bytes_eq}
use Rattle.eip_exchange.specs.declared.setting.Clause.{Clause}
use Rattle.eip_exchange.specs.declared.setting.How.{How}
use Rattle.eip_exchange.specs.declared.setting.How.TheVariants as how
use Rattle.eip_exchange.specs.declared.setting.Key.{Key}
use Rattle.eip_exchange.specs.declared.setting.Policy.{Policy}
use Rattle.eip_exchange.specs.declared.setting.Strategy.{Strategy}
use Rattle.eip_exchange.specs.declared.setting.Strategy.TheVariants as strategy
use Rattle.eip_simple_read.specs.declared.tree.Predicate.{Predicate}
use Rattle.eip_text.specs.Names.{is_name}
use Rattle.eip_uri.specs.declared.uri.Uri.{Uri}
use Rattle.eip_route.specs.declared.route.Block.{Block}
use Rattle.eip_route.specs.declared.route.Handler.{Handler}
use Rattle.eip_route.specs.declared.route.Names.{Names}
use Rattle.eip_route.specs.declared.route.Route.{Route}
use Rattle.eip_route.specs.declared.route.RouteSet.{RouteSet}
use Rattle.eip_route.specs.declared.step.Aggregate.{Aggregate}
use Rattle.eip_route.specs.declared.step.Catch.{Catch}
use Rattle.eip_route.specs.declared.step.Check.{Check}
use Rattle.eip_route.specs.declared.step.Expr.{Expr}
use Rattle.eip_route.specs.declared.step.Expr.TheVariants as expr
use Rattle.eip_route.specs.declared.step.Fan.{Fan}
use Rattle.eip_route.specs.declared.step.Step.{Step}
use Rattle.eip_route.specs.declared.step.Step.TheVariants as step

-- ---- nested

-- an aggregate's setting, without the number of its block
pub record Gathering : Type 0 where
  pub key : Expr
  pub strategy : Strategy
  pub predicate : Option Predicate
  pub size : Option ℕ
  pub timeout : Option ℕ
  pub force : Bool

-- what a catch takes, without the number of its block
pub record Catching : Type 0 where
  pub names : List (List ℕ)
  pub when : Option Check

-- a step that holds blocks, without them and their numbers
pub data Frame : Type 0 where
  -- the checks of its cases, and whether there is a block for where none of them holds
  chooses : List Check → Bool → Frame
  filters : Check → Frame
  splits : How → Fan → Frame
  multicasts : Fan → Frame
  aggregates : Gathering → Frame
  -- the key, the repository's name where one is given, and the flags skip, eager and remove
  runs_once : Expr → Option (List ℕ) → Bool → Bool → Bool → Frame
  -- what its catches take, and whether there is a last block; the first one is tried
  tries : List Catching → Bool → Frame

mutual
  pub data NestedStep : Type 0 where
    -- a step without blocks
    leaf : Step → NestedStep
    -- a step with a group of steps for each of its blocks
    holds : Frame → NestedGroups → NestedStep

  pub data NestedSteps : Type 0 where
    none : NestedSteps
    more : NestedStep → NestedSteps → NestedSteps

  pub data NestedGroups : Type 0 where
    no_group : NestedGroups
    group : NestedSteps → NestedGroups → NestedGroups

-- steps that may be absent
pub data NestedLast : Type 0 where
  no_last : NestedLast
  last : NestedSteps → NestedLast

pub record NestedClause : Type 0 where
  pub names : List (List ℕ)
  pub policy : Policy
  pub handled : Bool
  pub continued : Bool
  pub steps : NestedLast

pub record NestedRoute : Type 0 where
  pub id : List ℕ
  pub from : Uri
  pub steps : NestedSteps

-- the routes of a file and what holds for the whole file
pub record NestedSet : Type 0 where
  pub routes : List NestedRoute
  pub handler : Handler
  pub clauses : List NestedClause

abbrev pub count : NestedGroups → ℕ
count no_group = 0
count (group ss gs) = count gs + 1

-- ---- batches: a resequencer is an aggregator whose block is a split into its messages

-- the parts of a batch run one behind the other
abbrev pub plain_fan : Fan
plain_fan = record { strategy = None; parallel = false; stop = false; share = false }

-- a group of at most so many messages, which closes so many ticks behind the last one, or where nothing else is left to do
abbrev pub batching : ℕ → ℕ → Gathering
batching size timeout = record { key = expr.Constant (codes "batch"); strategy = strategy.Batch; predicate = None; size = Some size; timeout = Some timeout; force = true }

-- the split into the messages, in the order of this key, of which each runs these steps
abbrev pub batch_split : Key → NestedSteps → NestedSteps
batch_split k ss = more (holds (splits (how.Batch k) plain_fan) (group ss no_group)) none

abbrev pub batch_groups : Key → NestedSteps → NestedGroups
batch_groups k ss = group (batch_split k ss) no_group

-- ---- frames, and the steps that they are with the numbers of their blocks

abbrev pub of_last : Bool → ℕ
of_last true = 1
of_last false = 0

-- so many groups may stand in this frame
abbrev pub HasGroups : Frame → ℕ → Type 0
HasGroups (chooses cs l) k = k ≡ length cs + of_last l
HasGroups (multicasts fan) k = Unit {0}
HasGroups (tries cs l) k = k ≡ length cs + of_last l + 1
HasGroups _ k = k ≡ 1

-- a repository that is named has a Name
abbrev pub IsNamed : Option (List ℕ) → Type 0
IsNamed None = Unit {0}
IsNamed (Some name) = is_name name ≡ true

abbrev pub FrameNamed : Frame → Type 0
FrameNamed (runs_once e name skip eager remove) = IsNamed name
FrameNamed _ = Unit {0}

-- 0 where there is none
abbrev pub first_of : List ℕ → ℕ
first_of [] = 0
first_of (n ∷ ns) = n

abbrev pub rest_of : {A : Type 0} → List A → List A
rest_of [] = []
rest_of (x ∷ xs) = xs

-- what stands behind as many as these
abbrev pub past : {A B : Type 0} → List A → List B → List B
past [] ys = ys
past (x ∷ xs) ys = past xs (rest_of ys)

-- cases of these checks, whose blocks have these numbers
abbrev pub cases_with : List Check → List ℕ → List (Check × ℕ)
cases_with [] ns = []
cases_with (c ∷ cs) ns = (c, first_of ns) ∷ cases_with cs (rest_of ns)

abbrev pub last_with : Bool → List ℕ → Option ℕ
last_with false ns = None
last_with true ns = Some (first_of ns)

abbrev pub checks_of : List (Check × ℕ) → List Check
checks_of [] = []
checks_of (c ∷ cs) = c.0 ∷ checks_of cs

abbrev pub catch_with : Catching → ℕ → Catch
catch_with c n = record { names = c.names; when = c.when; block = n }

-- catches that take these, whose blocks have these numbers
abbrev pub catches_with : List Catching → List ℕ → List Catch
catches_with [] ns = []
catches_with (c ∷ cs) ns = catch_with c (first_of ns) ∷ catches_with cs (rest_of ns)

abbrev pub catching : Catch → Catching
catching c = record { names = c.names; when = c.when }

abbrev pub catchings_of : List Catch → List Catching
catchings_of [] = []
catchings_of (c ∷ cs) = catching c ∷ catchings_of cs

abbrev pub with_block : Gathering → ℕ → Aggregate
with_block g n = record { key = g.key; strategy = g.strategy; predicate = g.predicate; size = g.size; timeout = g.timeout; force = g.force; block = n }

abbrev pub without_block : Aggregate → Gathering
without_block a = record { key = a.key; strategy = a.strategy; predicate = a.predicate; size = a.size; timeout = a.timeout; force = a.force }

-- the repository of an idempotent consumer that names none: its own, by the number of its block
unfoldable pub own_repository : ℕ → List ℕ
own_repository n = codes "#" ++ decimal n

abbrev pub repository_of : ℕ → Option (List ℕ) → List ℕ
repository_of n None = own_repository n
repository_of n (Some name) = name

-- the name of a repository, or none where it is the block's own
abbrev pub name_given : ℕ → List ℕ → Option (List ℕ)
name_given b repository = cond (bytes_eq repository (own_repository b)) None (Some repository)

-- the step of a frame whose blocks have these numbers
abbrev pub fill : Frame → List ℕ → Step
fill (chooses cs l) ns = step.Choice (cases_with cs ns) (last_with l (past cs ns))
fill (filters check) ns = step.Filter check (first_of ns)
fill (splits how fan) ns = step.Split how fan (first_of ns)
fill (multicasts fan) ns = step.Multicast fan ns
fill (aggregates g) ns = step.Aggregate (with_block g (first_of ns))
fill (runs_once e name skip eager remove) ns = step.Idempotent e (repository_of (first_of ns) name) skip eager remove (first_of ns)
fill (tries cs l) ns = step.Try (first_of ns) (catches_with cs (rest_of ns)) (last_with l (past cs (rest_of ns)))

-- the numbers of the blocks that stand in something, in their order

abbrev pub last_number : Option ℕ → List ℕ
last_number None = []
last_number (Some n) = n ∷ []

abbrev pub case_numbers : List (Check × ℕ) → List ℕ
case_numbers [] = []
case_numbers (c ∷ cs) = c.1 ∷ case_numbers cs

abbrev pub catch_numbers : List Catch → List ℕ
catch_numbers [] = []
catch_numbers (c ∷ cs) = c.block ∷ catch_numbers cs

-- the try block, those of its catches, and the last one
abbrev pub try_numbers : ℕ → List Catch → Option ℕ → List ℕ
try_numbers b catches finish = b ∷ (catch_numbers catches ++ last_number finish)

-- and back: the frame of a step and the numbers of its blocks, where it holds blocks
abbrev pub held : Step → Option (Frame × List ℕ)
held (step.Choice cases l) = Some (chooses (checks_of cases) (is_some l), case_numbers cases ++ last_number l)
held (step.Filter check b) = Some (filters check, b ∷ [])
held (step.Split how fan b) = Some (splits how fan, b ∷ [])
held (step.Multicast fan bs) = Some (multicasts fan, bs)
held (step.Aggregate a) = Some (aggregates (without_block a), a.block ∷ [])
held (step.Idempotent e repository skip eager remove b) = Some (runs_once e (name_given b repository) skip eager remove, b ∷ [])
held (step.Try b catches l) = Some (tries (catchings_of catches) (is_some l), try_numbers b catches l)
held _ = None

abbrev pub numbers_in : Option (Frame × List ℕ) → List ℕ
numbers_in None = []
numbers_in (Some r) = r.1

-- the numbers of the blocks that stand in a step
unfoldable pub step_numbers : Step → List ℕ
step_numbers s = numbers_in (held s)

-- ---- numbered: each with the blocks nested in it, in their order

pub record FlatStep : Type 0 where
  pub step : Step
  pub blocks : List Block

pub record FlatSteps : Type 0 where
  pub steps : List Step
  pub blocks : List Block

pub record FlatGroups : Type 0 where
  pub numbers : List ℕ
  pub blocks : List Block

pub record FlatClauses : Type 0 where
  pub clauses : List Clause
  pub blocks : List Block

pub record FlatRoutes : Type 0 where
  pub routes : List Route
  pub blocks : List Block

-- a block of these steps, before those nested in it
abbrev pub headed : FlatSteps → List Block
headed r = record { steps = r.steps } ∷ r.blocks

abbrev pub first_step : ℕ → FlatStep → (ℕ → FlatSteps) → FlatSteps
first_step n s next =
    let r = next (n + length s.blocks) in
    record { steps = s.step ∷ r.steps; blocks = s.blocks ++ r.blocks }

abbrev pub first_group : ℕ → List Block → (ℕ → FlatGroups) → FlatGroups
first_group n blocks next =
    let r = next (n + length blocks) in
    record { numbers = n ∷ r.numbers; blocks = blocks ++ r.blocks }

-- the number of a block that may be absent
abbrev pub number_of : ℕ → List Block → Option ℕ
number_of n [] = None
number_of n (b ∷ bs) = Some n

abbrev pub flat_frame : Frame → FlatGroups → FlatStep
flat_frame f r = record { step = fill f r.numbers; blocks = r.blocks }

-- nested blocks have the numbers from n
abbrev mutual
  pub flat_steps : ℕ → NestedSteps → FlatSteps
  flat_steps n none = record { steps = []; blocks = [] }
  flat_steps n (more s ss) = first_step n (flat_step n s) (λ m. flat_steps m ss)

  pub flat_step : ℕ → NestedStep → FlatStep
  flat_step n (leaf s) = record { step = s; blocks = [] }
  flat_step n (holds f gs) = flat_frame f (flat_groups n gs)

  pub flat_groups : ℕ → NestedGroups → FlatGroups
  flat_groups n no_group = record { numbers = []; blocks = [] }
  flat_groups n (group ss gs) = first_group n (headed (flat_steps (n + 1) ss)) (λ m. flat_groups m gs)

abbrev pub flat_last : ℕ → NestedLast → List Block
flat_last n no_last = []
flat_last n (last ss) = headed (flat_steps (n + 1) ss)

-- the block of these steps, with the number n, and those nested in it
abbrev pub flat_block : ℕ → NestedSteps → List Block
flat_block n ss = headed (flat_steps (n + 1) ss)

abbrev pub first_clause : ℕ → NestedClause → List Block → (ℕ → FlatClauses) → FlatClauses
first_clause n c blocks next =
    let r = next (n + length blocks) in
    let first : Clause = record { names = c.names; policy = c.policy; handled = c.handled; continued = c.continued; block = number_of n blocks } in
    record { clauses = first ∷ r.clauses; blocks = blocks ++ r.blocks }

abbrev pub flat_clauses : ℕ → List NestedClause → FlatClauses
flat_clauses n [] = record { clauses = []; blocks = [] }
flat_clauses n (c ∷ cs) = first_clause n c (flat_last n c.steps) (λ m. flat_clauses m cs)

abbrev pub first_route : ℕ → NestedRoute → List Block → (ℕ → FlatRoutes) → FlatRoutes
first_route n x blocks next =
    let r = next (n + length blocks) in
    let first : Route = record { id = x.id; from = x.from; block = n } in
    record { routes = first ∷ r.routes; blocks = blocks ++ r.blocks }

abbrev pub flat_routes : ℕ → List NestedRoute → FlatRoutes
flat_routes n [] = record { routes = []; blocks = [] }
flat_routes n (x ∷ xs) = first_route n x (flat_block n x.steps) (λ m. flat_routes m xs)

-- the set of these routes: the clauses' blocks stand before those of the routes
abbrev pub flat_set : Names → NestedSet → RouteSet
flat_set names s =
    let cs = flat_clauses 0 s.clauses in
    let rs = flat_routes (length cs.blocks) s.routes in
    record { names = names; routes = rs.routes; blocks = cs.blocks ++ rs.blocks; handler = s.handler; clauses = cs.clauses }

-- ---- and back: `nested` gives the steps of a block by its number

abbrev pub un_groups : (ℕ → NestedSteps) → List ℕ → NestedGroups
un_groups nested [] = no_group
un_groups nested (n ∷ ns) = group (nested n) (un_groups nested ns)

abbrev pub un_held : (ℕ → NestedSteps) → Step → Option (Frame × List ℕ) → NestedStep
un_held nested s None = leaf s
un_held nested s (Some r) = holds r.0 (un_groups nested r.1)

abbrev pub un_step : (ℕ → NestedSteps) → Step → NestedStep
un_step nested s = un_held nested s (held s)

abbrev pub un_last : (ℕ → NestedSteps) → Option ℕ → NestedLast
un_last nested None = no_last
un_last nested (Some b) = last (nested b)

abbrev pub un_steps : (ℕ → NestedSteps) → List Step → NestedSteps
un_steps nested [] = none
un_steps nested (s ∷ ss) = more (un_step nested s) (un_steps nested ss)

-- the steps of block j among these blocks, of which the first has the number `here`; the blocks nested in it stand behind it
unfoldable pub un_block : ℕ → List Block → ℕ → NestedSteps
un_block here [] j = none
un_block here (b ∷ bs) j = cond (nat_eq j here) (un_steps (λ i. un_block (here + 1) bs i) b.steps) (un_block (here + 1) bs j)

abbrev pub un_clauses : List Block → List Clause → List NestedClause
un_clauses bs [] = []
un_clauses bs (c ∷ cs) = record { names = c.names; policy = c.policy; handled = c.handled; continued = c.continued; steps = un_last (un_block 0 bs) c.block } ∷ un_clauses bs cs

abbrev pub un_routes : List Block → List Route → List NestedRoute
un_routes bs [] = []
un_routes bs (r ∷ rs) = record { id = r.id; from = r.from; steps = un_block 0 bs r.block } ∷ un_routes bs rs

abbrev pub un_set : RouteSet → NestedSet
un_set s = record { routes = un_routes s.blocks s.routes; handler = s.handler; clauses = un_clauses s.blocks s.clauses }
