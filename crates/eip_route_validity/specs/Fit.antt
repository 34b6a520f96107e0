-- What holds of the steps that a route file without a fault says, where these names are handed in and so many blocks stand around them.
use Rattle.std.specs.Prelude.{◌≡◌, ℕ, Bool, ◌+◌, ◌<◌, ◌≤◌, true, false, ◌&&◌, length, List, [], ◌∷◌, Option, Some, None, Ok, bytes_eq, All}
use Rattle.eip_exchange.specs.declared.setting.How.TheVariants as how
use Rattle.eip_text.specs.Names.{is_name}
use Rattle.eip_simple_read.specs.Meaning.{template_of, predicate_of}
use Rattle.eip_simple_read.specs.Spelling.{template_text, predicate_text}
use Rattle.eip_simple_read.specs.declared.tree.Predicate.{Predicate}
use Rattle.eip_simple_read.specs.declared.tree.Template.{Template}
use Rattle.eip_uri.specs.Inlets.{inlet_of}
use Rattle.eip_uri.specs.Ranges.{is_uri, is_between}
use Rattle.eip_uri.specs.Sides.{is_consumer, is_producer}
use Rattle.eip_uri.specs.declared.uri.Uri.{Uri}
use Rattle.eip_route.specs.Faults.{same_consumer}
use Rattle.eip_route.specs.Goals.{is_among, lane_of}
use Rattle.eip_route.specs.Nest.{Gathering, Frame, chooses, filters, splits, multicasts, aggregates, runs_once, tries, Catching, HasGroups, NestedStep, NestedSteps, NestedGroups, NestedLast, NestedClause, NestedRoute, NestedSet, leaf, holds, none, more, no_group, group, count, no_last, last, batching}
use Rattle.eip_route.specs.Valid.{is_filled, is_fan, is_kind, is_completed, is_given_name, is_given_between, is_given_among, is_group_strategy, is_batch_strategy, is_policy, is_split}
use Rattle.eip_route.specs.declared.route.Handler.{Handler}
use Rattle.eip_route.specs.declared.route.Names.{Names}
use Rattle.eip_route.specs.declared.step.Check.{Check}
use Rattle.eip_route.specs.declared.step.Check.TheVariants as check
use Rattle.eip_route.specs.declared.step.Expr.{Expr}
use Rattle.eip_route.specs.declared.step.Expr.TheVariants as expr
use Rattle.eip_route.specs.declared.step.Step.{Step}
use Rattle.eip_route.specs.declared.step.Step.TheVariants as step

-- ---- what steps are made of

-- a template, and a predicate, that is read from its printed text
abbrev pub TemplateFits : Template → Type 0
TemplateFits t = template_of (template_text t) ≡ Ok t

abbrev pub PredicateFits : Predicate → Type 0
PredicateFits p = predicate_of (predicate_text p) ≡ Ok p

abbrev pub MayPredicateFit : Option Predicate → Type 0
MayPredicateFit None = Unit {0}
MayPredicateFit (Some p) = PredicateFits p

abbrev pub ExprFits : Expr → Type 0
ExprFits (expr.Simple template) = TemplateFits template
ExprFits (expr.Constant text) = Unit {0}
ExprFits (expr.Header name) = is_name name ≡ true
ExprFits (expr.Property name) = is_name name ≡ true

-- a Name under which something is handed in
abbrev pub Registered : List ℕ → List (List ℕ) → Type 0
Registered name names = (is_name name ≡ true) × (is_among name names ≡ true)

abbrev pub CheckFits : Names → Check → Type 0
CheckFits n (check.Simple predicate) = PredicateFits predicate
CheckFits n (check.Fixed flag) = Unit {0}
CheckFits n (check.Stored name) = Registered name n.predicates

-- an endpoint to which messages may go, and one at which a route may begin: the lane or inlet that it needs is handed in
abbrev pub TargetFits : Names → Uri → Type 0
TargetFits n u = (is_uri u ≡ true) × ((is_producer u ≡ true) × (is_given_among (lane_of u) n.lanes ≡ true))

abbrev pub SourceFits : Names → Uri → Type 0
SourceFits n u = (is_uri u ≡ true) × ((is_consumer u ≡ true) × (is_given_among (inlet_of u) n.inlets ≡ true))

pub record GatheringFits (g : Gathering) : Type 0 where
  pub key : ExprFits g.key
  pub strategy : is_group_strategy g.strategy ≡ true
  pub predicate : MayPredicateFit g.predicate
  pub size : is_given_between 1 1000000 g.size ≡ true
  pub timeout : is_given_between 1 1000000000 g.timeout ≡ true
  pub completed : is_completed g.size g.timeout g.predicate g.force ≡ true

-- the setting of an aggregator that makes batches
pub record BatchingFits (g : Gathering) : Type 0 where
  pub size : ℕ
  pub timeout : ℕ
  pub is : g ≡ batching size timeout
  pub small : is_between 1 1000 size ≡ true
  pub soon : is_between 1 1000000000 timeout ≡ true

-- that of one that makes batches, or of another
abbrev pub AnyGatheringFits : Bool → Gathering → Type 0
AnyGatheringFits true g = BatchingFits g
AnyGatheringFits false g = GatheringFits g

abbrev pub HasSteps : NestedSteps → Type 0
HasSteps none = ⊥
HasSteps (more s ss) = Unit {0}

abbrev pub ChecksFit : Names → List Check → Type 0
ChecksFit n [] = Unit {0}
ChecksFit n (c ∷ cs) = CheckFits n c × ChecksFit n cs

-- a check that may be absent
abbrev pub MayCheckFit : Names → Option Check → Type 0
MayCheckFit n None = Unit {0}
MayCheckFit n (Some c) = CheckFits n c

abbrev pub CatchFits : Names → Catching → Type 0
CatchFits n c = (is_filled c.names ≡ true) × MayCheckFit n c.when

abbrev pub CatchesFit : Names → List Catching → Type 0
CatchesFit n [] = Unit {0}
CatchesFit n (c ∷ cs) = CatchFits n c × CatchesFit n cs

-- ---- steps, inside d blocks

-- one more block may stand here: at most 16 stand in one another
abbrev pub Inside : ℕ → Type 0 → Type 0
Inside d Steps = (d < 16) × Steps

-- a step that holds no blocks
abbrev pub LeafFits : Names → Step → Type 0
LeafFits n (step.SetBody e) = ExprFits e
LeafFits n (step.SetHeader name e) = (is_name name ≡ true) × ExprFits e
LeafFits n (step.SetProperty name e) = (is_name name ≡ true) × ExprFits e
LeafFits n (step.RemoveHeader name) = is_name name ≡ true
LeafFits n (step.To u) = TargetFits n u
LeafFits n (step.Log name message) = (is_given_name name ≡ true) × TemplateFits message
LeafFits n (step.Throw kind message) = (is_kind kind ≡ true) × TemplateFits message
LeafFits n (step.Process name) = Registered name n.processors
LeafFits n (step.Recipients e delimiter fan) = ExprFits e × ((is_filled delimiter ≡ true) × (is_fan fan ≡ true))
LeafFits n _ = ⊥

-- the frame of one that holds blocks
abbrev pub FrameFits : Names → Frame → Type 0
FrameFits n (chooses cs l) = (is_filled cs ≡ true) × ChecksFit n cs
FrameFits n (filters check) = CheckFits n check
FrameFits n (splits h fan) = is_split h fan ≡ true
FrameFits n (multicasts fan) = is_fan fan ≡ true
FrameFits n (aggregates g) = AnyGatheringFits (is_batch_strategy g.strategy) g
FrameFits n (runs_once e name skip eager remove) = ExprFits e × (is_given_name name ≡ true)
FrameFits n (tries cs l) = CatchesFit n cs

-- each group is one step
abbrev pub AreBranches : NestedGroups → Type 0
AreBranches no_group = Unit {0}
AreBranches (group none gs) = ⊥
AreBranches (group (more s none) gs) = AreBranches gs
AreBranches (group (more s (more t ss)) gs) = ⊥

abbrev pub HasGroup : NestedGroups → Type 0
HasGroup no_group = ⊥
HasGroup (group ss gs) = Unit {0}

-- what is asked of the groups of a frame besides their number
abbrev pub GroupsSuit : Frame → NestedGroups → Type 0
GroupsSuit (multicasts fan) gs = HasGroup gs × AreBranches gs
GroupsSuit _ gs = Unit {0}

pub record FrameHolds (n : Names) (f : Frame) (gs : NestedGroups) : Type 0 where
  pub setting : FrameFits n f
  pub number : HasGroups f (count gs)
  pub suit : GroupsSuit f gs

abbrev mutual
  pub StepsFit : Names → ℕ → NestedSteps → Type 0
  StepsFit n d none = Unit {0}
  StepsFit n d (more s ss) = StepFits n d s × StepsFit n d ss

  pub StepFits : Names → ℕ → NestedStep → Type 0
  StepFits n d (leaf s) = LeafFits n s
  StepFits n d (holds f gs) = FrameHolds n f gs × GroupsFit n d gs

  pub GroupsFit : Names → ℕ → NestedGroups → Type 0
  GroupsFit n d no_group = Unit {0}
  GroupsFit n d (group ss gs) = Inside d (StepsFit n (d + 1) ss) × GroupsFit n d gs

-- ---- where batches stand

-- the frame of the split of a batch, and of the aggregator that gathers one
abbrev pub is_parts : Frame → Bool
is_parts (splits (how.Batch k) fan) = true
is_parts _ = false

abbrev pub gathers : Frame → Bool
gathers (aggregates g) = is_batch_strategy g.strategy
gathers _ = false

abbrev mutual
  pub AreBatched : NestedSteps → Type 0
  AreBatched none = Unit {0}
  AreBatched (more s ss) = IsBatched s × AreBatched ss

  pub IsBatched : NestedStep → Type 0
  IsBatched (leaf s) = Unit {0}
  IsBatched (holds f gs) = (is_parts f ≡ false) × GroupsBatched (gathers f) gs

  -- the groups of a frame, which gathers a batch or doesn't: the one block of a batch is its split, which stands nowhere else
  pub GroupsBatched : Bool → NestedGroups → Type 0
  GroupsBatched false no_group = Unit {0}
  GroupsBatched false (group ss gs) = AreBatched ss × GroupsBatched false gs
  GroupsBatched true (group (more (holds f (group ss no_group)) none) no_group) = (is_parts f ≡ true) × AreBatched ss
  GroupsBatched true _ = ⊥

abbrev pub LastBatched : NestedLast → Type 0
LastBatched no_last = Unit {0}
LastBatched (last ss) = AreBatched ss

-- ---- blocks

-- steps that may be absent
abbrev pub LastFits : Names → ℕ → NestedLast → Type 0
LastFits n d no_last = Unit {0}
LastFits n d (last ss) = Inside d (StepsFit n (d + 1) ss)

-- a block of these steps
abbrev pub BlockFits : Names → ℕ → NestedSteps → Type 0
BlockFits n d ss = Inside d (StepsFit n (d + 1) ss)

-- ---- the file

-- the steps of a clause are not empty
abbrev pub LastHasSteps : NestedLast → Type 0
LastHasSteps no_last = Unit {0}
LastHasSteps (last ss) = HasSteps ss

pub record ClauseFits (n : Names) (c : NestedClause) : Type 0 where
  pub names : is_filled c.names ≡ true
  pub policy : is_policy c.policy ≡ true
  pub one : c.handled && c.continued ≡ false
  pub filled : LastHasSteps c.steps
  pub steps : LastFits n 0 c.steps
  pub batched : LastBatched c.steps

abbrev pub DeadFits : Names → Option Uri → Type 0
DeadFits n None = Unit {0}
DeadFits n (Some u) = TargetFits n u

pub record HandlerFits (n : Names) (h : Handler) : Type 0 where
  pub dead : DeadFits n h.dead
  pub policy : is_policy h.policy ≡ true

pub record RouteFits (n : Names) (r : NestedRoute) : Type 0 where
  pub id : is_name r.id ≡ true
  pub from : SourceFits n r.from
  pub steps : BlockFits n 0 r.steps
  pub batched : AreBatched r.steps

-- no two of them have one id or one consumer
abbrev pub Apart : NestedRoute → NestedRoute → Type 0
Apart before r = (bytes_eq before.id r.id ≡ false) × (same_consumer before.from r.from ≡ false)

abbrev pub AreApart : List NestedRoute → Type 0
AreApart [] = Unit {0}
AreApart (r ∷ rs) = All (Apart r) rs × AreApart rs

pub record SetFits (n : Names) (s : NestedSet) : Type 0 where
  pub count : length s.routes ≤ 256
  pub routes : All (RouteFits n) s.routes
  pub apart : AreApart s.routes
  pub handler : HandlerFits n s.handler
  pub clauses : All (ClauseFits n) s.clauses
