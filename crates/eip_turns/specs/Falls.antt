-- What is left to do before the next request, as a number that falls with each turn.
use Rattle.std.specs.Prelude.{ℕ, ◌+◌, drop, Bool, true, false, List, [], ◌∷◌, Option, Some, None}
use Rattle.eip_exchange.specs.declared.setting.Clause.{Clause}
use Rattle.eip_route.specs.declared.step.Step.{Step}
use Rattle.eip_route.specs.declared.route.RouteSet.{RouteSet}
use Rattle.eip_meaning.specs.declared.context.Context.{Context}
use Rattle.eip_meaning.specs.Contexts.{has_handlers}
use Rattle.eip_meaning.specs.Meaning.{steps_of, block_of_route}
use Rattle.eip_progress.specs.declared.tried.Tried.{Tried}
use Rattle.eip_progress.specs.declared.tried.Tried.TheVariants as tried
use Rattle.eip_progress.specs.declared.frame.Task.{Task}
use Rattle.eip_progress.specs.declared.frame.Frame.{Frame}
use Rattle.eip_progress.specs.declared.frame.Frame.TheVariants as frame
use Rattle.eip_progress.specs.declared.frame.Now.{Now}
use Rattle.eip_progress.specs.declared.frame.Now.TheVariants as now
use Rattle.eip_progress.specs.Rest.{block_at}
use Rattle.eip_turns.specs.Weights.{weight_of_option, nested_weight, steps_weight, block_weight, nested_block}

abbrev pub clauses_weight : RouteSet → List Clause → ℕ
clauses_weight set [] = 2
clauses_weight set (k ∷ ks) = 2 + weight_of_option (block_weight set 0) k.block + clauses_weight set ks

-- what the handling of a fault may add
abbrev pub handling_weight : RouteSet → (handlers : Bool) → ℕ
handling_weight set true = clauses_weight set set.clauses
handling_weight set false = 0

abbrev pub handling_in : RouteSet → Context → ℕ
handling_in set c = handling_weight set (has_handlers c)

abbrev pub now_weight : RouteSet → Now → ℕ
now_weight set (now.Goes m) = 0
now_weight set (now.Stops e m) = 0
now_weight set (now.Waits w) = 0
now_weight set (now.Enters c b m) = 1 + block_weight set (handling_in set c) b
now_weight set (now.Handles handled continued f c b m) = 2 + weight_of_option (block_weight set (handling_in set c)) b
now_weight set (now.Letters c m) = 2 + handling_in set c

-- what a try leaves
abbrev pub tried_weight : RouteSet → Context → Task → Tried → ℕ
tried_weight set c t (tried.Goes m) = 0
tried_weight set c t (tried.Faults f again m) = handling_in set c
tried_weight set c t (tried.Asks x m) = 0
tried_weight set c t (tried.Enters j m) = 1 + nested_block set (handling_in set c) (block_at t) j
tried_weight set c t (tried.Calls r m) = 1 + block_weight set (handling_in set c) (block_of_route set r)

-- what a try of a step may leave
abbrev pub try_weight : RouteSet → Context → ℕ → Option Step → ℕ
try_weight set c b None = 0
try_weight set c b (Some s) = 1 + handling_in set c + nested_weight (nested_block set (handling_in set c) b) s

abbrev pub frame_weight : RouteSet → Frame → ℕ
frame_weight set (frame.Rest c b i) = steps_weight (handling_in set c) (nested_block set (handling_in set c) b) (drop i (steps_of set b))
frame_weight set (frame.Clause handled continued f) = 1
frame_weight set frame.Letter = 1

abbrev pub stack_weight : RouteSet → List Frame → ℕ
stack_weight set [] = 0
stack_weight set (f ∷ fs) = frame_weight set f + stack_weight set fs
