-- What an answer that is no fault gives at a step, as data.
use Rattle.std.specs.Prelude.{ℕ, zero, suc, Bool, true, cond, ◌&&◌, is_some, List, [], ◌∷◌, ◌++◌, drop, slice_get, Option, Some, None, unwrap_or, Result, Ok, Err}
use Rattle.std.specs.List.{list_any}
use Rattle.eip_exchange.specs.declared.message.Message.{Message}
use Rattle.eip_exchange.specs.declared.end.Fault.{Fault}
use Rattle.eip_exchange.specs.declared.end.Ended.{Ended}
use Rattle.eip_exchange.specs.declared.setting.Strategy.{Strategy}
use Rattle.eip_exchange.specs.declared.setting.Strategy.TheVariants as strategy
use Rattle.eip_strategy.specs.declared.fault.StrategyFault.{StrategyFault}
use Rattle.eip_uri.specs.declared.uri.Uri.{Uri}
use Rattle.eip_route.specs.Goals.{goal_of}
use Rattle.eip_route.specs.Faults.{next_number}
use Rattle.eip_route.specs.declared.goal.Goal.{Goal}
use Rattle.eip_route.specs.declared.goal.Goal.TheVariants as goal
use Rattle.eip_route.specs.declared.route.RouteSet.{RouteSet}
use Rattle.eip_route.specs.declared.step.Catch.{Catch}
use Rattle.eip_route.specs.declared.step.Check.{Check}
use Rattle.eip_route.specs.declared.step.Step.{Step}
use Rattle.eip_route.specs.declared.step.Step.TheVariants as step
use Rattle.eip_frames.specs.declared.request.Seed.{Seed}
use Rattle.eip_frames.specs.declared.request.Request.TheVariants as request
use Rattle.eip_frames.specs.declared.answer.Answer.{Answer as Reply}
use Rattle.eip_meaning.specs.declared.context.Context.{Context}
use Rattle.eip_meaning.specs.Values.{with_content, duplicate_message}
use Rattle.eip_meaning.specs.Checks.{held}
use Rattle.eip_meaning.specs.Parts.{first_born, count_born, parts_in, first_fault, fault_of_end, or_fault, fault_of_strategy, messages_of, made_one}
use Rattle.eip_meaning.specs.Tries.{names_kind}
use Rattle.eip_meaning.specs.Steps.{became, is_fresh}
use Rattle.eip_progress.specs.declared.tried.Progress.{Progress}
use Rattle.eip_progress.specs.declared.tried.Progress.TheVariants as progress
use Rattle.eip_progress.specs.declared.tried.Tried.{Tried}
use Rattle.eip_progress.specs.declared.tried.Tried.TheVariants as tried
use Rattle.eip_progress.specs.Tries.{asked}
use Rattle.eip_progress.specs.FirstTry.{faults, unless_tried, check_tried, nested_if, choice_tried, part_tried}

-- ---- sends and choices

abbrev pub goal_on : Goal → Message → Tried
goal_on (goal.Direct r) m = tried.Calls r m
goal_on (goal.Queue r) m = tried.Goes m
goal_on goal.Lane m = tried.Goes m
goal_on goal.Log m = tried.Goes m
goal_on goal.NoConsumer m = tried.Goes m

abbrev pub to_on : RouteSet → Uri → Message → Tried
to_on set u m = goal_on (goal_of set u) m

-- the check of the case at index k has been answered
abbrev pub case_held : RouteSet → Context → ℕ → List (Check × ℕ) → Option ℕ → Option (Check × ℕ) → (holds : Bool) → Message → Tried
case_held set c k cases otherwise None holds m = tried.Goes m
case_held set c k cases otherwise (Some x) holds m = cond holds (tried.Enters x.1 m) (choice_tried set c (suc k) (drop (suc k) cases) otherwise m)

abbrev pub choice_on : RouteSet → Context → List (Check × ℕ) → Option ℕ → Progress → Message → Reply → Tried
choice_on set c cases otherwise (progress.Choosing k) m a = case_held set c k cases otherwise (slice_get cases k) (held a) m
choice_on set c cases otherwise _ m a = tried.Goes m

-- ---- keys

abbrev pub key_on : (skip : Bool) → ℕ → Message → Reply → Tried
key_on skip b m a = cond (is_fresh a) (tried.Enters b m) (cond skip (tried.Goes (duplicate_message m)) (tried.Enters b (duplicate_message m)))

-- ---- fan-outs

abbrev pub taken_tried : Result (Option Message) StrategyFault → Message → Tried
taken_tried (Ok None) m = tried.Goes m
taken_tried (Ok (Some new)) m = tried.Goes (with_content m new)
taken_tried (Err f) m = faults (fault_of_strategy f) m

abbrev pub join_tried : Strategy → List Ended → Message → Tried
join_tried s parts m = unless_tried (first_fault parts) m (taken_tried (made_one s m (messages_of parts)) m)

-- the next one of the seeds that are left, or all have ended
abbrev pub next_seed : Strategy → List Ended → ℕ → List Seed → Message → Tried
next_seed s ended k [] m = join_tried s ended m
next_seed s ended k (x ∷ xs) m = asked (progress.Spawning k ended xs) (request.Spawn (x ∷ [])) k m

abbrev pub next_tried : Strategy → (stop : Bool) → List Ended → ℕ → List Seed → List Ended → Message → Tried
next_tried s stop ended k left parts m =
    cond (stop && is_some (first_fault parts)) (join_tried s (ended ++ parts) m) (next_seed s (ended ++ parts) (next_number k) left m)

abbrev pub fan_on : Strategy → (stop : Bool) → Progress → Message → Reply → Tried
fan_on s stop progress.SpawningAll m a = asked progress.JoiningAll (request.Join (first_born a) (count_born a)) 0 m
fan_on s stop progress.JoiningAll m a = join_tried s (parts_in a) m
fan_on s stop (progress.Spawning k ended left) m a = asked (progress.Joining k ended left) (request.Join (first_born a) (count_born a)) k m
fan_on s stop (progress.Joining k ended left) m a = next_tried s stop ended k left (parts_in a) m
fan_on s stop _ m a = tried.Goes m

-- ---- doTry

abbrev pub ends_tried : Option Fault → Message → Message → Tried
ends_tried pending latest m = unless_tried pending m (tried.Goes (with_content m latest))

abbrev pub finally_tried : Option ℕ → Option Fault → Message → Message → Tried
finally_tried None pending latest m = ends_tried pending latest m
finally_tried (Some b) pending latest m = part_tried 2 pending b latest m

abbrev pub when_tried : RouteSet → Context → Option Check → Progress → Message → Message → (Bool → Tried) → Tried
when_tried set c None g x m k = k true
when_tried set c (Some check) g x m k = check_tried set c check g x m k

-- from the catch at index k on
abbrev pub catches_tried : RouteSet → Context → Option ℕ → ℕ → List Catch → Fault → Message → Message → Tried
catches_tried set c finish k [] f x m = finally_tried finish (Some f) x m
catches_tried set c finish k (y ∷ ys) f x m =
    cond (list_any (names_kind f.kind) y.names)
    (when_tried set c y.when (progress.Testing k f x) x m (λ holds. cond holds (part_tried 1 None y.block x m) (catches_tried set c finish (suc k) ys f x m)))
    (catches_tried set c finish (suc k) ys f x m)

abbrev pub block_left : RouteSet → Context → List Catch → Option ℕ → Option Fault → Message → Message → Tried
block_left set c catches finish None x m = finally_tried finish None x m
block_left set c catches finish (Some f) x m = catches_tried set c finish 0 catches f x m

-- the part with this index has ended
abbrev pub part_left : RouteSet → Context → List Catch → Option ℕ → (index : ℕ) → Option Fault → Ended → Message → Tried
part_left set c catches finish zero pending e m = block_left set c catches finish (fault_of_end e.end) e.message m
part_left set c catches finish (suc zero) pending e m = finally_tried finish (fault_of_end e.end) e.message m
part_left set c catches finish (suc (suc k)) pending e m = ends_tried (or_fault (fault_of_end e.end) pending) e.message m

abbrev pub only_left : RouteSet → Context → List Catch → Option ℕ → (index : ℕ) → Option Fault → List Ended → Message → Tried
only_left set c catches finish k pending [] m = tried.Goes m
only_left set c catches finish k pending (e ∷ es) m = part_left set c catches finish k pending e m

-- the check of the catch at index k has been answered
abbrev pub catch_held : RouteSet → Context → List Catch → Option ℕ → ℕ → Option Catch → (holds : Bool) → Fault → Message → Message → Tried
catch_held set c catches finish k None holds f x m = tried.Goes m
catch_held set c catches finish k (Some y) holds f x m = cond holds (part_tried 1 None y.block x m) (catches_tried set c finish (suc k) (drop (suc k) catches) f x m)

abbrev pub try_on : RouteSet → Context → List Catch → Option ℕ → Progress → Message → Reply → Tried
try_on set c catches finish (progress.Entering k pending) m a = asked (progress.Leaving k pending) (request.Join (first_born a) (count_born a)) k m
try_on set c catches finish (progress.Leaving k pending) m a = only_left set c catches finish k pending (parts_in a) m
try_on set c catches finish (progress.Testing k f x) m a = catch_held set c catches finish k (slice_get catches k) (held a) f x m
try_on set c catches finish _ m a = tried.Goes m

-- ---- a step

abbrev pub going_on : RouteSet → Context → Step → Progress → Message → Reply → Tried
going_on set c (step.To u) p m a = to_on set u m
going_on set c (step.Process name) p m a = tried.Goes (became m a)
going_on set c (step.Choice cases otherwise) p m a = choice_on set c cases otherwise p m a
going_on set c (step.Filter check b) p m a = nested_if (held a) b m
going_on set c (step.Split how fan b) p m a = fan_on (unwrap_or fan.strategy strategy.Original) fan.stop p m a
going_on set c (step.Multicast fan bs) p m a = fan_on (unwrap_or fan.strategy strategy.Latest) fan.stop p m a
going_on set c (step.Recipients list delimiter fan) p m a = fan_on (unwrap_or fan.strategy strategy.Latest) fan.stop p m a
going_on set c (step.Idempotent key repository skip eager remove b) p m a = key_on skip b m a
going_on set c (step.Try b catches finish) p m a = try_on set c catches finish p m a
going_on set c (step.SetBody e) p m a = tried.Goes m
going_on set c (step.SetHeader name e) p m a = tried.Goes m
going_on set c (step.SetProperty name e) p m a = tried.Goes m
going_on set c (step.RemoveHeader name) p m a = tried.Goes m
going_on set c (step.Log name template) p m a = tried.Goes m
going_on set c (step.Throw kind template) p m a = tried.Goes m
going_on set c (step.Aggregate g) p m a = tried.Goes m
