-- What an answer gives at a try hands back where it asks or faults the message that the try was made on.
use Rattle.std.proofs.Common.{ℕ, zero, suc, Bool, true, List, [], ◌∷◌, ◌++◌, drop, refl}
use Rattle.std.specs.Prelude.{Option, Some, None, Result, Ok, Err, slice_get, unwrap_or, ◌&&◌, is_some}
use Rattle.std.specs.List.{list_any}
use Rattle.eip_exchange.specs.declared.message.Message.{Message}
use Rattle.eip_exchange.specs.declared.end.Fault.{Fault}
use Rattle.eip_exchange.specs.declared.end.Ended.{Ended}
use Rattle.eip_exchange.specs.declared.setting.Strategy.{Strategy}
use Rattle.eip_exchange.specs.declared.setting.Strategy.TheVariants as strategy
use Rattle.eip_strategy.specs.declared.fault.StrategyFault.{StrategyFault}
use Rattle.eip_uri.specs.declared.uri.Uri.{Uri}
use Rattle.eip_route.specs.Goals.{goal_of}
use Rattle.eip_route.specs.Faults.{next_number}
use Rattle.eip_route.specs.declared.goal.Goal.{Goal}
use Rattle.eip_route.specs.declared.goal.Goal.TheVariants as goal
use Rattle.eip_route.specs.declared.route.RouteSet.{RouteSet}
use Rattle.eip_route.specs.declared.step.Catch.{Catch}
use Rattle.eip_route.specs.declared.step.Check.{Check}
use Rattle.eip_route.specs.declared.step.Step.{Step}
use Rattle.eip_route.specs.declared.step.Step.TheVariants as step
use Rattle.eip_frames.specs.declared.request.Seed.{Seed}
use Rattle.eip_frames.specs.declared.answer.Answer.{Answer as Reply}
use Rattle.eip_meaning.specs.declared.context.Context.{Context}
use Rattle.eip_meaning.specs.Checks.{held}
use Rattle.eip_meaning.specs.Parts.{parts_in, first_fault, fault_of_end, or_fault, messages_of, made_one}
use Rattle.eip_meaning.specs.Tries.{names_kind}
use Rattle.eip_meaning.specs.Steps.{is_fresh}
use Rattle.eip_progress.specs.declared.tried.Progress.{Progress}
use Rattle.eip_progress.specs.declared.tried.Progress.TheVariants as progress
use Rattle.eip_progress.specs.declared.tried.Tried.{Tried}
use Rattle.eip_progress.specs.Answered.{goal_on, to_on, case_held, choice_on, taken_tried, join_tried, next_seed, next_tried, fan_on, ends_tried, finally_tried, when_tried, catches_tried, block_left, part_left, only_left, catch_held, try_on, going_on}
use Rattle.eip_turns.specs.Kept.{Keeps}
use Rattle.eip_turns.proofs.Keeping.{keeps_cond, keeps_unless, keeps_check, keeps_choice}

module _ (m : Message) where
  keeps_goal_on : (g : Goal) → Keeps (goal_on g m) m
  keeps_goal_on (goal.Direct r) = tt
  keeps_goal_on (goal.Queue r) = tt
  keeps_goal_on goal.Lane = tt
  keeps_goal_on goal.Log = tt
  keeps_goal_on goal.NoConsumer = tt

  pub keeps_to_on : (set : RouteSet) (u : Uri) → Keeps (to_on set u m) m
  keeps_to_on set u = keeps_goal_on (goal_of set u)

  module _ (set : RouteSet) (c : Context) where
    -- ---- fan-outs

    keeps_taken : (r : Result (Option Message) StrategyFault) → Keeps (taken_tried r m) m
    keeps_taken (Ok None) = tt
    keeps_taken (Ok (Some new)) = tt
    keeps_taken (Err f) = refl

    keeps_join : (st : Strategy) (ended : List Ended) → Keeps (join_tried st ended m) m
    keeps_join st ended = keeps_unless m (first_fault ended) _ (keeps_taken (made_one st m (messages_of ended)))

    keeps_next_seed : (st : Strategy) (ended : List Ended) (k : ℕ) (left : List Seed) → Keeps (next_seed st ended k left m) m
    keeps_next_seed st ended k [] = keeps_join st ended
    keeps_next_seed st ended k (x ∷ xs) = refl

    keeps_next : (st : Strategy) (stop : Bool) (ended : List Ended) (k : ℕ) (left : List Seed) (parts : List Ended) → Keeps (next_tried st stop ended k left parts m) m
    keeps_next st stop ended k left parts =
        keeps_cond m (stop && is_some (first_fault parts)) _ _ (keeps_join st (ended ++ parts)) (keeps_next_seed st (ended ++ parts) (next_number k) left)

    keeps_fan_on : (st : Strategy) (stop : Bool) (p : Progress) (a : Reply) → Keeps (fan_on st stop p m a) m
    keeps_fan_on st stop progress.First a = tt
    keeps_fan_on st stop (progress.Choosing k) a = tt
    keeps_fan_on st stop progress.SpawningAll a = refl
    keeps_fan_on st stop progress.JoiningAll a = keeps_join st (parts_in a)
    keeps_fan_on st stop (progress.Spawning k ended left) a = refl
    keeps_fan_on st stop (progress.Joining k ended left) a = keeps_next st stop ended k left (parts_in a)
    keeps_fan_on st stop (progress.Entering k pending) a = tt
    keeps_fan_on st stop (progress.Leaving k pending) a = tt
    keeps_fan_on st stop (progress.Testing k f x) a = tt

    -- ---- choices and keys

    keeps_case : (k : ℕ) (cases : List (Check × ℕ)) (otherwise : Option ℕ) (o : Option (Check × ℕ)) (holds : Bool) → Keeps (case_held set c k cases otherwise o holds m) m
    keeps_case k cases otherwise None holds = tt
    keeps_case k cases otherwise (Some x) holds = keeps_cond m holds _ _ tt (keeps_choice m set c (suc k) (drop (suc k) cases) otherwise)

    keeps_choice_on : (cases : List (Check × ℕ)) (otherwise : Option ℕ) (p : Progress) (a : Reply) → Keeps (choice_on set c cases otherwise p m a) m
    keeps_choice_on cases otherwise progress.First a = tt
    keeps_choice_on cases otherwise (progress.Choosing k) a = keeps_case k cases otherwise (slice_get cases k) (held a)
    keeps_choice_on cases otherwise progress.SpawningAll a = tt
    keeps_choice_on cases otherwise progress.JoiningAll a = tt
    keeps_choice_on cases otherwise (progress.Spawning k ended left) a = tt
    keeps_choice_on cases otherwise (progress.Joining k ended left) a = tt
    keeps_choice_on cases otherwise (progress.Entering k pending) a = tt
    keeps_choice_on cases otherwise (progress.Leaving k pending) a = tt
    keeps_choice_on cases otherwise (progress.Testing k f x) a = tt

    -- ---- doTry

    keeps_ends : (pending : Option Fault) (latest : Message) → Keeps (ends_tried pending latest m) m
    keeps_ends pending latest = keeps_unless m pending _ tt

    keeps_finally : (finish : Option ℕ) (pending : Option Fault) (latest : Message) → Keeps (finally_tried finish pending latest m) m
    keeps_finally None pending latest = keeps_ends pending latest
    keeps_finally (Some b) pending latest = refl

    keeps_when : (o : Option Check) (g : Progress) (x : Message) (K : Bool → Tried) → ((h : Bool) → Keeps (K h) m) → Keeps (when_tried set c o g x m K) m
    keeps_when None g x K p = p true
    keeps_when (Some k) g x K p = keeps_check m set c k g x K p

    keeps_catches : (finish : Option ℕ) (k : ℕ) (ys : List Catch) (f : Fault) (x : Message) → Keeps (catches_tried set c finish k ys f x m) m
    keeps_catches finish k [] f x = keeps_finally finish (Some f) x
    keeps_catches finish k (y ∷ ys) f x =
        keeps_cond m (list_any (names_kind f.kind) y.names) _ _
        (keeps_when y.when (progress.Testing k f x) x _ (λ h. keeps_cond m h _ _ refl (keeps_catches finish (suc k) ys f x)))
        (keeps_catches finish (suc k) ys f x)

    module _ (catches : List Catch) (finish : Option ℕ) where
      keeps_block_left : (o : Option Fault) (x : Message) → Keeps (block_left set c catches finish o x m) m
      keeps_block_left None x = keeps_finally finish None x
      keeps_block_left (Some f) x = keeps_catches finish 0 catches f x

      keeps_part_left : (k : ℕ) (pending : Option Fault) (e : Ended) → Keeps (part_left set c catches finish k pending e m) m
      keeps_part_left zero pending e = keeps_block_left (fault_of_end e.end) e.message
      keeps_part_left (suc zero) pending e = keeps_finally finish (fault_of_end e.end) e.message
      keeps_part_left (suc (suc k)) pending e = keeps_ends (or_fault (fault_of_end e.end) pending) e.message

      keeps_only_left : (k : ℕ) (pending : Option Fault) (es : List Ended) → Keeps (only_left set c catches finish k pending es m) m
      keeps_only_left k pending [] = tt
      keeps_only_left k pending (e ∷ es) = keeps_part_left k pending e

      keeps_catch : (k : ℕ) (o : Option Catch) (holds : Bool) (f : Fault) (x : Message) → Keeps (catch_held set c catches finish k o holds f x m) m
      keeps_catch k None holds f x = tt
      keeps_catch k (Some y) holds f x = keeps_cond m holds _ _ refl (keeps_catches finish (suc k) (drop (suc k) catches) f x)

      keeps_try_on : (p : Progress) (a : Reply) → Keeps (try_on set c catches finish p m a) m
      keeps_try_on progress.First a = tt
      keeps_try_on (progress.Choosing k) a = tt
      keeps_try_on progress.SpawningAll a = tt
      keeps_try_on progress.JoiningAll a = tt
      keeps_try_on (progress.Spawning k ended left) a = tt
      keeps_try_on (progress.Joining k ended left) a = tt
      keeps_try_on (progress.Entering k pending) a = refl
      keeps_try_on (progress.Leaving k pending) a = keeps_only_left k pending (parts_in a)
      keeps_try_on (progress.Testing k f x) a = keeps_catch k (slice_get catches k) (held a) f x

    -- ---- a step

    pub keeps_going : (s : Step) (p : Progress) (a : Reply) → Keeps (going_on set c s p m a) m
    keeps_going (step.SetBody x) p a = tt
    keeps_going (step.SetHeader name x) p a = tt
    keeps_going (step.SetProperty name x) p a = tt
    keeps_going (step.RemoveHeader name) p a = tt
    keeps_going (step.To u) p a = keeps_to_on set u
    keeps_going (step.Log name template) p a = tt
    keeps_going (step.Throw kind template) p a = tt
    keeps_going (step.Process name) p a = tt
    keeps_going (step.Choice cases otherwise) p a = keeps_choice_on cases otherwise p a
    keeps_going (step.Filter k j) p a = keeps_cond m (held a) _ _ tt tt
    keeps_going (step.Split how fan j) p a = keeps_fan_on (unwrap_or fan.strategy strategy.Original) fan.stop p a
    keeps_going (step.Multicast fan bs) p a = keeps_fan_on (unwrap_or fan.strategy strategy.Latest) fan.stop p a
    keeps_going (step.Recipients list delimiter fan) p a = keeps_fan_on (unwrap_or fan.strategy strategy.Latest) fan.stop p a
    keeps_going (step.Aggregate g) p a = tt
    keeps_going (step.Idempotent key repository skip eager remove j) p a = keeps_cond m (is_fresh a) _ _ tt (keeps_cond m skip _ _ tt tt)
    keeps_going (step.Try j catches finish) p a = keeps_try_on catches finish p a
