-- What an answer gives at a step as data means what follows there.
use Rattle.std.proofs.Common.{◌≡◌, ℕ, zero, suc, Bool, true, false, cond, List, [], ◌∷◌, ◌++◌, drop, refl, ◌∙◌, ap}
use Rattle.std.specs.Prelude.{Option, Some, None, Result, Ok, Err, slice_get, ◌&&◌, is_some, unwrap_or}
use Rattle.std.specs.List.{list_any}
use Rattle.eip_exchange.specs.declared.message.Message.{Message}
use Rattle.eip_exchange.specs.declared.end.Fault.{Fault}
use Rattle.eip_exchange.specs.declared.end.Ended.{Ended}
use Rattle.eip_exchange.specs.declared.setting.Strategy.{Strategy}
use Rattle.eip_exchange.specs.declared.setting.Strategy.TheVariants as strategy
use Rattle.eip_strategy.specs.declared.fault.StrategyFault.{StrategyFault}
use Rattle.eip_uri.specs.declared.uri.Uri.{Uri}
use Rattle.eip_route.specs.Faults.{next_number}
use Rattle.eip_route.specs.declared.route.RouteSet.{RouteSet}
use Rattle.eip_route.specs.declared.step.Catch.{Catch}
use Rattle.eip_route.specs.declared.step.Check.{Check}
use Rattle.eip_route.specs.declared.step.Step.{Step}
use Rattle.eip_route.specs.declared.step.Step.TheVariants as step
use Rattle.eip_frames.specs.declared.request.Seed.{Seed}
use Rattle.eip_frames.specs.declared.answer.Answer.{Answer as Reply}
use Rattle.eip_meaning.specs.declared.context.Context.{Context}
use Rattle.eip_meaning.specs.Outcomes.{Outcome}
use Rattle.eip_meaning.specs.Values.{duplicate_message}
use Rattle.eip_meaning.specs.Checks.{held}
use Rattle.eip_meaning.specs.Parts.{parts_in, first_fault, fault_of_end, or_fault, messages_of, made_one, taken_over, join_mean}
use Rattle.eip_meaning.specs.FanOuts.{in_turn}
use Rattle.eip_meaning.specs.Tries.{names_kind, tested_when, finally_mean, try_ends, catch_mean, catches_mean, behind_block}
use Rattle.eip_meaning.specs.Steps.{is_fresh, by_key}
use Rattle.eip_meaning.specs.Meaning.{steps_of}
use Rattle.eip_progress.specs.declared.tried.Progress.{Progress}
use Rattle.eip_progress.specs.declared.tried.Progress.TheVariants as progress
use Rattle.eip_progress.specs.declared.tried.Tried.{Tried}
use Rattle.eip_progress.specs.declared.tried.Tried.TheVariants as tried
use Rattle.eip_progress.specs.FirstTry.{part_tried}
use Rattle.eip_progress.specs.Answered.{case_held, choice_on, taken_tried, join_tried, next_seed, next_tried, fan_on, ends_tried, finally_tried, when_tried, catches_tried, block_left, part_left, only_left, catch_held, try_on, going_on}
use Rattle.eip_progress.specs.Rest.{nested_at, next_part, fan_cont, case_cont, choice_cont, part_cont, only_cont, catch_cont, try_cont, cont_of_step}
use Rattle.eip_progress.specs.declared.frame.Task.TheVariants as task
use Rattle.eip_progress.proofs.SendTries.{send_on_as}
use Rattle.eip_progress.proofs.FirstTries.{drop_get, drop_next, cond_both, means, means_cond, means_unless, asks_as, check_as, choice_as}

module _ (set : RouteSet) (whole : Option Uri) (c : Context) (b i : ℕ) where
  key_on_as : (skip : Bool) (j : ℕ) (fresh : Bool) (m : Message) (A : List Reply) →
      means set whole c b i (cond fresh (tried.Enters j m) (cond skip (tried.Goes (duplicate_message m)) (tried.Enters j (duplicate_message m)))) A ≡ by_key (nested_at set c b) skip j fresh m A
  key_on_as skip j true m A = refl
  key_on_as skip j false m A = means_cond set whole c b i skip _ _ A

  -- ---- choices

  module _ (cases : List (Check × ℕ)) (otherwise : Option ℕ) (e : slice_get (steps_of set b) i ≡ Some (step.Choice cases otherwise)) where
    case_on_as : (k : ℕ) (o : Option (Check × ℕ)) (m : Message) (a : Reply) (A : List Reply) →
        means set whole c b i (case_held set c k cases otherwise o (held a) m) A ≡ case_cont set c b (drop (suc k) cases) otherwise o m a A
    case_on_as k None m a A = refl
    case_on_as k (Some x) m a A =
        means_cond set whole c b i (held a) _ _ A ∙ cond_both (held a) refl (choice_as set whole c b i cases otherwise e m (suc k) (drop (suc k) cases) refl A)

    choice_on_as : (p : Progress) (m : Message) (a : Reply) (A : List Reply) → means set whole c b i (choice_on set c cases otherwise p m a) A ≡ choice_cont set c b cases otherwise p m a A
    choice_on_as progress.First m a A = refl
    choice_on_as (progress.Choosing k) m a A = case_on_as k (slice_get cases k) m a A
    choice_on_as progress.SpawningAll m a A = refl
    choice_on_as progress.JoiningAll m a A = refl
    choice_on_as (progress.Spawning k ended left) m a A = refl
    choice_on_as (progress.Joining k ended left) m a A = refl
    choice_on_as (progress.Entering k pending) m a A = refl
    choice_on_as (progress.Leaving k pending) m a A = refl
    choice_on_as (progress.Testing k f x) m a A = refl

  -- ---- fan-outs

  taken_as : (r : Result (Option Message) StrategyFault) (m : Message) (A : List Reply) → means set whole c b i (taken_tried r m) A ≡ taken_over r m A
  taken_as (Ok None) m A = refl
  taken_as (Ok (Some new)) m A = refl
  taken_as (Err f) m A = refl

  join_as : (st : Strategy) (parts : List Ended) (m : Message) (A : List Reply) → means set whole c b i (join_tried st parts m) A ≡ join_mean st parts m A
  join_as st parts m A = means_unless set whole c b i (first_fault parts) m _ _ A (λ A'. taken_as (made_one st m (messages_of parts)) m A')

  module _ (s : Step) (e : slice_get (steps_of set b) i ≡ Some s) (st : Strategy) (stop : Bool)
      (F : (p : Progress) (m : Message) (a : Reply) (A : List Reply) → cont_of_step set c b s p m a A ≡ fan_cont set c st stop p m a A) where
    next_seed_as : (ended : List Ended) (k : ℕ) (left : List Seed) (m : Message) (A : List Reply) → means set whole c b i (next_seed st ended k left m) A ≡ in_turn set c st stop ended k left m A
    next_seed_as ended k [] m A = join_as st ended m A
    next_seed_as ended k (x ∷ xs) m A = asks_as set whole c b i s e (progress.Spawning k ended xs) _ k m _ A (λ a A'. F (progress.Spawning k ended xs) m a A')

    next_as : (ended : List Ended) (k : ℕ) (left : List Seed) (parts : List Ended) (m : Message) (A : List Reply) →
        means set whole c b i (next_tried st stop ended k left parts m) A ≡ next_part set c st stop ended k left parts m A
    next_as ended k left parts m A =
        means_cond set whole c b i (stop && is_some (first_fault parts)) _ _ A
        ∙ cond_both (stop && is_some (first_fault parts)) (join_as st (ended ++ parts) m A) (next_seed_as (ended ++ parts) (next_number k) left m A)

    fan_on_as : (p : Progress) (m : Message) (a : Reply) (A : List Reply) → means set whole c b i (fan_on st stop p m a) A ≡ fan_cont set c st stop p m a A
    fan_on_as progress.First m a A = refl
    fan_on_as (progress.Choosing k) m a A = refl
    fan_on_as progress.SpawningAll m a A = asks_as set whole c b i s e progress.JoiningAll _ 0 m _ A (λ a' A'. F progress.JoiningAll m a' A')
    fan_on_as progress.JoiningAll m a A = join_as st (parts_in a) m A
    fan_on_as (progress.Spawning k ended left) m a A = asks_as set whole c b i s e (progress.Joining k ended left) _ k m _ A (λ a' A'. F (progress.Joining k ended left) m a' A')
    fan_on_as (progress.Joining k ended left) m a A = next_as ended k left (parts_in a) m A
    fan_on_as (progress.Entering k pending) m a A = refl
    fan_on_as (progress.Leaving k pending) m a A = refl
    fan_on_as (progress.Testing k f x) m a A = refl

  -- ---- doTry

  module _ (j : ℕ) (catches : List Catch) (finish : Option ℕ) (e : slice_get (steps_of set b) i ≡ Some (step.Try j catches finish)) where
    ends_as : (pending : Option Fault) (latest m : Message) (A : List Reply) → means set whole c b i (ends_tried pending latest m) A ≡ try_ends m pending latest A
    ends_as pending latest m A = means_unless set whole c b i pending m _ _ A (λ A'. refl)

    finally_as : (o : Option ℕ) → o ≡ finish → (pending : Option Fault) (latest m : Message) (A : List Reply) → means set whole c b i (finally_tried o pending latest m) A ≡ finally_mean set c o m pending latest A
    finally_as None h pending latest m A = ends_as pending latest m A
    finally_as (Some y) h pending latest m A = asks_as set whole c b i (step.Try j catches finish) e (progress.Entering 2 pending) _ 2 m _ A (λ a A'. refl)

    catch_as : (y : ℕ) (x m : Message) (A : List Reply) → means set whole c b i (part_tried 1 None y x m) A ≡ catch_mean set c m y (finally_mean set c finish m) x A
    catch_as y x m A = asks_as set whole c b i (step.Try j catches finish) e (progress.Entering 1 None) _ 1 m _ A (λ a A'. refl)

    when_as : (o : Option Check) (p : Progress) (x m : Message) (K : Bool → Tried) (L : Bool → List Reply → Outcome) (A : List Reply) →
        ((h : Bool) (A' : List Reply) → means set whole c b i (K h) A' ≡ L h A') → ((a : Reply) (A' : List Reply) → cont_of_step set c b (step.Try j catches finish) p m a A' ≡ L (held a) A') →
        means set whole c b i (when_tried set c o p x m K) A ≡ tested_when set c o x L A
    when_as None p x m K L A g h = g true A
    when_as (Some k) p x m K L A g h = check_as set whole c b i (step.Try j catches finish) e k p x m K L A g h

    catches_as : (k : ℕ) (ys : List Catch) → drop k catches ≡ ys → (f : Fault) (x m : Message) (A : List Reply) →
        means set whole c b i (catches_tried set c finish k ys f x m) A ≡ catches_mean set c m ys (finally_mean set c finish m) f x A
    catches_as k [] h f x m A = finally_as finish refl (Some f) x m A
    catches_as k (y ∷ ys) h f x m A =
        means_cond set whole c b i (list_any (names_kind f.kind) y.names) _ _ A
        ∙ cond_both (list_any (names_kind f.kind) y.names)
        (when_as y.when (progress.Testing k f x) x m _
        (λ holds A'. cond holds (catch_mean set c m y.block (finally_mean set c finish m) x A') (catches_mean set c m ys (finally_mean set c finish m) f x A'))
        A
        (λ holds A'. means_cond set whole c b i holds _ _ A' ∙ cond_both holds (catch_as y.block x m A') (catches_as (suc k) ys (drop_next k catches y ys h) f x m A'))
        (λ a A'. ap (λ (o : Option Catch). catch_cont set c (drop (suc k) catches) finish o f x m a A') (drop_get k catches y ys h)
        ∙ ap (λ (l : List Catch). cond (held a) (catch_mean set c m y.block (finally_mean set c finish m) x A') (catches_mean set c m l (finally_mean set c finish m) f x A')) (drop_next k catches y ys h)))
        (catches_as (suc k) ys (drop_next k catches y ys h) f x m A)

    block_left_as : (o : Option Fault) (x m : Message) (A : List Reply) → means set whole c b i (block_left set c catches finish o x m) A ≡ behind_block set c m catches (finally_mean set c finish m) o x A
    block_left_as None x m A = finally_as finish refl None x m A
    block_left_as (Some f) x m A = catches_as 0 catches refl f x m A

    part_left_as : (k : ℕ) (pending : Option Fault) (y : Ended) (m : Message) (A : List Reply) → means set whole c b i (part_left set c catches finish k pending y m) A ≡ part_cont set c catches finish k pending m y A
    part_left_as zero pending y m A = block_left_as (fault_of_end y.end) y.message m A
    part_left_as (suc zero) pending y m A = finally_as finish refl (fault_of_end y.end) y.message m A
    part_left_as (suc (suc k)) pending y m A = ends_as (or_fault (fault_of_end y.end) pending) y.message m A

    only_left_as : (k : ℕ) (pending : Option Fault) (ys : List Ended) (m : Message) (A : List Reply) → means set whole c b i (only_left set c catches finish k pending ys m) A ≡ only_cont set c catches finish k pending m ys A
    only_left_as k pending [] m A = refl
    only_left_as k pending (y ∷ ys) m A = part_left_as k pending y m A

    catch_on_as : (k : ℕ) (o : Option Catch) (f : Fault) (x m : Message) (a : Reply) (A : List Reply) →
        means set whole c b i (catch_held set c catches finish k o (held a) f x m) A ≡ catch_cont set c (drop (suc k) catches) finish o f x m a A
    catch_on_as k None f x m a A = refl
    catch_on_as k (Some y) f x m a A =
        means_cond set whole c b i (held a) _ _ A ∙ cond_both (held a) (catch_as y.block x m A) (catches_as (suc k) (drop (suc k) catches) refl f x m A)

    try_on_as : (p : Progress) (m : Message) (a : Reply) (A : List Reply) → means set whole c b i (try_on set c catches finish p m a) A ≡ try_cont set c catches finish p m a A
    try_on_as progress.First m a A = refl
    try_on_as (progress.Choosing k) m a A = refl
    try_on_as progress.SpawningAll m a A = refl
    try_on_as progress.JoiningAll m a A = refl
    try_on_as (progress.Spawning k ended left) m a A = refl
    try_on_as (progress.Joining k ended left) m a A = refl
    try_on_as (progress.Entering k pending) m a A = asks_as set whole c b i (step.Try j catches finish) e (progress.Leaving k pending) _ k m _ A (λ a' A'. refl)
    try_on_as (progress.Leaving k pending) m a A = only_left_as k pending (parts_in a) m A
    try_on_as (progress.Testing k f x) m a A = catch_on_as k (slice_get catches k) f x m a A

  -- ---- a step

  pub going_as : (s : Step) → slice_get (steps_of set b) i ≡ Some s → (p : Progress) (m : Message) (a : Reply) (A : List Reply) →
      means set whole c b i (going_on set c s p m a) A ≡ cont_of_step set c b s p m a A
  going_as (step.SetBody x) e p m a A = refl
  going_as (step.SetHeader name x) e p m a A = refl
  going_as (step.SetProperty name x) e p m a A = refl
  going_as (step.RemoveHeader name) e p m a A = refl
  going_as (step.To u) e p m a A = send_on_as set whole c (task.Step b i) u m A
  going_as (step.Log name template) e p m a A = refl
  going_as (step.Throw kind template) e p m a A = refl
  going_as (step.Process name) e p m a A = refl
  going_as (step.Choice cases otherwise) e p m a A = choice_on_as cases otherwise e p m a A
  going_as (step.Filter check j) e p m a A = means_cond set whole c b i (held a) _ _ A
  going_as (step.Split how fan j) e p m a A = fan_on_as (step.Split how fan j) e (unwrap_or fan.strategy strategy.Original) fan.stop (λ p' m' a' A'. refl) p m a A
  going_as (step.Multicast fan bs) e p m a A = fan_on_as (step.Multicast fan bs) e (unwrap_or fan.strategy strategy.Latest) fan.stop (λ p' m' a' A'. refl) p m a A
  going_as (step.Recipients list delimiter fan) e p m a A = fan_on_as (step.Recipients list delimiter fan) e (unwrap_or fan.strategy strategy.Latest) fan.stop (λ p' m' a' A'. refl) p m a A
  going_as (step.Aggregate g) e p m a A = refl
  going_as (step.Idempotent key repository skip eager remove j) e p m a A = key_on_as skip j (is_fresh a) m A
  going_as (step.Try j catches finish) e p m a A = try_on_as j catches finish e p m a A
