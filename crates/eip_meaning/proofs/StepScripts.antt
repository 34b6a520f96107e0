-- A try of a step behaves so, where the blocks that it runs do.
use Rattle.std.proofs.Common.{◌≡◌, ℕ, ◌+◌, ◌≤◌, Bool, true, false, List, [], ◌∷◌, ◌++◌, map, refl, arith}
use Rattle.std.specs.Prelude.{Option, Some, None, Result, Ok, Err, ◌&&◌, is_some, nat_le, length}
use Rattle.std.specs.List.{list_any}
use Rattle.std.proofs.Math.Nat.{min-le_right}
use Rattle.std.proofs.lemmas.Bool.{leb-true}
use Rattle.std.proofs.lemmas.List.{length-map}
use Rattle.eip_exchange.specs.Headers.{is_one_too_many}
use Rattle.eip_exchange.specs.declared.message.Message.{Message}
use Rattle.eip_exchange.specs.declared.end.Fault.{Fault}
use Rattle.eip_exchange.specs.declared.end.Ended.{Ended}
use Rattle.eip_exchange.specs.declared.setting.Strategy.{Strategy}
use Rattle.eip_simple.specs.Values.{template_value}
use Rattle.eip_meaning.specs.FanOuts.{in_turn, fan_mean, with_parts, with_recipients, cut, listed}
use Rattle.eip_splitter.specs.declared.fault.SplitFault.{SplitFault}
use Rattle.eip_strategy.specs.declared.fault.StrategyFault.{StrategyFault}
use Rattle.eip_router.specs.declared.fault.RecipientFault.{RecipientFault}
use Rattle.eip_uri.specs.declared.uri.Uri.{Uri}
use Rattle.eip_uri.specs.declared.uri.Uri.TheVariants as uri
use Rattle.eip_route.specs.Goals.{is_among, lane, goal_of}
use Rattle.eip_route.specs.declared.goal.Goal.{Goal}
use Rattle.eip_route.specs.declared.goal.Goal.TheVariants as goal
use Rattle.eip_route.specs.declared.route.RouteSet.{RouteSet}
use Rattle.eip_route.specs.declared.step.Catch.{Catch}
use Rattle.eip_route.specs.declared.step.Check.{Check}
use Rattle.eip_route.specs.declared.step.Check.TheVariants as check
use Rattle.eip_route.specs.declared.step.Fan.{Fan}
use Rattle.eip_route.specs.declared.step.Step.{Step}
use Rattle.eip_route.specs.declared.step.Step.TheVariants as step
use Rattle.eip_frames.specs.Targets.{lane_of}
use Rattle.eip_frames.specs.declared.request.Seed.{Seed}
use Rattle.eip_frames.specs.declared.request.Target.{Target}
use Rattle.eip_frames.specs.declared.answer.Answer.{Answer as Reply}
use Rattle.eip_meaning.specs.declared.context.Context.{Context}
use Rattle.eip_meaning.specs.Outcomes.{Outcome, Runner}
use Rattle.eip_meaning.specs.Values.{seen_in, value_of, short, sets_header}
use Rattle.eip_meaning.specs.Checks.{tested, block_or_goes, choice_mean}
use Rattle.eip_meaning.specs.Sends.{limit_fault, form_fault, target_of, sent, lane_mean, is_queue, goal_mean, to_mean}
use Rattle.eip_meaning.specs.Parts.{first_fault, fault_of_end, or_fault, messages_of, made_one, taken_over, join_mean}
use Rattle.eip_route.specs.Faults.{next_number}
use Rattle.eip_meaning.specs.Tries.{Behind, behind_part, runs_part, try_ends, finally_mean, names_kind, tested_when, catch_mean, catches_mean, behind_block, try_mean}
use Rattle.eip_meaning.specs.Steps.{by_key, is_fresh, one_try}
use Rattle.eip_meaning.proofs.PartCounts.{cut-few, listed-few}
use Rattle.eip_meaning.proofs.Scripts.{Script, goes, faults, weaken, ask-script, spawned-script, either-script, where-script, unless-script, short-script, short_key-script}

few-map : {A B : Type 0} (xs : List A) (f : A → B) → length xs ≤ 10000 → length (map f xs) ≤ 10000
few-map xs f l = omega (arith, length-map xs f, l)

module _ (set : RouteSet) where
  header-script : (name value : List ℕ) (m : Message) → Script set true (sets_header name value m)
  header-script name value m = either-script (is_one_too_many name m.headers) (faults _ false (λ A. refl)) (goes _ (λ A. refl))

  -- ---- checks

  tested-script : (c : Context) (k : Check) (m : Message) (K : Bool → List Reply → Outcome) → ((holds : Bool) → Script set true (K holds)) → Script set true (λ A. tested set c k m K A)
  tested-script c (check.Simple p) m K g = g _
  tested-script c (check.Fixed holds) m K g = g holds
  tested-script c (check.Stored name) m K g = ask-script set _ _ _ tt (λ a. g _)

  tested_when-script : (c : Context) (o : Option Check) (m : Message) (K : Bool → List Reply → Outcome) → ((holds : Bool) → Script set true (K holds)) → Script set true (λ A. tested_when set c o m K A)
  tested_when-script c None m K g = g true
  tested_when-script c (Some k) m K g = tested-script c k m K g

  -- ---- parts

  taken-script : (r : Result (Option Message) StrategyFault) (m : Message) → Script set true (taken_over r m)
  taken-script (Ok None) m = goes m (λ A. refl)
  taken-script (Ok (Some new)) m = goes _ (λ A. refl)
  taken-script (Err f) m = faults _ false (λ A. refl)

  join-script : (s : Strategy) (es : List Ended) (m : Message) → Script set true (join_mean s es m)
  join-script s es m = unless-script (first_fault es) _ (taken-script (made_one s m (messages_of es)) m)

  in_turn-script : (c : Context) (s : Strategy) (stop : Bool) (ended : List Ended) (k : ℕ) (xs : List Seed) (m : Message) → k ≤ 4294967295 → Script set true (in_turn set c s stop ended k xs m)
  in_turn-script c s stop ended k [] m l = join-script s ended m
  in_turn-script c s stop ended k (x ∷ xs) m l =
      spawned-script set c k (x ∷ []) _ (record { some = omega arith; few = omega arith; indexed = omega (arith, l) })
      (λ ends. either-script (stop && is_some (first_fault ends)) (join-script s (ended ++ ends) m) (in_turn-script c s stop (ended ++ ends) (next_number k) xs m (min-le_right (k + 1) 4294967295)))

  fan-script : (c : Context) (fan : Fan) (s : Strategy) (xs : List Seed) (m : Message) → length xs ≤ 10000 → Script set true (fan_mean set c fan s xs m)
  fan-script c fan s [] m l = goes m (λ A. refl)
  fan-script c fan s (x ∷ xs) m l =
      either-script fan.parallel (spawned-script set c 0 (x ∷ xs) _ (record { some = omega arith; few = l; indexed = omega (arith, l) }) (λ ends. join-script s ends m)) (in_turn-script c s fan.stop [] 0 (x ∷ xs) m (omega arith))

  with_parts-script : (r : Result (List Message) SplitFault) (K : List Message → List Reply → Outcome) → ((ms : List Message) → r ≡ Ok ms → Script set true (K ms)) → Script set true (λ A. with_parts r K A)
  with_parts-script (Ok ms) K g = g ms refl
  with_parts-script (Err f) K g = faults _ false (λ A. refl)

  with_recipients-script : (r : Result (List Uri) RecipientFault) (K : List Uri → List Reply → Outcome) → ((us : List Uri) → r ≡ Ok us → Script set true (K us)) → Script set true (λ A. with_recipients r K A)
  with_recipients-script (Ok us) K g = g us refl
  with_recipients-script (Err f) K g = faults _ false (λ A. refl)

  -- ---- doTry

  behind_part-script : (m : Message) (es : List Ended) (K : Ended → List Reply → Outcome) → ((e : Ended) → Script set true (K e)) → Script set true (λ A. behind_part m es K A)
  behind_part-script m [] K g = goes m (λ A. refl)
  behind_part-script m (e ∷ es) K g = g e

  runs_part-script : (c : Context) (m : Message) (k b : ℕ) (K : Ended → List Reply → Outcome) (x : Message) → k ≤ 2 → ((e : Ended) → Script set true (K e)) → Script set true (runs_part set c m k b K x)
  runs_part-script c m k b K x l g = spawned-script set c k _ _ (record { some = omega arith; few = omega arith; indexed = omega (arith, l) }) (λ ends. behind_part-script m ends K g)

  try_ends-script : (m : Message) (pending : Option Fault) (latest : Message) → Script set true (try_ends m pending latest)
  try_ends-script m pending latest = unless-script pending _ (goes _ (λ A. refl))

  finally-script : (c : Context) (finish : Option ℕ) (m : Message) (pending : Option Fault) (latest : Message) → Script set true (finally_mean set c finish m pending latest)
  finally-script c None m pending latest = try_ends-script m pending latest
  finally-script c (Some b) m pending latest = runs_part-script c m 2 b _ latest (omega arith) (λ e. try_ends-script m (or_fault (fault_of_end e.end) pending) e.message)

  module _ (behind : Behind) (B : (pending : Option Fault) (m : Message) → Script set true (behind pending m)) where
    catch-script : (c : Context) (m : Message) (b : ℕ) (x : Message) → Script set true (catch_mean set c m b behind x)
    catch-script c m b x = runs_part-script c m 1 b _ x (omega arith) (λ e. B (fault_of_end e.end) e.message)

    catches-script : (c : Context) (m : Message) (ks : List Catch) (f : Fault) (x : Message) → Script set true (catches_mean set c m ks behind f x)
    catches-script c m [] f x = B (Some f) x
    catches-script c m (k ∷ ks) f x =
        either-script (list_any (names_kind f.kind) k.names)
        (tested_when-script c k.when x _ (λ holds. either-script holds (catch-script c m k.block x) (catches-script c m ks f x)))
        (catches-script c m ks f x)

    behind_block-script : (c : Context) (m : Message) (ks : List Catch) (o : Option Fault) (x : Message) → Script set true (behind_block set c m ks behind o x)
    behind_block-script c m ks None x = B None x
    behind_block-script c m ks (Some f) x = catches-script c m ks f x

  try-script : (c : Context) (b : ℕ) (ks : List Catch) (finish : Option ℕ) (m : Message) → Script set true (try_mean set c b ks finish m)
  try-script c b ks finish m =
      runs_part-script c m 0 b _ m (omega arith)
      (λ e. behind_block-script (finally_mean set c finish m) (λ pending latest. finally-script c finish m pending latest) c m ks (fault_of_end e.end) e.message)

  -- ---- sends

  lane_goal : (b : Bool) → lane b ≡ goal.Lane → b ≡ true
  lane_goal true h = refl
  lane_goal false h = cc

  abbrev HasLane : Option Target → Type 0
  HasLane None = Unit {0}
  HasLane (Some t) = is_among (lane_of t) set.names.lanes ≡ true

  -- what goes out by a lane goes out by one of the set's
  has_lane : (c : Context) (u : Uri) (m : Message) → goal_of set u ≡ goal.Lane → HasLane (target_of c u m)
  unfolding goal_of
  has_lane c (uri.File folder after failed exist) m h = lane_goal _ h
  has_lane c (uri.Line host port) m h = lane_goal _ h
  has_lane c (uri.Lane name) m h = lane_goal _ h
  has_lane c _ m h = tt

  sent-script : (c : Context) (t : Option Target) (m : Message) → HasLane t → Script set true (sent set c t m)
  sent-script c None m h = goes m (λ A. refl)
  sent-script c (Some t) m h = ask-script set _ _ _ h (λ a. goes m (λ A. refl))

  lane-script : (c : Context) (u : Uri) (m : Message) → goal_of set u ≡ goal.Lane → Script set true (lane_mean set c u m)
  lane-script c u m h = unless-script (form_fault c u m) _ (sent-script c (target_of c u m) m (has_lane c u m h))

  module _ (call : ℕ → Runner) (C : (r : ℕ) (m : Message) → Script set false (call r m)) where
    goal-script : (c : Context) (u : Uri) (g : Goal) (m : Message) → goal_of set u ≡ g → Script set true (goal_mean set call c u g m)
    goal-script c u (goal.Direct r) m h = ask-script set _ _ _ tt (λ a. weaken (C r m))
    goal-script c u (goal.Queue r) m h = where-script (is_queue set r) (λ e. ask-script set _ _ _ e (λ a. goes m (λ A. refl))) (faults _ false (λ A. refl))
    goal-script c u goal.Lane m h = lane-script c u m h
    goal-script c u goal.Log m h = ask-script set _ _ _ tt (λ a. goes m (λ A. refl))
    goal-script c u goal.NoConsumer m h = faults _ false (λ A. refl)

    pub to-script : (c : Context) (u : Uri) (m : Message) → Script set true (to_mean set call c u m)
    to-script c u m = unless-script (limit_fault c u) _ (goal-script c u (goal_of set u) m refl)

    module _ (nested : ℕ → Runner) (N : (b : ℕ) (m : Message) → Script set false (nested b m)) where
      or_goes-script : (o : Option ℕ) (m : Message) → Script set true (block_or_goes nested o m)
      or_goes-script None m = goes m (λ A. refl)
      or_goes-script (Some b) m = weaken (N b m)

      choice-script : (c : Context) (ks : List (Check × ℕ)) (otherwise : Option ℕ) (m : Message) → Script set true (choice_mean set nested c ks otherwise m)
      choice-script c [] otherwise m = or_goes-script otherwise m
      choice-script c (k ∷ ks) otherwise m = tested-script c k.0 m _ (λ holds. either-script holds (weaken (N k.1 m)) (choice-script c ks otherwise m))

      by_key-script : (skip : Bool) (b : ℕ) (fresh : Bool) (m : Message) → Script set true (by_key nested skip b fresh m)
      by_key-script skip b true m = weaken (N b m)
      by_key-script skip b false m = either-script skip (goes _ (λ A. refl)) (weaken (N b _))

      pub one_try-script : (c : Context) (s : Step) (m : Message) → Script set true (one_try set nested call c s m)
      one_try-script c (step.SetBody e) m = short-script (short (value_of set c e m)) _ (λ value. goes _ (λ A. refl))
      one_try-script c (step.SetHeader name e) m = short-script (short (value_of set c e m)) _ (λ value. header-script name value m)
      one_try-script c (step.SetProperty name e) m = short-script (short (value_of set c e m)) _ (λ value. goes _ (λ A. refl))
      one_try-script c (step.RemoveHeader name) m = goes _ (λ A. refl)
      one_try-script c (step.To u) m = to-script c u m
      one_try-script c (step.Log name template) m =
          short-script (short (template_value template (seen_in set c m))) _ (λ text. ask-script set _ _ _ tt (λ a. goes m (λ A. refl)))
      one_try-script c (step.Throw kind template) m = faults _ false (λ A. refl)
      one_try-script c (step.Process name) m = ask-script set _ _ _ tt (λ a. goes _ (λ A. refl))
      one_try-script c (step.Choice cases otherwise) m = choice-script c cases otherwise m
      one_try-script c (step.Filter k b) m = tested-script c k m _ (λ holds. either-script holds (weaken (N b m)) (goes m (λ A. refl)))
      one_try-script c (step.Split how fan b) m = with_parts-script (cut how m) _ (λ ms e. fan-script c fan _ _ m (few-map ms _ (cut-few how m ms e)))
      one_try-script c (step.Multicast fan bs) m = where-script (nat_le (length bs) 10000) (λ e. fan-script c fan _ _ m (few-map bs _ (leb-true (length bs) 10000 e))) (faults _ false (λ A. refl))
      one_try-script c (step.Recipients list delimiter fan) m =
          short-script (short (value_of set c list m)) _ (λ value. with_recipients-script (listed delimiter value) _ (λ us e. fan-script c fan _ _ m (few-map us _ (listed-few delimiter value us e))))
      one_try-script c (step.Aggregate g) m =
          short_key-script _ (short (value_of set c g.key m)) _ (λ key. ask-script set _ _ _ tt (λ a. goes m (λ A. refl)))
      one_try-script c (step.Idempotent key repository skip eager remove b) m =
          short_key-script _ (short (value_of set c key m)) _ (λ text. ask-script set _ _ _ tt (λ a. by_key-script skip b (is_fresh a) m))
      one_try-script c (step.Try b catches finish) m = try-script c b catches finish m
