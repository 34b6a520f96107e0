-- A try of a step that may stand in a set asks by the set's names alone, where the blocks that it runs do.
use Rattle.std.proofs.Common.{◌≡◌, ℕ, Bool, true, false, List, [], ◌∷◌}
use Rattle.std.specs.Prelude.{Option, Some, None}
use Rattle.std.specs.List.{list_any}
use Rattle.std.proofs.lemmas.Bool.{and_parts}
use Rattle.eip_exchange.specs.Headers.{is_one_too_many}
use Rattle.eip_exchange.specs.declared.message.Message.{Message}
use Rattle.eip_exchange.specs.declared.end.Fault.{Fault}
use Rattle.eip_exchange.specs.declared.end.Ended.{Ended}
use Rattle.eip_simple.specs.Values.{template_value}
use Rattle.eip_uri.specs.declared.uri.Uri.{Uri}
use Rattle.eip_route.specs.Goals.{goal_of}
use Rattle.eip_route.specs.Valid.{is_filled, is_check, are_cases, is_given_check, is_catch, are_catches, is_step}
use Rattle.eip_route.specs.declared.goal.Goal.{Goal}
use Rattle.eip_route.specs.declared.goal.Goal.TheVariants as goal
use Rattle.eip_route.specs.declared.route.RouteSet.{RouteSet}
use Rattle.eip_route.specs.declared.step.Catch.{Catch}
use Rattle.eip_route.specs.declared.step.Check.{Check}
use Rattle.eip_route.specs.declared.step.Check.TheVariants as check
use Rattle.eip_route.specs.declared.step.Step.{Step}
use Rattle.eip_route.specs.declared.step.Step.TheVariants as step
use Rattle.eip_frames.specs.declared.request.Target.{Target}
use Rattle.eip_frames.specs.declared.answer.Answer.{Answer as Reply}
use Rattle.eip_meaning.specs.declared.context.Context.{Context}
use Rattle.eip_meaning.specs.Outcomes.{Outcome, Runner}
use Rattle.eip_meaning.specs.Values.{seen_in, value_of, short, sets_header}
use Rattle.eip_meaning.specs.Checks.{tested, block_or_goes, choice_mean, filter_mean}
use Rattle.eip_meaning.specs.Sends.{limit_fault, form_fault, target_of, sent, lane_mean, is_queue, goal_mean, to_mean}
use Rattle.eip_meaning.specs.Parts.{fault_of_end, or_fault}
use Rattle.eip_meaning.specs.Tries.{Behind, behind_part, runs_part, try_ends, finally_mean, names_kind, tested_when, catch_mean, catches_mean, behind_block, try_mean}
use Rattle.eip_meaning.specs.Steps.{by_key, is_fresh, one_try}
use Rattle.eip_asked_laws.proofs.Outcomes.{Named, goes, faults, either-named, unless-named, short-named, short_key-named, ask-named, spawned-named}
use Rattle.eip_asked_laws.proofs.Parts.{split-named, multicast-named, recipient_list-named}

module _ (set : RouteSet) where
  header-named : (name value : List ℕ) (m : Message) (A : List Reply) → Named set.names (sets_header name value m A)
  header-named name value m A = either-named (is_one_too_many name m.headers) (faults _ false A) (goes _ A)

  -- ---- checks: one that is handed in has one of the names

  tested-named : (c : Context) (k : Check) (m : Message) (K : Bool → List Reply → Outcome) → is_check set.names k ≡ true → ((holds : Bool) (A : List Reply) → Named set.names (K holds A))
      → (A : List Reply) → Named set.names (tested set c k m K A)
  tested-named c (check.Simple p) m K h g A = g _ A
  tested-named c (check.Fixed holds) m K h g A = g holds A
  tested-named c (check.Stored name) m K h g A = ask-named set _ _ _ h (λ a A'. g _ A') A

  tested_when-named : (c : Context) (o : Option Check) (m : Message) (K : Bool → List Reply → Outcome) → is_given_check set.names o ≡ true → ((holds : Bool) (A : List Reply) → Named set.names (K holds A))
      → (A : List Reply) → Named set.names (tested_when set c o m K A)
  tested_when-named c None m K h g A = g true A
  tested_when-named c (Some k) m K h g A = tested-named c k m K h g A

  -- ---- doTry

  behind_part-named : (m : Message) (es : List Ended) (K : Ended → List Reply → Outcome) → ((e : Ended) (A : List Reply) → Named set.names (K e A)) → (A : List Reply) → Named set.names (behind_part m es K A)
  behind_part-named m [] K g A = goes m A
  behind_part-named m (e ∷ es) K g A = g e A

  runs_part-named : (c : Context) (m : Message) (k b : ℕ) (K : Ended → List Reply → Outcome) (x : Message) → ((e : Ended) (A : List Reply) → Named set.names (K e A))
      → (A : List Reply) → Named set.names (runs_part set c m k b K x A)
  runs_part-named c m k b K x g A = spawned-named set c k _ _ (λ ends A'. behind_part-named m ends K g A') A

  try_ends-named : (m : Message) (pending : Option Fault) (latest : Message) (A : List Reply) → Named set.names (try_ends m pending latest A)
  try_ends-named m pending latest A = unless-named pending _ (λ A'. goes _ A') A

  finally-named : (c : Context) (finish : Option ℕ) (m : Message) (pending : Option Fault) (latest : Message) (A : List Reply) → Named set.names (finally_mean set c finish m pending latest A)
  finally-named c None m pending latest A = try_ends-named m pending latest A
  finally-named c (Some b) m pending latest A = runs_part-named c m 2 b _ latest (λ e A'. try_ends-named m (or_fault (fault_of_end e.end) pending) e.message A') A

  module _ (behind : Behind) (B : (pending : Option Fault) (m : Message) (A : List Reply) → Named set.names (behind pending m A)) where
    catch-named : (c : Context) (m : Message) (b : ℕ) (x : Message) (A : List Reply) → Named set.names (catch_mean set c m b behind x A)
    catch-named c m b x A = runs_part-named c m 1 b _ x (λ e A'. B (fault_of_end e.end) e.message A') A

    catches-named : (c : Context) (m : Message) (ks : List Catch) (f : Fault) (x : Message) → are_catches set.names ks ≡ true → (A : List Reply) → Named set.names (catches_mean set c m ks behind f x A)
    catches-named c m [] f x h A = B (Some f) x A
    catches-named c m (k ∷ ks) f x h A =
        let both = and_parts (is_catch set.names k) (are_catches set.names ks) h in
        let when = and_parts (is_filled k.names) (is_given_check set.names k.when) both.0 in
        either-named (list_any (names_kind f.kind) k.names)
        (tested_when-named c k.when x _ when.1 (λ holds A'. either-named holds (catch-named c m k.block x A') (catches-named c m ks f x both.1 A')) A)
        (catches-named c m ks f x both.1 A)

    behind_block-named : (c : Context) (m : Message) (ks : List Catch) (o : Option Fault) (x : Message) → are_catches set.names ks ≡ true → (A : List Reply) → Named set.names (behind_block set c m ks behind o x A)
    behind_block-named c m ks None x h A = B None x A
    behind_block-named c m ks (Some f) x h A = catches-named c m ks f x h A

  try-named : (c : Context) (b : ℕ) (ks : List Catch) (finish : Option ℕ) (m : Message) → are_catches set.names ks ≡ true → (A : List Reply) → Named set.names (try_mean set c b ks finish m A)
  try-named c b ks finish m h A =
      runs_part-named c m 0 b _ m
      (λ e A'. behind_block-named (finally_mean set c finish m) (λ pending latest A''. finally-named c finish m pending latest A'') c m ks (fault_of_end e.end) e.message h A')
      A

  -- ---- sends

  sent-named : (c : Context) (t : Option Target) (m : Message) (A : List Reply) → Named set.names (sent set c t m A)
  sent-named c None m A = goes m A
  sent-named c (Some t) m A = ask-named set _ _ _ tt (λ a A'. goes m A') A

  lane-named : (c : Context) (u : Uri) (m : Message) (A : List Reply) → Named set.names (lane_mean set c u m A)
  lane-named c u m A = unless-named (form_fault c u m) _ (λ A'. sent-named c (target_of c u m) m A') A

  module _ (call : ℕ → Runner) (C : (r : ℕ) (m : Message) (A : List Reply) → Named set.names (call r m A)) where
    goal-named : (c : Context) (u : Uri) (g : Goal) (m : Message) (A : List Reply) → Named set.names (goal_mean set call c u g m A)
    goal-named c u (goal.Direct r) m A = ask-named set _ _ _ tt (λ a A'. C r m A') A
    goal-named c u (goal.Queue r) m A = either-named (is_queue set r) (ask-named set _ _ _ tt (λ a A'. goes m A') A) (faults _ false A)
    goal-named c u goal.Lane m A = lane-named c u m A
    goal-named c u goal.Log m A = ask-named set _ _ _ tt (λ a A'. goes m A') A
    goal-named c u goal.NoConsumer m A = faults _ false A

    pub to-named : (c : Context) (u : Uri) (m : Message) (A : List Reply) → Named set.names (to_mean set call c u m A)
    to-named c u m A = unless-named (limit_fault c u) _ (λ A'. goal-named c u (goal_of set u) m A') A

    module _ (nested : ℕ → Runner) (N : (b : ℕ) (m : Message) (A : List Reply) → Named set.names (nested b m A)) where
      or_goes-named : (o : Option ℕ) (m : Message) (A : List Reply) → Named set.names (block_or_goes nested o m A)
      or_goes-named None m A = goes m A
      or_goes-named (Some b) m A = N b m A

      choice-named : (c : Context) (ks : List (Check × ℕ)) (otherwise : Option ℕ) (m : Message) → are_cases set.names ks ≡ true → (A : List Reply) → Named set.names (choice_mean set nested c ks otherwise m A)
      choice-named c [] otherwise m h A = or_goes-named otherwise m A
      choice-named c (k ∷ ks) otherwise m h A =
          let both = and_parts (is_check set.names k.0) (are_cases set.names ks) h in
          tested-named c k.0 m _ both.0 (λ holds A'. either-named holds (N k.1 m A') (choice-named c ks otherwise m both.1 A')) A

      filter-named : (c : Context) (k : Check) (b : ℕ) (m : Message) → is_check set.names k ≡ true → (A : List Reply) → Named set.names (filter_mean set nested c k b m A)
      filter-named c k b m h A = tested-named c k m _ h (λ holds A'. either-named holds (N b m A') (goes m A')) A

      by_key-named : (skip : Bool) (b : ℕ) (fresh : Bool) (m : Message) (A : List Reply) → Named set.names (by_key nested skip b fresh m A)
      by_key-named skip b true m A = N b m A
      by_key-named skip b false m A = either-named skip (goes _ A) (N b _ A)

      pub one_try-named : (c : Context) (s : Step) (m : Message) → is_step set.names s ≡ true → (A : List Reply) → Named set.names (one_try set nested call c s m A)
      one_try-named c (step.SetBody e) m h A = short-named (short (value_of set c e m)) _ (λ value A'. goes _ A') A
      one_try-named c (step.SetHeader name e) m h A = short-named (short (value_of set c e m)) _ (λ value A'. header-named name value m A') A
      one_try-named c (step.SetProperty name e) m h A = short-named (short (value_of set c e m)) _ (λ value A'. goes _ A') A
      one_try-named c (step.RemoveHeader name) m h A = goes _ A
      one_try-named c (step.To u) m h A = to-named c u m A
      one_try-named c (step.Log name template) m h A =
          short-named (short (template_value template (seen_in set c m))) _ (λ text A'. ask-named set _ _ _ tt (λ a A''. goes m A'') A') A
      one_try-named c (step.Throw kind template) m h A = faults _ false A
      one_try-named c (step.Process name) m h A = ask-named set _ _ _ h (λ a A'. goes _ A') A
      one_try-named c (step.Choice cases otherwise) m h A = choice-named c cases otherwise m (and_parts (is_filled cases) (are_cases set.names cases) h).1 A
      one_try-named c (step.Filter k b) m h A = filter-named c k b m h A
      one_try-named c (step.Split how fan b) m h A = split-named set c how fan b m A
      one_try-named c (step.Multicast fan bs) m h A = multicast-named set c fan bs m A
      one_try-named c (step.Recipients list delimiter fan) m h A = recipient_list-named set c list delimiter fan m A
      one_try-named c (step.Aggregate g) m h A =
          short_key-named _ (short (value_of set c g.key m)) _ (λ key A'. ask-named set _ _ _ tt (λ a A''. goes m A'') A') A
      one_try-named c (step.Idempotent key repository skip eager remove b) m h A =
          short_key-named _ (short (value_of set c key m)) _ (λ text A'. ask-named set _ _ _ tt (λ a A''. by_key-named skip b (is_fresh a) m A'') A') A
      one_try-named c (step.Try b catches finish) m h A = try-named c b catches finish m h A
