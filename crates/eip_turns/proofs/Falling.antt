-- What is left to do before the next request falls with each turn.
use Rattle.std.proofs.Common.{◌≡◌, ℕ, zero, suc, ◌+◌, ◌<◌, ◌≤◌, List, [], ◌∷◌, ◌++◌, drop, length, sym, ◌∙◌, ap, inl, inr, arith, cond}
use Rattle.std.specs.Prelude.{Option, Some, None, Bool, true, false, nat_le, slice_get, Result, Ok, Err}
use Rattle.std.proofs.lemmas.Bool.{cases_Bool}
use Rattle.eip_exchange.specs.declared.message.Message.{Message}
use Rattle.eip_exchange.specs.declared.end.Fault.{Fault}
use Rattle.eip_exchange.specs.declared.setting.Clause.{Clause}
use Rattle.eip_exchange.specs.Headers.{is_one_too_many}
use Rattle.eip_error_handler.specs.Clauses.{chosen}
use Rattle.eip_simple.specs.Values.{template_value}
use Rattle.eip_uri.specs.declared.uri.Uri.{Uri}
use Rattle.eip_splitter.specs.declared.fault.SplitFault.{SplitFault}
use Rattle.eip_router.specs.declared.fault.RecipientFault.{RecipientFault}
use Rattle.eip_route.specs.Goals.{goal_of}
use Rattle.eip_route.specs.declared.goal.Goal.{Goal}
use Rattle.eip_route.specs.declared.goal.Goal.TheVariants as goal
use Rattle.eip_route.specs.declared.route.RouteSet.{RouteSet}
use Rattle.eip_route.specs.declared.step.Check.{Check}
use Rattle.eip_route.specs.declared.step.Check.TheVariants as check
use Rattle.eip_route.specs.declared.step.Fan.{Fan}
use Rattle.eip_route.specs.declared.step.Step.{Step}
use Rattle.eip_route.specs.declared.step.Step.TheVariants as step
use Rattle.eip_frames.specs.declared.request.Seed.{Seed}
use Rattle.eip_frames.specs.declared.request.Target.{Target}
use Rattle.eip_meaning.specs.declared.context.Context.{Context}
use Rattle.eip_meaning.specs.Contexts.{in_handler}
use Rattle.eip_meaning.specs.Values.{seen_in, value_of, short}
use Rattle.eip_meaning.specs.Sends.{limit_fault, form_fault, target_of, is_queue}
use Rattle.eip_meaning.specs.FanOuts.{cut, listed}
use Rattle.eip_meaning.specs.Attempts.{clause_at, clause_for}
use Rattle.eip_meaning.specs.Meaning.{steps_of, decides}
use Rattle.eip_progress.specs.declared.tried.Progress.{Progress}
use Rattle.eip_progress.specs.declared.tried.Progress.TheVariants as progress
use Rattle.eip_progress.specs.declared.tried.Tried.{Tried}
use Rattle.eip_progress.specs.declared.frame.Task.{Task}
use Rattle.eip_progress.specs.declared.frame.Task.TheVariants as task
use Rattle.eip_progress.specs.declared.frame.Frame.{Frame}
use Rattle.eip_progress.specs.declared.frame.Frame.TheVariants as frame
use Rattle.eip_progress.specs.declared.frame.Now.TheVariants as now
use Rattle.eip_progress.specs.FirstTry.{unless_tried, value_tried, not_empty, key_tried, check_tried, nested_where, choice_tried, sent_tried, goal_tried, to_tried, fan_tried, piece_seeds, branch_seeds, recipient_seeds, pieces_tried, listed_tried, first_tried}
use Rattle.eip_turns.specs.Kept.{decider_of}
use Rattle.eip_turns.specs.Weights.{weight_of_option, weight_of_cases, steps_weight, block_weight, nested_block}
use Rattle.eip_turns.specs.Falls.{clauses_weight, handling_in, now_weight, tried_weight, try_weight, frame_weight, stack_weight}
use Rattle.eip_steps.proofs.Within.{some_within}
use Rattle.eip_turns.proofs.Turning.{drop_some}
use Rattle.eip_turns.proofs.Weighing.{weight_equation}

none_some : {X : Type 0} {k : X} → None ≡ Some k → ⊥
none_some e = cc

-- ---- handling

pub clauses_two : (set : RouteSet) (ks : List Clause) → 2 ≤ clauses_weight set ks
clauses_two set [] = omega arith
clauses_two set (k ∷ ks) = omega (arith, clauses_two set ks)

decider_is : (o : Option Clause) (k : Clause) → decider_of o ≡ Some k → o ≡ Some k
decider_is None k e = absurd (none_some e)
decider_is (Some j) k e = elim (cases_Bool (decides j)) [ inl t ↦ rw t at e | inr t ↦ absurd (none_some (rw t at e)) ]

clause_weighs : (set : RouteSet) (ks : List Clause) (i : ℕ) (k : Clause) → slice_get ks i ≡ Some k → 2 + weight_of_option (block_weight set 0) k.block ≤ clauses_weight set ks
clause_weighs set [] zero k e = absurd (none_some e)
clause_weighs set [] (suc i) k e = absurd (none_some e)
clause_weighs set (j ∷ ks) zero k e = let q : j ≡ k = cc in rw (← q) (omega arith)
clause_weighs set (j ∷ ks) (suc i) k e = omega (arith, clause_weighs set ks i k e)

found_weighs : (set : RouteSet) (o : Option ℕ) (k : Clause) → clause_at set o ≡ Some k → 2 + weight_of_option (block_weight set 0) k.block ≤ clauses_weight set set.clauses
found_weighs set None k e = absurd (none_some e)
found_weighs set (Some i) k e = clause_weighs set set.clauses i k e

pub handles_fall : (set : RouteSet) (c : Context) (f : Fault) (k : Clause) (m : Message) → decider_of (clause_for set f) ≡ Some k →
    now_weight set (now.Handles k.handled k.continued f (in_handler c) k.block m) ≤ clauses_weight set set.clauses
handles_fall set c f k m e = found_weighs set (chosen set.clauses f) k (decider_is (clause_for set f) k e)

-- ---- frames

pushed : (set : RouteSet) (fs : List Frame) (f : Frame) → stack_weight set (fs ++ f ∷ []) ≡ stack_weight set fs + frame_weight set f
pushed set [] f = omega arith
pushed set (g ∷ fs) f = omega (arith, pushed set fs f)

pub stack_push : (set : RouteSet) (fs gs : List Frame) (f : Frame) → gs ≡ fs ++ f ∷ [] → stack_weight set gs ≡ stack_weight set fs + frame_weight set f
stack_push set fs gs f e = ap (stack_weight set) e ∙ pushed set fs f

pub steps_weight-pos : (h : ℕ) (n : ℕ → ℕ) (ss : List Step) → 0 < steps_weight h n ss
steps_weight-pos h n [] = omega arith
steps_weight-pos h n (s ∷ ss) = omega arith

pub rest_falls : (set : RouteSet) (c : Context) (b i : ℕ) → i < length (steps_of set b) →
    try_weight set c b (slice_get (steps_of set b) i) + 1 + frame_weight set (frame.Rest c b (i + 1)) ≤ frame_weight set (frame.Rest c b i)
rest_falls set c b i l =
    let p = some_within (steps_of set b) i l in
    let n : suc i ≡ i + 1 = omega arith in
    let d : drop i (steps_of set b) ≡ p.0 ∷ drop (i + 1) (steps_of set b) = drop_some (steps_of set b) i p.0 p.1 ∙ ap (λ (k : ℕ). p.0 ∷ drop k (steps_of set b)) n in
    rw (p.1, d) (omega arith)

pub block_frame : (set : RouteSet) (c : Context) (b : ℕ) → frame_weight set (frame.Rest c b 0) ≡ block_weight set (handling_in set c) b
block_frame set c b = sym (weight_equation set (handling_in set c) b)

-- ---- tries

module _ (set : RouteSet) (c : Context) (t : Task) where
  either : (x : Bool) (s s' : Tried) (n : ℕ) → tried_weight set c t s ≤ n → tried_weight set c t s' ≤ n → tried_weight set c t (cond x s s') ≤ n
  either true s s' n p q = p
  either false s s' n p q = q

  weighs_unless : (o : Option Fault) (m : Message) (x : Tried) (n : ℕ) → handling_in set c ≤ n → tried_weight set c t x ≤ n → tried_weight set c t (unless_tried o m x) ≤ n
  weighs_unless None m x n p q = q
  weighs_unless (Some f) m x n p q = p

  weighs_value : (o : Option (List ℕ)) (m : Message) (k : List ℕ → Tried) (n : ℕ) → handling_in set c ≤ n → ((v : List ℕ) → tried_weight set c t (k v) ≤ n) → tried_weight set c t (value_tried o m k) ≤ n
  weighs_value None m k n p q = p
  weighs_value (Some v) m k n p q = q v

  weighs_not_empty : (f : Fault) (v : List ℕ) (m : Message) (k : List ℕ → Tried) (n : ℕ) → handling_in set c ≤ n → ((w : List ℕ) → tried_weight set c t (k w) ≤ n) → tried_weight set c t (not_empty f v m k) ≤ n
  weighs_not_empty f [] m k n p q = p
  weighs_not_empty f (b ∷ bs) m k n p q = q (b ∷ bs)

  weighs_key : (f : Fault) (o : Option (List ℕ)) (m : Message) (k : List ℕ → Tried) (n : ℕ) → handling_in set c ≤ n → ((w : List ℕ) → tried_weight set c t (k w) ≤ n) → tried_weight set c t (key_tried f o m k) ≤ n
  weighs_key f None m k n p q = p
  weighs_key f (Some v) m k n p q = weighs_not_empty f v m k n p q

  weighs_check : (k : Check) (g : Progress) (x m : Message) (K : Bool → Tried) (n : ℕ) → ((h : Bool) → tried_weight set c t (K h) ≤ n) → tried_weight set c t (check_tried set c k g x m K) ≤ n
  weighs_check (check.Simple p) g x m K n q = q _
  weighs_check (check.Fixed y) g x m K n q = q y
  weighs_check (check.Stored name) g x m K n q = omega arith

  -- ---- sends

  weighs_sent : (o : Option Target) (m : Message) (n : ℕ) → tried_weight set c t (sent_tried o m) ≤ n
  weighs_sent None m n = omega arith
  weighs_sent (Some x) m n = omega arith

  weighs_goal : (u : Uri) (g : Goal) (m : Message) (n : ℕ) → handling_in set c ≤ n → tried_weight set c t (goal_tried set c u g m) ≤ n
  weighs_goal u (goal.Direct r) m n p = omega arith
  weighs_goal u (goal.Queue r) m n p = either (is_queue set r) _ _ n (omega arith) p
  weighs_goal u goal.Lane m n p = weighs_unless (form_fault c u m) m _ n p (weighs_sent (target_of c u m) m n)
  weighs_goal u goal.Log m n p = omega arith
  weighs_goal u goal.NoConsumer m n p = p

  pub weighs_to : (u : Uri) (m : Message) (n : ℕ) → handling_in set c ≤ n → tried_weight set c t (to_tried set c u m) ≤ n
  weighs_to u m n p = weighs_unless (limit_fault c u) m _ n p (weighs_goal u (goal_of set u) m n p)

  -- ---- fan-outs

  weighs_fan : (fan : Fan) (xs : List Seed) (m : Message) (n : ℕ) → tried_weight set c t (fan_tried fan xs m) ≤ n
  weighs_fan fan [] m n = omega arith
  weighs_fan fan (x ∷ xs) m n = either fan.parallel _ _ n (omega arith) (omega arith)

  weighs_pieces : (r : Result (List Message) SplitFault) (fan : Fan) (j : ℕ) (m : Message) (n : ℕ) → handling_in set c ≤ n → tried_weight set c t (pieces_tried r c fan j m) ≤ n
  weighs_pieces (Ok ms) fan j m n p = weighs_fan fan (piece_seeds c fan j ms) m n
  weighs_pieces (Err f) fan j m n p = p

  weighs_listed : (r : Result (List Uri) RecipientFault) (fan : Fan) (m : Message) (n : ℕ) → handling_in set c ≤ n → tried_weight set c t (listed_tried r c fan m) ≤ n
  weighs_listed (Ok us) fan m n p = weighs_fan fan (recipient_seeds c fan us m) m n
  weighs_listed (Err f) fan m n p = p

module _ (set : RouteSet) (c : Context) (b i : ℕ) where
  -- what a case and those behind it may leave
  abbrev of_cases : List (Check × ℕ) → Option ℕ → ℕ
  of_cases xs o = 1 + handling_in set c + (weight_of_cases (nested_block set (handling_in set c) b) xs + weight_of_option (nested_block set (handling_in set c) b) o)

  weighs_where : (o : Option ℕ) (m : Message) → tried_weight set c (task.Step b i) (nested_where o m) ≤ of_cases [] o
  weighs_where None m = omega arith
  weighs_where (Some j) m = omega arith

  weighs_choice : (k : ℕ) (xs : List (Check × ℕ)) (o : Option ℕ) (m : Message) → tried_weight set c (task.Step b i) (choice_tried set c k xs o m) ≤ of_cases xs o
  weighs_choice k [] o m = weighs_where o m
  weighs_choice k (x ∷ xs) o m =
      let behind : tried_weight set c (task.Step b i) (choice_tried set c (suc k) xs o m) ≤ of_cases xs o = weighs_choice (suc k) xs o m in
      weighs_check set c (task.Step b i) x.0 (progress.Choosing k) m m _ (of_cases (x ∷ xs) o)
      (λ h. either set c (task.Step b i) h _ _ (of_cases (x ∷ xs) o) (omega arith) (omega (arith, behind)))

  -- what a try leaves is no more than its step may
  pub weighs_first : (s : Step) (m : Message) → tried_weight set c (task.Step b i) (first_tried set c s m) ≤ try_weight set c b (Some s)
  weighs_first (step.SetBody x) m = weighs_value set c (task.Step b i) (short (value_of set c x m)) m _ _ (omega arith) (λ v. omega arith)
  weighs_first (step.SetHeader name x) m =
      weighs_value set c (task.Step b i) (short (value_of set c x m)) m _ _ (omega arith)
      (λ v. either set c (task.Step b i) (is_one_too_many name m.headers) _ _ _ (omega arith) (omega arith))
  weighs_first (step.SetProperty name x) m = weighs_value set c (task.Step b i) (short (value_of set c x m)) m _ _ (omega arith) (λ v. omega arith)
  weighs_first (step.RemoveHeader name) m = omega arith
  weighs_first (step.To u) m = weighs_to set c (task.Step b i) u m _ (omega arith)
  weighs_first (step.Log name template) m = weighs_value set c (task.Step b i) (short (template_value template (seen_in set c m))) m _ _ (omega arith) (λ v. omega arith)
  weighs_first (step.Throw kind template) m = omega arith
  weighs_first (step.Process name) m = omega arith
  weighs_first (step.Choice cases o) m = weighs_choice 0 cases o m
  weighs_first (step.Filter k j) m =
      weighs_check set c (task.Step b i) k progress.First m m _ _ (λ h. either set c (task.Step b i) h _ _ _ (omega arith) (omega arith))
  weighs_first (step.Split how fan j) m = weighs_pieces set c (task.Step b i) (cut how m) fan j m _ (omega arith)
  weighs_first (step.Multicast fan bs) m =
      either set c (task.Step b i) (nat_le (length bs) 10000) _ _ _ (weighs_fan set c (task.Step b i) fan (branch_seeds c fan bs m) m _) (omega arith)
  weighs_first (step.Recipients list delimiter fan) m =
      weighs_value set c (task.Step b i) (short (value_of set c list m)) m _ _ (omega arith) (λ v. weighs_listed set c (task.Step b i) (listed delimiter v) fan m _ (omega arith))
  weighs_first (step.Aggregate g) m = weighs_key set c (task.Step b i) _ (short (value_of set c g.key m)) m _ _ (omega arith) (λ k. omega arith)
  weighs_first (step.Idempotent key repository skip eager remove j) m = weighs_key set c (task.Step b i) _ (short (value_of set c key m)) m _ _ (omega arith) (λ k. omega arith)
  weighs_first (step.Try j catches finish) m = omega arith
