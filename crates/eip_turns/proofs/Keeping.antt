-- What a try hands back where it asks or faults is the message that it was made on.
use Rattle.std.proofs.Common.{ℕ, suc, Bool, true, false, cond, List, [], ◌∷◌, refl}
use Rattle.std.specs.Prelude.{Option, Some, None, Result, Ok, Err, length, nat_le}
use Rattle.eip_exchange.specs.declared.message.Message.{Message}
use Rattle.eip_exchange.specs.declared.end.Fault.{Fault}
use Rattle.eip_exchange.specs.Headers.{is_one_too_many}
use Rattle.eip_simple.specs.Values.{template_value}
use Rattle.eip_uri.specs.declared.uri.Uri.{Uri}
use Rattle.eip_splitter.specs.declared.fault.SplitFault.{SplitFault}
use Rattle.eip_router.specs.declared.fault.RecipientFault.{RecipientFault}
use Rattle.eip_route.specs.Goals.{goal_of}
use Rattle.eip_route.specs.declared.goal.Goal.{Goal}
use Rattle.eip_route.specs.declared.goal.Goal.TheVariants as goal
use Rattle.eip_route.specs.declared.route.RouteSet.{RouteSet}
use Rattle.eip_route.specs.declared.step.Check.{Check}
use Rattle.eip_route.specs.declared.step.Check.TheVariants as check
use Rattle.eip_route.specs.declared.step.Fan.{Fan}
use Rattle.eip_route.specs.declared.step.Step.{Step}
use Rattle.eip_route.specs.declared.step.Step.TheVariants as step
use Rattle.eip_frames.specs.declared.request.Seed.{Seed}
use Rattle.eip_frames.specs.declared.request.Target.{Target}
use Rattle.eip_meaning.specs.declared.context.Context.{Context}
use Rattle.eip_meaning.specs.Values.{seen_in, value_of, short}
use Rattle.eip_meaning.specs.Sends.{limit_fault, form_fault, target_of, is_queue}
use Rattle.eip_meaning.specs.FanOuts.{cut, listed}
use Rattle.eip_progress.specs.declared.tried.Progress.{Progress}
use Rattle.eip_progress.specs.declared.tried.Progress.TheVariants as progress
use Rattle.eip_progress.specs.declared.tried.Tried.{Tried}
use Rattle.eip_progress.specs.FirstTry.{unless_tried, value_tried, not_empty, key_tried, check_tried, nested_where, choice_tried, sent_tried, goal_tried, to_tried, fan_tried, piece_seeds, branch_seeds, recipient_seeds, pieces_tried, listed_tried, first_tried}
use Rattle.eip_turns.specs.Kept.{Keeps}

module _ (m : Message) where
  pub keeps_cond : (test : Bool) (x y : Tried) → Keeps x m → Keeps y m → Keeps (cond test x y) m
  keeps_cond true x y p q = p
  keeps_cond false x y p q = q

  pub keeps_unless : (o : Option Fault) (x : Tried) → Keeps x m → Keeps (unless_tried o m x) m
  keeps_unless None x p = p
  keeps_unless (Some f) x p = refl

  keeps_value : (o : Option (List ℕ)) (k : List ℕ → Tried) → ((v : List ℕ) → Keeps (k v) m) → Keeps (value_tried o m k) m
  keeps_value None k p = refl
  keeps_value (Some v) k p = p v

  keeps_not_empty : (f : Fault) (v : List ℕ) (k : List ℕ → Tried) → ((w : List ℕ) → Keeps (k w) m) → Keeps (not_empty f v m k) m
  keeps_not_empty f [] k p = refl
  keeps_not_empty f (b ∷ bs) k p = p (b ∷ bs)

  keeps_key : (f : Fault) (o : Option (List ℕ)) (k : List ℕ → Tried) → ((w : List ℕ) → Keeps (k w) m) → Keeps (key_tried f o m k) m
  keeps_key f None k p = refl
  keeps_key f (Some v) k p = keeps_not_empty f v k p

  module _ (set : RouteSet) (c : Context) where
    pub keeps_check : (k : Check) (g : Progress) (x : Message) (K : Bool → Tried) → ((h : Bool) → Keeps (K h) m) → Keeps (check_tried set c k g x m K) m
    keeps_check (check.Simple t) g x K p = p _
    keeps_check (check.Fixed y) g x K p = p y
    keeps_check (check.Stored name) g x K p = refl

    keeps_where : (o : Option ℕ) → Keeps (nested_where o m) m
    keeps_where None = tt
    keeps_where (Some j) = tt

    pub keeps_choice : (k : ℕ) (xs : List (Check × ℕ)) (otherwise : Option ℕ) → Keeps (choice_tried set c k xs otherwise m) m
    keeps_choice k [] otherwise = keeps_where otherwise
    keeps_choice k (x ∷ xs) otherwise = keeps_check x.0 (progress.Choosing k) m _ (λ h. keeps_cond h _ _ tt (keeps_choice (suc k) xs otherwise))

    -- ---- sends

    keeps_sent : (o : Option Target) → Keeps (sent_tried o m) m
    keeps_sent None = tt
    keeps_sent (Some t) = refl

    keeps_goal : (u : Uri) (g : Goal) → Keeps (goal_tried set c u g m) m
    keeps_goal u (goal.Direct r) = refl
    keeps_goal u (goal.Queue r) = keeps_cond (is_queue set r) _ _ refl refl
    keeps_goal u goal.Lane = keeps_unless (form_fault c u m) _ (keeps_sent (target_of c u m))
    keeps_goal u goal.Log = refl
    keeps_goal u goal.NoConsumer = refl

    pub keeps_to : (u : Uri) → Keeps (to_tried set c u m) m
    keeps_to u = keeps_unless (limit_fault c u) _ (keeps_goal u (goal_of set u))

    -- ---- fan-outs

    keeps_fan : (fan : Fan) (xs : List Seed) → Keeps (fan_tried fan xs m) m
    keeps_fan fan [] = tt
    keeps_fan fan (x ∷ xs) = keeps_cond fan.parallel _ _ refl refl

    keeps_pieces : (r : Result (List Message) SplitFault) (fan : Fan) (j : ℕ) → Keeps (pieces_tried r c fan j m) m
    keeps_pieces (Ok ms) fan j = keeps_fan fan (piece_seeds c fan j ms)
    keeps_pieces (Err f) fan j = refl

    keeps_listed : (r : Result (List Uri) RecipientFault) (fan : Fan) → Keeps (listed_tried r c fan m) m
    keeps_listed (Ok us) fan = keeps_fan fan (recipient_seeds c fan us m)
    keeps_listed (Err f) fan = refl

    -- ---- a step

    pub keeps_first : (s : Step) → Keeps (first_tried set c s m) m
    keeps_first (step.SetBody x) = keeps_value (short (value_of set c x m)) _ (λ v. tt)
    keeps_first (step.SetHeader name x) = keeps_value (short (value_of set c x m)) _ (λ v. keeps_cond (is_one_too_many name m.headers) _ _ refl tt)
    keeps_first (step.SetProperty name x) = keeps_value (short (value_of set c x m)) _ (λ v. tt)
    keeps_first (step.RemoveHeader name) = tt
    keeps_first (step.To u) = keeps_to u
    keeps_first (step.Log name template) = keeps_value (short (template_value template (seen_in set c m))) _ (λ v. refl)
    keeps_first (step.Throw kind template) = refl
    keeps_first (step.Process name) = refl
    keeps_first (step.Choice cases otherwise) = keeps_choice 0 cases otherwise
    keeps_first (step.Filter k j) = keeps_check k progress.First m _ (λ h. keeps_cond h _ _ tt tt)
    keeps_first (step.Split how fan j) = keeps_pieces (cut how m) fan j
    keeps_first (step.Multicast fan bs) = keeps_cond (nat_le (length bs) 10000) _ _ (keeps_fan fan (branch_seeds c fan bs m)) refl
    keeps_first (step.Recipients list delimiter fan) = keeps_value (short (value_of set c list m)) _ (λ v. keeps_listed (listed delimiter v) fan)
    keeps_first (step.Aggregate g) = keeps_key _ (short (value_of set c g.key m)) _ (λ k. refl)
    keeps_first (step.Idempotent key repository skip eager remove j) = keeps_key _ (short (value_of set c key m)) _ (λ k. refl)
    keeps_first (step.Try j catches finish) = refl
