-- What a try of a step gives as data means one try of the step.
use Rattle.std.proofs.Common.{◌≡◌, ℕ, zero, suc, Bool, true, false, cond, List, [], ◌∷◌, drop, refl, ◌∙◌, ap}
use Rattle.std.specs.Prelude.{Option, Some, None, Result, Ok, Err, slice_get, length, nat_le, unwrap_or}
use Rattle.std.proofs.Math.Path.{fun_ext}
use Rattle.eip_exchange.specs.declared.message.Message.{Message}
use Rattle.eip_exchange.specs.declared.end.Fault.{Fault}
use Rattle.eip_exchange.specs.declared.setting.Strategy.{Strategy}
use Rattle.eip_exchange.specs.declared.setting.Strategy.TheVariants as strategy
use Rattle.eip_exchange.specs.Headers.{is_one_too_many}
use Rattle.eip_simple.specs.Values.{template_value}
use Rattle.eip_uri.specs.declared.uri.Uri.{Uri}
use Rattle.eip_splitter.specs.declared.fault.SplitFault.{SplitFault}
use Rattle.eip_router.specs.declared.fault.RecipientFault.{RecipientFault}
use Rattle.eip_route.specs.declared.route.RouteSet.{RouteSet}
use Rattle.eip_route.specs.declared.step.Check.{Check}
use Rattle.eip_route.specs.declared.step.Check.TheVariants as check
use Rattle.eip_route.specs.declared.step.Fan.{Fan}
use Rattle.eip_route.specs.declared.step.Step.{Step}
use Rattle.eip_route.specs.declared.step.Step.TheVariants as step
use Rattle.eip_frames.specs.declared.request.Seed.{Seed}
use Rattle.eip_frames.specs.declared.request.Request.{Request}
use Rattle.eip_frames.specs.declared.answer.Answer.{Answer as Reply}
use Rattle.eip_meaning.specs.declared.context.Context.{Context}
use Rattle.eip_meaning.specs.Outcomes.{Outcome, Goes, unless_fault, ask}
use Rattle.eip_meaning.specs.Contexts.{place_in}
use Rattle.eip_meaning.specs.Values.{seen_in, value_of, short, with_short, with_key, with_short_key, sets_header}
use Rattle.eip_meaning.specs.Checks.{held, tested, block_or_goes, choice_mean}
use Rattle.eip_meaning.specs.FanOuts.{fan_mean, cut, listed, with_parts, with_recipients}
use Rattle.eip_meaning.specs.Steps.{one_try}
use Rattle.eip_meaning.specs.Meaning.{steps_of}
use Rattle.eip_progress.specs.declared.tried.Progress.{Progress}
use Rattle.eip_progress.specs.declared.tried.Progress.TheVariants as progress
use Rattle.eip_progress.specs.declared.tried.Tried.{Tried}
use Rattle.eip_progress.specs.Tries.{asked}
use Rattle.eip_progress.specs.declared.frame.Task.TheVariants as task
use Rattle.eip_progress.specs.FirstTry.{unless_tried, value_tried, not_empty, key_tried, header_tried, check_tried, nested_if, nested_where, choice_tried, fan_tried, piece_seeds, recipient_seeds, pieces_tried, listed_tried, first_tried}
use Rattle.eip_progress.specs.Rest.{nested_at, call_at, fan_cont, case_cont, cont_of_step, cont_of_found, tried_mean}
use Rattle.eip_progress.proofs.SendTries.{send_as}

-- ---- lists from a place on

pub drop_get : {A : Type 0} (k : ℕ) (l : List A) (x : A) (xs : List A) → drop k l ≡ x ∷ xs → slice_get l k ≡ Some x
drop_get zero [] x xs h = cc
drop_get zero (y ∷ ys) x xs h = cc
drop_get (suc k) [] x xs h = cc
drop_get (suc k) (y ∷ ys) x xs h = drop_get k ys x xs h

pub drop_next : {A : Type 0} (k : ℕ) (l : List A) (x : A) (xs : List A) → drop k l ≡ x ∷ xs → drop (suc k) l ≡ xs
drop_next zero [] x xs h = cc
drop_next zero (y ∷ ys) x xs h = cc
drop_next (suc k) [] x xs h = cc
drop_next (suc k) (y ∷ ys) x xs h = drop_next k ys x xs h

pub cond_both : (b : Bool) {x x' y y' : Outcome} → x ≡ x' → y ≡ y' → cond b x y ≡ cond b x' y'
cond_both true p q = p
cond_both false p q = q

module _ (set : RouteSet) (whole : Option Uri) (c : Context) (b i : ℕ) where
  abbrev pub means : Tried → List Reply → Outcome
  means t A = tried_mean set whole c (task.Step b i) t A

  pub means_cond : (test : Bool) (x y : Tried) (A : List Reply) → means (cond test x y) A ≡ cond test (means x A) (means y A)
  means_cond true x y A = refl
  means_cond false x y A = refl

  pub means_unless : (o : Option Fault) (m : Message) (x : Tried) (K : List Reply → Outcome) (A : List Reply) → ((A' : List Reply) → means x A' ≡ K A') → means (unless_tried o m x) A ≡ unless_fault o K A
  means_unless None m x K A h = h A
  means_unless (Some f) m x K A h = refl

  means_value : (o : Option (List ℕ)) (m : Message) (k : List ℕ → Tried) (K : List ℕ → List Reply → Outcome) (A : List Reply) → ((v : List ℕ) (A' : List Reply) → means (k v) A' ≡ K v A') → means (value_tried o m k) A ≡ with_short o K A
  means_value None m k K A h = refl
  means_value (Some v) m k K A h = h v A

  means_not_empty : (f : Fault) (v : List ℕ) (m : Message) (k : List ℕ → Tried) (K : List ℕ → List Reply → Outcome) (A : List Reply) → ((w : List ℕ) (A' : List Reply) → means (k w) A' ≡ K w A') → means (not_empty f v m k) A ≡ with_key f v K A
  means_not_empty f [] m k K A h = refl
  means_not_empty f (x ∷ xs) m k K A h = h (x ∷ xs) A

  means_key : (f : Fault) (o : Option (List ℕ)) (m : Message) (k : List ℕ → Tried) (K : List ℕ → List Reply → Outcome) (A : List Reply) → ((w : List ℕ) (A' : List Reply) → means (k w) A' ≡ K w A') → means (key_tried f o m k) A ≡ with_short_key f o K A
  means_key f None m k K A h = refl
  means_key f (Some v) m k K A h = means_not_empty f v m k K A h

  module _ (s : Step) (e : slice_get (steps_of set b) i ≡ Some s) where
    -- a request of the step, with what follows at the step
    pub asks_as : (p : Progress) (q : Request) (k : ℕ) (m : Message) (K : Reply → List Reply → Outcome) (A : List Reply) → ((a : Reply) (A' : List Reply) → cont_of_step set c b s p m a A' ≡ K a A') →
        means (asked p q k m) A ≡ ask set q (place_in c k) K A
    asks_as p q k m K A h =
        ap (λ (F : Reply → List Reply → Outcome). ask set q (place_in c k) F A)
        (fun_ext (λ a. fun_ext (λ A'. ap (λ (o : Option Step). cont_of_found set c b o p m a A') e ∙ h a A')))

    pub check_as : (k : Check) (p : Progress) (x m : Message) (K : Bool → Tried) (L : Bool → List Reply → Outcome) (A : List Reply) →
        ((h : Bool) (A' : List Reply) → means (K h) A' ≡ L h A') → ((a : Reply) (A' : List Reply) → cont_of_step set c b s p m a A' ≡ L (held a) A') →
        means (check_tried set c k p x m K) A ≡ tested set c k x L A
    check_as (check.Simple t) p x m K L A g h = g _ A
    check_as (check.Fixed y) p x m K L A g h = g y A
    check_as (check.Stored name) p x m K L A g h = asks_as p _ 0 m (λ a A'. L (held a) A') A h

    -- a fan-out over its seeds, where what follows at the step is that of a fan-out
    pub fan_as : (fan : Fan) (st : Strategy) → ((p : Progress) (m : Message) (a : Reply) (A : List Reply) → cont_of_step set c b s p m a A ≡ fan_cont set c st fan.stop p m a A) →
        (xs : List Seed) (m : Message) (A : List Reply) → means (fan_tried fan xs m) A ≡ fan_mean set c fan st xs m A
    fan_as fan st F [] m A = refl
    fan_as fan st F (x ∷ xs) m A =
        means_cond fan.parallel _ _ A
        ∙ cond_both fan.parallel
        (asks_as progress.SpawningAll _ 0 m _ A (λ a A'. F progress.SpawningAll m a A'))
        (asks_as (progress.Spawning 0 [] xs) _ 0 m _ A (λ a A'. F (progress.Spawning 0 [] xs) m a A'))

  -- ---- choices

  where_as : (o : Option ℕ) (m : Message) (A : List Reply) → means (nested_where o m) A ≡ block_or_goes (nested_at set c b) o m A
  where_as None m A = refl
  where_as (Some j) m A = refl

  module _ (cases : List (Check × ℕ)) (otherwise : Option ℕ) (e : slice_get (steps_of set b) i ≡ Some (step.Choice cases otherwise)) (m : Message) where
    pub choice_as : (k : ℕ) (xs : List (Check × ℕ)) → drop k cases ≡ xs → (A : List Reply) → means (choice_tried set c k xs otherwise m) A ≡ choice_mean set (nested_at set c b) c xs otherwise m A
    choice_as k [] h A = where_as otherwise m A
    choice_as k (x ∷ xs) h A =
        check_as (step.Choice cases otherwise) e x.0 (progress.Choosing k) m m _
        (λ holds A'. cond holds (nested_at set c b x.1 m A') (choice_mean set (nested_at set c b) c xs otherwise m A'))
        A
        (λ holds A'. means_cond holds _ _ A' ∙ cond_both holds refl (choice_as (suc k) xs (drop_next k cases x xs h) A'))
        (λ a A'. ap (λ (o : Option (Check × ℕ)). case_cont set c b (drop (suc k) cases) otherwise o m a A') (drop_get k cases x xs h)
        ∙ ap (λ (l : List (Check × ℕ)). cond (held a) (nested_at set c b x.1 m A') (choice_mean set (nested_at set c b) c l otherwise m A')) (drop_next k cases x xs h))

  -- ---- fan-outs

  pieces_as : (how_parts : Result (List Message) SplitFault) (fan : Fan) (j : ℕ) (s : Step) (e : slice_get (steps_of set b) i ≡ Some s) (st : Strategy) →
      ((p : Progress) (m : Message) (a : Reply) (A : List Reply) → cont_of_step set c b s p m a A ≡ fan_cont set c st fan.stop p m a A) → (m : Message) (A : List Reply) →
      means (pieces_tried how_parts c fan j m) A ≡ with_parts how_parts (λ ms A'. fan_mean set c fan st (piece_seeds c fan j ms) m A') A
  pieces_as (Ok ms) fan j s e st F m A = fan_as s e fan st F (piece_seeds c fan j ms) m A
  pieces_as (Err f) fan j s e st F m A = refl

  listed_as : (r : Result (List Uri) RecipientFault) (fan : Fan) (s : Step) (e : slice_get (steps_of set b) i ≡ Some s) (st : Strategy) →
      ((p : Progress) (m : Message) (a : Reply) (A : List Reply) → cont_of_step set c b s p m a A ≡ fan_cont set c st fan.stop p m a A) → (m : Message) (A : List Reply) →
      means (listed_tried r c fan m) A ≡ with_recipients r (λ us A'. fan_mean set c fan st (recipient_seeds c fan us m) m A') A
  listed_as (Ok us) fan s e st F m A = fan_as s e fan st F (recipient_seeds c fan us m) m A
  listed_as (Err f) fan s e st F m A = refl

  -- ---- a step

  pub first_as : (s : Step) → slice_get (steps_of set b) i ≡ Some s → (m : Message) (A : List Reply) → means (first_tried set c s m) A ≡ one_try set (nested_at set c b) (call_at set c) c s m A
  first_as (step.SetBody x) e m A = means_value (short (value_of set c x m)) m _ _ A (λ v A'. refl)
  first_as (step.SetHeader name x) e m A =
      means_value (short (value_of set c x m)) m (λ v. header_tried name v m) (λ v A'. sets_header name v m A') A (λ v A'. means_cond (is_one_too_many name m.headers) _ _ A')
  first_as (step.SetProperty name x) e m A = means_value (short (value_of set c x m)) m _ _ A (λ v A'. refl)
  first_as (step.RemoveHeader name) e m A = refl
  first_as (step.To u) e m A = send_as set whole c (task.Step b i) u (λ p m' a A'. ap (λ (o : Option Step). cont_of_found set c b o p m' a A') e) m A
  first_as (step.Log name template) e m A =
      means_value (short (template_value template (seen_in set c m))) m _ _ A (λ text A'. asks_as (step.Log name template) e progress.First _ 0 m _ A' (λ a A''. refl))
  first_as (step.Throw kind template) e m A = refl
  first_as (step.Process name) e m A = asks_as (step.Process name) e progress.First _ 0 m _ A (λ a A'. refl)
  first_as (step.Choice cases otherwise) e m A = choice_as cases otherwise e m 0 cases refl A
  first_as (step.Filter k j) e m A =
      check_as (step.Filter k j) e k progress.First m m (λ holds. nested_if holds j m) (λ holds A'. cond holds (nested_at set c b j m A') (Goes m A')) A
      (λ holds A'. means_cond holds _ _ A') (λ a A'. refl)
  first_as (step.Split how fan j) e m A = pieces_as (cut how m) fan j (step.Split how fan j) e (unwrap_or fan.strategy strategy.Original) (λ p m' a A'. refl) m A
  first_as (step.Multicast fan bs) e m A =
      means_cond (nat_le (length bs) 10000) _ _ A
      ∙ cond_both (nat_le (length bs) 10000) (fan_as (step.Multicast fan bs) e fan (unwrap_or fan.strategy strategy.Latest) (λ p m' a A'. refl) _ m A) refl
  first_as (step.Recipients list delimiter fan) e m A =
      means_value (short (value_of set c list m)) m _ _ A
      (λ value A'. listed_as (listed delimiter value) fan (step.Recipients list delimiter fan) e (unwrap_or fan.strategy strategy.Latest) (λ p m' a A''. refl) m A')
  first_as (step.Aggregate g) e m A = means_key _ (short (value_of set c g.key m)) m _ _ A (λ key A'. asks_as (step.Aggregate g) e progress.First _ 0 m _ A' (λ a A''. refl))
  first_as (step.Idempotent key repository skip eager remove j) e m A =
      means_key _ (short (value_of set c key m)) m _ _ A (λ text A'. asks_as (step.Idempotent key repository skip eager remove j) e progress.First _ 0 m _ A' (λ a A''. refl))
  first_as (step.Try j catches finish) e m A = asks_as (step.Try j catches finish) e (progress.Entering 0 None) _ 0 m _ A (λ a A'. refl)
