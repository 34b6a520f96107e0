-- A try of a task.
use Rattle.std.proofs.Common.{◌≡◌, ℕ, zero, suc, ◌<◌, ◌≤◌, false, List, refl, sym, ◌∙◌, ap, arith}
use Rattle.std.specs.Prelude.{Option, Some, None, slice_get, unwrap_or, ltb}
use Rattle.std.proofs.lemmas.Bool.{lt-ltb}
use Rattle.eip_exchange.specs.declared.message.Message.{Message}
use Rattle.eip_exchange.specs.declared.birth.Work.TheVariants as work
use Rattle.eip_uri.specs.declared.uri.Uri.{Uri}
use Rattle.eip_route.specs.declared.route.RouteSet.{RouteSet}
use Rattle.eip_route.specs.declared.step.Step.{Step}
use Rattle.eip_frames.specs.declared.answer.Answer.{Answer as Reply}
use Rattle.eip_meaning.specs.declared.context.Context.{Context}
use Rattle.eip_meaning.specs.Outcomes.{Goes, Runner, caught}
use Rattle.eip_meaning.specs.Contexts.{called}
use Rattle.eip_meaning.specs.Values.{redelivered}
use Rattle.eip_meaning.specs.Attempts.{number_of_try, faulted}
use Rattle.eip_meaning.specs.Meaning.{steps_of, block_of_route, handle_in}
use Rattle.eip_meaning.proofs.Scripts.{Script, goes, either-script}
use Rattle.eip_meaning.proofs.BlockScripts.{work-script}
use Rattle.eip_meaning.proofs.Quiet.{caught_quiet}
use Rattle.eip_meaning.proofs.Unfolding.{tries_equation, next_of}
use Rattle.eip_progress.specs.declared.tried.Asking.{Asking}
use Rattle.eip_progress.specs.declared.tried.Tried.{Tried}
use Rattle.eip_progress.specs.declared.tried.Tried.TheVariants as tried
use Rattle.eip_progress.specs.declared.frame.Task.{Task}
use Rattle.eip_progress.specs.declared.frame.Task.TheVariants as task
use Rattle.eip_progress.specs.declared.frame.Wait.TheVariants as wait
use Rattle.eip_progress.specs.declared.frame.Now.TheVariants as now
use Rattle.eip_progress.specs.FirstTry.{first_tried, to_tried}
use Rattle.eip_progress.specs.Rest.{nested_at, call_at, try_of, try_of_step, try_of_send, tries_of, next_try, fault_mean, cont_of_send, asking_mean, guarded_mean, tried_mean, now_mean}
use Rattle.eip_progress.proofs.FirstTries.{first_as}
use Rattle.eip_progress.proofs.SendTries.{send_as}
use Rattle.eip_turns.specs.Kept.{Keeps, HasKept}
use Rattle.eip_turns.proofs.Faulting.{rest_at_start}

-- ---- what runs behind a try

module _ (set : RouteSet) (whole : Option Uri) (c : Context) where
  pub enters_as : (b j : ℕ) (m : Message) (A : List Reply) → b < j → now_mean set whole (now.Enters c j m) A ≡ nested_at set c b j m A
  enters_as b j m A h = rw (lt-ltb b j h) (rest_at_start set c j m A)

  pub calls_as : (r : ℕ) (m : Message) (A : List Reply) → c.depth < 32 → now_mean set whole (now.Enters (called c r) (block_of_route set r) m) A ≡ call_at set c r m A
  calls_as r m A h = rw (lt-ltb c.depth 32 h) (rest_at_start set (called c r) (block_of_route set r) m A)

  nested-script : (b j : ℕ) (m : Message) → Script set false (nested_at set c b j m)
  nested-script b j m = either-script (ltb b j) (work-script set c (work.Block j) m) (goes m (λ A. refl))

  call-script : (r : ℕ) (m : Message) → Script set false (call_at set c r m)
  call-script r m = either-script (ltb c.depth 32) (work-script set (called c r) (work.Block (block_of_route set r)) m) (goes m (λ A. refl))

  -- blocks never fault, so what treats the faults of a try has nothing to do there
  pub guarded_nested : (t : Task) (left : ℕ) (m : Message) (b j : ℕ) (x : Message) (A : List Reply) → nested_at set c b j x A ≡ guarded_mean set whole c t left m (nested_at set c b j x A)
  guarded_nested t left m b j x A = sym (caught_quiet (nested-script b j x) (λ f again A'. fault_mean set whole c t left m f again A') A)

  pub guarded_call : (t : Task) (left : ℕ) (m : Message) (r : ℕ) (x : Message) (A : List Reply) → call_at set c r x A ≡ guarded_mean set whole c t left m (call_at set c r x A)
  guarded_call t left m r x A = sym (caught_quiet (call-script r x) (λ f again A'. fault_mean set whole c t left m f again A') A)

  -- ---- a task with its tries

  next_same : (t : Task) (left : ℕ) → next_of set (handle_in set c) (try_of set whole c t) c left ≡ next_try set whole c t left
  next_same t zero = refl
  next_same t (suc left) = refl

  pub task_equation : (t : Task) (left : ℕ) (m : Message) (A : List Reply) →
      guarded_mean set whole c t left m (try_of set whole c t (redelivered m (number_of_try left)) A) ≡ tries_of set whole c t left m A
  task_equation t left m A =
      ap (λ (n : Option Runner). caught (try_of set whole c t (redelivered m (number_of_try left)) A) (λ f again A'. faulted set (handle_in set c) c (number_of_try left) n m f again A')) (sym (next_same t left))
      ∙ sym (tries_equation set (handle_in set c) (try_of set whole c t) c left m A)

  -- from what the try gives as data; x is the message of the try
  begun_as : (t : Task) (left : ℕ) (m x : Message) (given : Tried) (A : List Reply) → x ≡ redelivered m (number_of_try left) → tried_mean set whole c t given A ≡ try_of set whole c t x A →
      guarded_mean set whole c t left m (tried_mean set whole c t given A) ≡ tries_of set whole c t left m A
  begun_as t left m x given A e h =
      ap (guarded_mean set whole c t left m) (h ∙ ap (λ (n : Message). try_of set whole c t n A) e) ∙ task_equation t left m A

  pub step_begun : (b i : ℕ) (s : Step) (left : ℕ) (m x : Message) (A : List Reply) → slice_get (steps_of set b) i ≡ Some s → x ≡ redelivered m (number_of_try left) →
      guarded_mean set whole c (task.Step b i) left m (tried_mean set whole c (task.Step b i) (first_tried set c s x) A) ≡ tries_of set whole c (task.Step b i) left m A
  step_begun b i s left m x A e h =
      begun_as (task.Step b i) left m x (first_tried set c s x) A h
      (first_as set whole c b i s e x A ∙ ap (λ (o : Option Step). try_of_step set c b o x A) (sym e))

  pub no_step_begun : (b i left : ℕ) (m x : Message) (A : List Reply) → slice_get (steps_of set b) i ≡ None → x ≡ redelivered m (number_of_try left) → Goes x A ≡ tries_of set whole c (task.Step b i) left m A
  no_step_begun b i left m x A e h = begun_as (task.Step b i) left m x (tried.Goes x) A h (ap (λ (o : Option Step). try_of_step set c b o x A) (sym e))

  pub dead_begun : (u : Uri) (left : ℕ) (m x : Message) (A : List Reply) → set.handler.dead ≡ Some u → x ≡ redelivered m (number_of_try left) →
      guarded_mean set whole c task.Dead left m (tried_mean set whole c task.Dead (to_tried set c u x) A) ≡ tries_of set whole c task.Dead left m A
  dead_begun u left m x A e h =
      begun_as task.Dead left m x (to_tried set c u x) A h
      (send_as set whole c task.Dead u (λ p m' a A'. ap (λ (o : Option Uri). cont_of_send set c o m' A') e) x A ∙ ap (λ (o : Option Uri). try_of_send set c o x A) (sym e))

  pub no_dead_begun : (left : ℕ) (m x : Message) (A : List Reply) → set.handler.dead ≡ None → x ≡ redelivered m (number_of_try left) → Goes x A ≡ tries_of set whole c task.Dead left m A
  no_dead_begun left m x A e h = begun_as task.Dead left m x (tried.Goes x) A h (ap (λ (o : Option Uri). try_of_send set c o x A) (sym e))

  pub whole_begun : (u : Uri) (left : ℕ) (m x : Message) (A : List Reply) → whole ≡ Some u → x ≡ redelivered m (number_of_try left) →
      guarded_mean set whole c task.Whole left m (tried_mean set whole c task.Whole (to_tried set c u x) A) ≡ tries_of set whole c task.Whole left m A
  whole_begun u left m x A e h =
      begun_as task.Whole left m x (to_tried set c u x) A h
      (send_as set whole c task.Whole u (λ p m' a A'. ap (λ (o : Option Uri). cont_of_send set c o m' A') e) x A ∙ ap (λ (o : Option Uri). try_of_send set c o x A) (sym e))

  pub no_whole_begun : (left : ℕ) (m x : Message) (A : List Reply) → whole ≡ None → x ≡ redelivered m (number_of_try left) → Goes x A ≡ tries_of set whole c task.Whole left m A
  no_whole_begun left m x A e h = begun_as task.Whole left m x (tried.Goes x) A h (ap (λ (o : Option Uri). try_of_send set c o x A) (sym e))

  -- what is asked waits with the message as it stood at the step
  pub asks_kept : (t : Task) (left : ℕ) (kept : Option Message) (y : Asking) (x m : Message) (A : List Reply) → unwrap_or kept x ≡ m → x ≡ redelivered m (number_of_try left) →
      now_mean set whole (now.Waits (wait.Trying c t left (unwrap_or kept x) y)) A ≡ guarded_mean set whole c t left m (asking_mean set whole c t y.progress y.request y.index x A)
  asks_kept t left kept y x m A u r = rw u (ap (λ (n : Message). guarded_mean set whole c t left m (asking_mean set whole c t y.progress y.request y.index n A)) (sym r))

-- ---- the message that is kept

pub has_kept : (kept : Option Message) (left : ℕ) (t : Tried) (x m : Message) → Keeps t x → unwrap_or kept x ≡ m → x ≡ redelivered m (number_of_try left) → HasKept kept left t m
has_kept kept left (tried.Goes y) x m k u r = tt
has_kept kept left (tried.Faults f again y) x m k u r = (ap (λ (n : Message). unwrap_or kept n) k ∙ u, k ∙ r)
has_kept kept left (tried.Asks z y) x m k u r = (ap (λ (n : Message). unwrap_or kept n) k ∙ u, k ∙ r)
has_kept kept left (tried.Enters j y) x m k u r = tt
has_kept kept left (tried.Calls j y) x m k u r = tt

-- the first try is made on the message itself
pub first_message : (m : Message) (n : ℕ) → n ≤ 1 → m ≡ redelivered m n
first_message m zero h = refl
first_message m (suc zero) h = refl
first_message m (suc (suc n)) h = absurd (omega (arith, h))
