-- A sequential fan-out between two of its parts.
use Rattle.std.proofs.Common.{◌≡◌, ℕ, ◌-◌, Bool, true, false, List, [], ◌∷◌, ◌++◌, length, refl, sym, ◌∙◌, ap, arith, length-append}
use Rattle.std.specs.Prelude.{Option, Some, None, Result, Ok, Err, IfOk, slice_get, unwrap_or, is_some, ◌&&◌, reverse}
use Rattle.eip_text.specs.declared.memory.NoMemory.{NoMemory}
use Rattle.std.proofs.lemmas.List.{reverse-append, reverse-reverse}
use Rattle.eip_exchange.specs.declared.message.Message.{Message}
use Rattle.eip_exchange.specs.declared.end.Ended.{Ended}
use Rattle.eip_exchange.specs.declared.setting.Strategy.{Strategy}
use Rattle.eip_exchange.specs.declared.setting.Strategy.TheVariants as strategy
use Rattle.eip_uri.specs.declared.uri.Uri.{Uri}
use Rattle.eip_route.specs.Faults.{next_number}
use Rattle.eip_route.specs.declared.step.Step.{Step}
use Rattle.eip_route.specs.declared.step.Step.TheVariants as step
use Rattle.eip_route.specs.declared.route.RouteSet.{RouteSet}
use Rattle.eip_frames.specs.Fits.{fits}
use Rattle.eip_frames.specs.declared.request.Seed.{Seed}
use Rattle.eip_frames.specs.declared.request.Request.{Request}
use Rattle.eip_frames.specs.declared.request.Request.TheVariants as request
use Rattle.eip_frames.specs.declared.answer.Answer.{Answer as Reply}
use Rattle.eip_meaning.specs.declared.context.Context.{Context}
use Rattle.eip_meaning.specs.Values.{redelivered}
use Rattle.eip_meaning.specs.Attempts.{number_of_try}
use Rattle.eip_meaning.specs.Meaning.{steps_of}
use Rattle.eip_meaning.specs.Parts.{first_fault}
use Rattle.eip_progress.specs.declared.tried.Progress.{Progress}
use Rattle.eip_progress.specs.declared.tried.Progress.TheVariants as progress
use Rattle.eip_progress.specs.declared.tried.Tried.{Tried}
use Rattle.eip_progress.specs.declared.frame.Task.{Task}
use Rattle.eip_progress.specs.declared.frame.Task.TheVariants as task
use Rattle.eip_progress.specs.declared.frame.Wait.TheVariants as wait
use Rattle.eip_progress.specs.Answered.{next_tried, fan_on, going_on}
use Rattle.eip_progress.specs.Rest.{tried_mean, guarded_mean, wait_mean}
use Rattle.eip_progress.specs.declared.tried.Asking.{Asking}
use Rattle.eip_progress.specs.Tries.{asked}
use Rattle.eip_cursor.specs.InTurn.{stop_in, step_found, trying, Moves, AskingMoves, WaitMoves}
use Rattle.eip_cursor.proofs.Replying.{step_goes_on, answered_none}

none_some : {X : Type 0} {k : X} → None ≡ Some k → ⊥
none_some e = cc

-- ---- seeds

seam : {X : Type 0} (zs : List X) (y : X) → slice_get (zs ++ y ∷ []) (length zs) ≡ Some y
seam [] y = refl
seam (z ∷ zs) y = seam zs y

last_of : {X : Type 0} (zs : List X) (y : X) → slice_get (zs ++ y ∷ []) (length (zs ++ y ∷ []) - 1) ≡ Some y
last_of zs y = let n : length (zs ++ y ∷ []) - 1 ≡ length zs = omega (arith, length-append zs (y ∷ [])) in rw n (seam zs y)

first_of : {X : Type 0} (r : List X) (x : X) → slice_get (reverse r) (length (reverse r) - 1) ≡ Some x → (l : List X) × (r ≡ x ∷ l)
first_of [] x e = absurd (none_some e)
first_of (y ∷ ys) x e =
    let q : reverse (y ∷ ys) ≡ reverse ys ++ y ∷ [] = reverse-append (y ∷ []) ys in
    let s : Some y ≡ Some x = sym (last_of (reverse ys) y) ∙ rw q at e in
    let w : y ≡ x = cc in
    (ys, ap (λ z. z ∷ ys) w)

-- the last one of what stands turned round is the first
pub first_turned : {X : Type 0} (t l : List X) (o : Option X) (x : X) → reverse t ≡ l → o ≡ slice_get t (length t - 1) → o ≡ Some x → (k : List X) × (l ≡ x ∷ k)
first_turned t l o x h e s =
    let f = first_of (reverse t) x (rw (reverse-reverse t) (sym e ∙ s)) in
    (f.0, sym h ∙ f.1)

pub next_taken : (s : Strategy) (stop : Bool) (ended parts : List Ended) (k : ℕ) (left l : List Seed) (x : Seed) (m : Message) →
    (stop && is_some (first_fault parts)) ≡ false → left ≡ x ∷ l →
    next_tried s stop ended k left parts m ≡ asked (progress.Spawning (next_number k) (ended ++ parts) l) (request.Spawn (x ∷ [])) (next_number k) m
next_taken s stop ended parts k left l x m f e = rw (f, e) refl

-- ---- the wait

module _ (set : RouteSet) (c : Context) where
  fan_of : (s : Step) (stop : Bool) (p : Progress) (m : Message) (a : Reply) → stop_in (Some s) ≡ Some stop → (st : Strategy) × (going_on set c s p m a ≡ fan_on st stop p m a)
  fan_of (step.Split how fan j) stop p m a e =
      let q : fan.stop ≡ stop = cc in (unwrap_or fan.strategy strategy.Original, ap (λ (b : Bool). fan_on (unwrap_or fan.strategy strategy.Original) b p m a) q)
  fan_of (step.Multicast fan bs) stop p m a e =
      let q : fan.stop ≡ stop = cc in (unwrap_or fan.strategy strategy.Latest, ap (λ (b : Bool). fan_on (unwrap_or fan.strategy strategy.Latest) b p m a) q)
  fan_of (step.Recipients list delimiter fan) stop p m a e =
      let q : fan.stop ≡ stop = cc in (unwrap_or fan.strategy strategy.Latest, ap (λ (b : Bool). fan_on (unwrap_or fan.strategy strategy.Latest) b p m a) q)
  fan_of (step.SetBody x) stop p m a e = absurd (none_some e)
  fan_of (step.SetHeader name x) stop p m a e = absurd (none_some e)
  fan_of (step.SetProperty name x) stop p m a e = absurd (none_some e)
  fan_of (step.RemoveHeader name) stop p m a e = absurd (none_some e)
  fan_of (step.To u) stop p m a e = absurd (none_some e)
  fan_of (step.Log name template) stop p m a e = absurd (none_some e)
  fan_of (step.Throw kind template) stop p m a e = absurd (none_some e)
  fan_of (step.Process name) stop p m a e = absurd (none_some e)
  fan_of (step.Choice cases otherwise) stop p m a e = absurd (none_some e)
  fan_of (step.Filter check j) stop p m a e = absurd (none_some e)
  fan_of (step.Aggregate g) stop p m a e = absurd (none_some e)
  fan_of (step.Idempotent key repository skip eager remove j) stop p m a e = absurd (none_some e)
  fan_of (step.Try j catches finish) stop p m a e = absurd (none_some e)

  module _ (whole : Option Uri) (left : ℕ) (m : Message) (stop : Bool) (x y : Asking) (a : Reply) (A : List Reply) where
    stays_at_step : (b i : ℕ) (o : Option Step) → slice_get (steps_of set b) i ≡ o → stop_in o ≡ Some stop → fits x.request a ≡ true → Moves stop x a y →
        wait_mean set whole (wait.Trying c (task.Step b i) left m y) A ≡ wait_mean set whole (wait.Trying c (task.Step b i) left m x) (a ∷ A)
    stays_at_step b i None e f h v = absurd (none_some f)
    stays_at_step b i (Some s) e f h v =
        let n : Message = redelivered m (number_of_try left) in
        let g = fan_of s stop x.progress n a f in
        ap (guarded_mean set whole c (task.Step b i) left m)
        (ap (λ (t : Tried). tried_mean set whole c (task.Step b i) t A) (sym (v.1 g.0 n) ∙ sym g.1)
        ∙ (step_goes_on set whole c b i s x.progress n a A e
        ∙ answered_none set whole c (task.Step b i) x.progress x.request x.index n a A h (v.0 set)))

    -- at the same try the exchange goes on from one request to the next
    pub stays : (t : Task) → stop_in (step_found set t) ≡ Some stop → fits x.request a ≡ true → Moves stop x a y →
        wait_mean set whole (wait.Trying c t left m y) A ≡ wait_mean set whole (wait.Trying c t left m x) (a ∷ A)
    stays (task.Step b i) f h v = stays_at_step b i (slice_get (steps_of set b) i) refl f h v
    stays task.Dead f h v = absurd (none_some f)
    stays task.Whole f h v = absurd (none_some f)

-- a wait goes on where what it has asked does
pub stays_or : (set : RouteSet) (c : Context) (t : Task) (left : ℕ) (m : Message) (x y : Asking) (a : Reply) (stop : Option Bool) (p p' : Option Request) (r : Result Bool NoMemory) →
    fits x.request a ≡ true → stop ≡ stop_in (step_found set t) →
    IfOk r (λ b. AskingMoves b stop x a y p p') → IfOk r (λ b. WaitMoves b set (trying c t left m x) a (trying c t left m y) p p')
stays_or set c t left m x y a stop p p' (Ok false) h s e = (ap (trying c t left m) e.0, e.1)
stays_or set c t left m x y a stop p p' (Ok true) h s e = (e.0, e.1, λ whole A. stays set c whole left m e.2 x y a A t (sym s ∙ e.3) h e.4, e.5)
stays_or set c t left m x y a stop p p' (Err n) h s e = tt
