-- The turns between two requests.
use Rattle.std.proofs.Common.{◌≡◌, ℕ, zero, suc, ◌+◌, ◌<◌, Bool, List, [], ◌∷◌, ◌++◌, refl, sym, ◌∙◌, ap, arith, drop, length}
use Rattle.std.specs.Prelude.{Option, Some, None, slice_get}
use Rattle.std.proofs.Math.Path.{fun_ext}
use Rattle.eip_exchange.specs.declared.message.Message.{Message}
use Rattle.eip_exchange.specs.declared.end.End.{End}
use Rattle.eip_uri.specs.declared.uri.Uri.{Uri}
use Rattle.eip_route.specs.declared.route.RouteSet.{RouteSet}
use Rattle.eip_route.specs.declared.step.Step.{Step}
use Rattle.eip_frames.specs.declared.answer.Answer.{Answer as Reply}
use Rattle.eip_meaning.specs.declared.context.Context.{Context}
use Rattle.eip_meaning.specs.Contexts.{place_in}
use Rattle.eip_meaning.specs.Outcomes.{Outcome, Asks, Goes, Stops, Faults, Stray, Runner, followed}
use Rattle.eip_meaning.specs.Steps.{one_try}
use Rattle.eip_meaning.specs.Attempts.{tries}
use Rattle.eip_meaning.specs.Meaning.{steps_of, steps_mean, handle_in, finished}
use Rattle.eip_progress.specs.declared.frame.Frame.{Frame}
use Rattle.eip_progress.specs.declared.frame.Task.TheVariants as task
use Rattle.eip_progress.specs.Rest.{nested_at, call_at, try_of, try_of_step, tries_of, rest_of_block, frame_mean, behind_all, now_mean, rest_of}
use Rattle.eip_turns.specs.declared.course.Course.{Course}
use Rattle.eip_turns.specs.declared.course.Course.TheVariants as course
use Rattle.eip_turns.specs.Courses.{now_of, state_of, IsLast}
use Rattle.eip_steps.proofs.Within.{some_within}

none_some : {X : Type 0} {k : X} → None ≡ Some k → ⊥
none_some e = cc

drop_none : {X : Type 0} (xs : List X) (i : ℕ) → slice_get xs i ≡ None → drop i xs ≡ []
drop_none [] zero e = refl
drop_none [] (suc i) e = refl
drop_none (x ∷ xs) zero e = absurd (none_some (sym e))
drop_none (x ∷ xs) (suc i) e = drop_none xs i e

pub drop_some : {X : Type 0} (xs : List X) (i : ℕ) (x : X) → slice_get xs i ≡ Some x → drop i xs ≡ x ∷ drop (suc i) xs
drop_some [] zero x e = absurd (none_some e)
drop_some [] (suc i) x e = absurd (none_some e)
drop_some (y ∷ xs) zero x e = let q : y ≡ x = cc in rw q refl
drop_some (y ∷ xs) (suc i) x e = drop_some xs i x e

module _ (set : RouteSet) where
  pub rest_none : (c : Context) (b i : ℕ) (m : Message) (A : List Reply) → slice_get (steps_of set b) i ≡ None → Goes m A ≡ rest_of_block set c b i m A
  rest_none c b i m A e = rw (drop_none (steps_of set b) i e) refl

  -- where no step is left, what comes behind changes nothing
  pub rest_over : (c : Context) (b i : ℕ) (o : Outcome) → slice_get (steps_of set b) i ≡ None → o ≡ followed o (λ m A. rest_of_block set c b i m A)
  rest_over c b i (Asks q p) e = refl
  rest_over c b i (Goes m A) e = rest_none c b i m A e
  rest_over c b i (Stops y m A) e = refl
  rest_over c b i (Faults f again A) e = refl
  rest_over c b i Stray e = refl

  rest_some : (whole : Option Uri) (c : Context) (b i : ℕ) (s : Step) (m : Message) (A : List Reply) → slice_get (steps_of set b) i ≡ Some s →
      followed (tries_of set whole c (task.Step b i) 1000 m A) (λ m' A'. rest_of_block set c b (i + 1) m' A') ≡ rest_of_block set c b i m A
  rest_some whole c b i s m A e =
      let n : suc i ≡ i + 1 = omega arith in
      let d : drop i (steps_of set b) ≡ s ∷ drop (i + 1) (steps_of set b) = drop_some (steps_of set b) i s e ∙ ap (λ (k : ℕ). s ∷ drop k (steps_of set b)) n in
      let t : try_of set whole c (task.Step b i) ≡ one_try set (nested_at set c b) (call_at set c) c s = fun_ext (λ m'. fun_ext (λ A'. ap (λ (o : Option Step). try_of_step set c b o m' A') e)) in
      ap (λ (try : Runner). followed (tries set (handle_in set c) try c 1000 m A) (λ m' A'. rest_of_block set c b (i + 1) m' A')) t
      ∙ ap (λ (ss : List Step). steps_mean set (handle_in set c) (nested_at set c b) (call_at set c) c ss m A) (sym d)

  -- a step, and the rest of its block behind it
  pub rest_some_at : (whole : Option Uri) (c : Context) (b i : ℕ) (m : Message) (A : List Reply) → i < length (steps_of set b) →
      followed (tries_of set whole c (task.Step b i) 1000 m A) (λ m' A'. rest_of_block set c b (i + 1) m' A') ≡ rest_of_block set c b i m A
  rest_some_at whole c b i m A h = let p = some_within (steps_of set b) i h in rest_some whole c b i p.0 m A p.1

  -- ---- frames

  behind_push : (fs : List Frame) (f : Frame) (o : Outcome) → behind_all set (fs ++ f ∷ []) o ≡ behind_all set fs (followed o (λ m A. frame_mean set f m A))
  behind_push [] f o = refl
  behind_push (g ∷ fs) f o = ap (λ (x : Outcome). followed x (λ m A. frame_mean set g m A)) (behind_push fs f o)

  -- a frame that is pushed follows first
  pub behind_push_at : (fs gs : List Frame) (f : Frame) (o : Outcome) → gs ≡ fs ++ f ∷ [] → behind_all set gs o ≡ behind_all set fs (followed o (λ m A. frame_mean set f m A))
  behind_push_at fs gs f o e = ap (λ (hs : List Frame). behind_all set hs o) e ∙ behind_push fs f o

  pub behind_stops : (fs : List Frame) (e : End) (m : Message) (A : List Reply) → behind_all set fs (Stops e m A) ≡ Stops e m A
  behind_stops [] e m A = refl
  behind_stops (g ∷ fs) e m A = ap (λ (x : Outcome). followed x (λ m' A'. frame_mean set g m' A')) (behind_stops fs e m A)

  -- a course without a further turn, with the frames behind it, is its state
  pub last_as : (commit : Bool) (item : List ℕ) (d : Context) (whole : Option Uri) (fs : List Frame) (n : Course) (m : Message) (A : List Reply) → IsLast n →
      rest_of set commit item d whole fs (state_of n m) A ≡ finished commit item (place_in d 0) (behind_all set fs (now_mean set whole (now_of n m) A))
  last_as commit item d whole fs course.Goes m A l = absurd l
  last_as commit item d whole fs (course.Stops e) m A l = ap (finished commit item (place_in d 0)) (sym (behind_stops fs e m A))
  last_as commit item d whole fs (course.Asks c t left x) m A l = refl
  last_as commit item d whole fs (course.Sleeps c t left ticks) m A l = refl
  last_as commit item d whole fs (course.Enters c b) m A l = absurd l
  last_as commit item d whole fs (course.Handles handled continued f c b) m A l = absurd l
  last_as commit item d whole fs (course.Letters c) m A l = absurd l
