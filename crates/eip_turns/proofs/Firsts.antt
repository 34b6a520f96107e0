-- The first try of a step of a block, and the steps behind it.
use Rattle.std.proofs.Common.{◌≡◌, ℕ, ◌+◌, ◌<◌, ◌≤◌, List, refl, ◌∙◌, ap, arith, length}
use Rattle.std.specs.Prelude.{Option, Some, None, slice_get}
use Rattle.eip_exchange.specs.declared.message.Message.{Message}
use Rattle.eip_uri.specs.declared.uri.Uri.{Uri}
use Rattle.eip_route.specs.declared.step.Step.{Step}
use Rattle.eip_route.specs.declared.route.RouteSet.{RouteSet}
use Rattle.eip_frames.specs.declared.answer.Answer.{Answer as Reply}
use Rattle.eip_meaning.specs.declared.context.Context.{Context}
use Rattle.eip_meaning.specs.Outcomes.{Outcome, followed}
use Rattle.eip_meaning.specs.Meaning.{steps_of}
use Rattle.eip_progress.specs.declared.tried.Tried.{Tried}
use Rattle.eip_progress.specs.declared.tried.Tried.TheVariants as tried
use Rattle.eip_progress.specs.declared.frame.Task.TheVariants as task
use Rattle.eip_progress.specs.FirstTry.{first_tried}
use Rattle.eip_progress.specs.declared.frame.Frame.{Frame}
use Rattle.eip_progress.specs.Rest.{rest_of_block, behind_all}
use Rattle.eip_turns.specs.First.{first_at, behind_try}
use Rattle.eip_turns.specs.Kept.{HasKept}
use Rattle.eip_turns.specs.Falls.{tried_weight, try_weight}
use Rattle.eip_turns.proofs.Keeping.{keeps_first}
use Rattle.eip_turns.proofs.Trying.{step_begun, has_kept}
use Rattle.eip_steps.proofs.Within.{some_within}
use Rattle.eip_turns.proofs.Turning.{rest_some_at}
use Rattle.eip_turns.proofs.Falling.{weighs_first}

-- what the first try hands back where it asks or faults is the message as it stood at the step
first_kept : (set : RouteSet) (c : Context) (o : Option Step) (m : Message) → HasKept None 1000 (first_at set c o m) m
first_kept set c None m = tt
first_kept set c (Some s) m = has_kept None 1000 (first_tried set c s m) m m (keeps_first m set c s) refl refl

first_weighs : (set : RouteSet) (c : Context) (b i : ℕ) (o : Option Step) (m : Message) → tried_weight set c (task.Step b i) (first_at set c o m) ≤ try_weight set c b o
first_weighs set c b i None m = omega arith
first_weighs set c b i (Some s) m = weighs_first set c b i s m

-- the same of what is known to be given by the first try
pub kept_as : (set : RouteSet) (c : Context) (o : Option Step) (m : Message) (t : Tried) → t ≡ first_at set c o m → HasKept None 1000 t m
kept_as set c o m t e = rw e (first_kept set c o m)

pub weighs_as : (set : RouteSet) (c : Context) (b i : ℕ) (o : Option Step) (m : Message) (t : Tried) → t ≡ first_at set c o m → tried_weight set c (task.Step b i) t ≤ try_weight set c b o
weighs_as set c b i o m t e = rw e (first_weighs set c b i o m)

module _ (set : RouteSet) (whole : Option Uri) (c : Context) (b i : ℕ) (m : Message) (A : List Reply) (l : i < length (steps_of set b)) where
  -- what the first try gives, and the rest of the block behind it
  first_behind : behind_try set whole c b i (i + 1) m (first_at set c (slice_get (steps_of set b) i) m) A ≡ rest_of_block set c b i m A
  first_behind =
      let p = some_within (steps_of set b) i l in
      ap (λ (o : Option Step). behind_try set whole c b i (i + 1) m (first_at set c o m) A) p.1
      ∙ (ap (λ (o : Outcome). followed o (λ m' A'. rest_of_block set c b (i + 1) m' A')) (step_begun set whole c b i p.0 1000 m m A p.1 refl)
      ∙ rest_some_at set whole c b i m A l)

  -- where it lets a message go on, the rest of the block runs on that
  pub first_goes : (x : Message) → tried.Goes x ≡ first_at set c (slice_get (steps_of set b) i) m → rest_of_block set c b (i + 1) x A ≡ rest_of_block set c b i m A
  first_goes x e = ap (λ (t : Tried). behind_try set whole c b i (i + 1) m t A) e ∙ first_behind

  -- where it doesn't, what follows it has the rest of the block behind it
  pub first_leaves : (fs gs : List Frame) (next : ℕ) (t : Tried) → gs ≡ fs → next ≡ i + 1 → t ≡ first_at set c (slice_get (steps_of set b) i) m →
      behind_all set gs (behind_try set whole c b i next m t A) ≡ behind_all set fs (rest_of_block set c b i m A)
  first_leaves fs gs next t g n e = rw (g, n, e) (ap (behind_all set fs) first_behind)
