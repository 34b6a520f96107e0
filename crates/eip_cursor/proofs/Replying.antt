-- What an answer gives at a try of a task.
use Rattle.std.proofs.Common.{◌≡◌, ℕ, true, List, ◌∷◌, refl, sym, ◌∙◌, ap}
use Rattle.std.specs.Prelude.{Option, Some, None, slice_get}
use Rattle.eip_exchange.specs.declared.message.Message.{Message}
use Rattle.eip_exchange.specs.declared.end.Fault.{Fault}
use Rattle.eip_uri.specs.declared.uri.Uri.{Uri}
use Rattle.eip_route.specs.declared.route.RouteSet.{RouteSet}
use Rattle.eip_route.specs.declared.step.Step.{Step}
use Rattle.eip_frames.specs.Fits.{fits}
use Rattle.eip_frames.specs.declared.request.Request.{Request}
use Rattle.eip_frames.specs.declared.answer.Answer.{Answer as Reply}
use Rattle.eip_meaning.specs.declared.context.Context.{Context}
use Rattle.eip_meaning.specs.Outcomes.{Goes, Faults, fault_in, is_tried_again}
use Rattle.eip_meaning.specs.Meaning.{steps_of}
use Rattle.eip_progress.specs.declared.tried.Progress.{Progress}
use Rattle.eip_progress.specs.declared.frame.Task.{Task}
use Rattle.eip_progress.specs.declared.frame.Task.TheVariants as task
use Rattle.eip_progress.specs.Answered.{going_on, to_on}
use Rattle.eip_progress.specs.Rest.{cont_of, cont_of_found, cont_of_send, asking_mean, tried_mean}
use Rattle.eip_progress.proofs.GoingOns.{going_as}
use Rattle.eip_progress.proofs.SendTries.{send_on_as}

module _ (set : RouteSet) (whole : Option Uri) (c : Context) where
  pub step_goes_on : (b i : ℕ) (s : Step) (p : Progress) (m : Message) (a : Reply) (A : List Reply) → slice_get (steps_of set b) i ≡ Some s →
      tried_mean set whole c (task.Step b i) (going_on set c s p m a) A ≡ cont_of set whole c (task.Step b i) p m a A
  step_goes_on b i s p m a A e = going_as set whole c b i s e p m a A ∙ ap (λ (o : Option Step). cont_of_found set c b o p m a A) (sym e)

  pub no_step_goes_on : (b i : ℕ) (p : Progress) (m : Message) (a : Reply) (A : List Reply) → slice_get (steps_of set b) i ≡ None → Goes m A ≡ cont_of set whole c (task.Step b i) p m a A
  no_step_goes_on b i p m a A e = ap (λ (o : Option Step). cont_of_found set c b o p m a A) (sym e)

  pub dead_goes_on : (u : Uri) (p : Progress) (m : Message) (a : Reply) (A : List Reply) → set.handler.dead ≡ Some u → tried_mean set whole c task.Dead (to_on set u m) A ≡ cont_of set whole c task.Dead p m a A
  dead_goes_on u p m a A e = send_on_as set whole c task.Dead u m A ∙ ap (λ (o : Option Uri). cont_of_send set c o m A) (sym e)

  pub no_dead_goes_on : (p : Progress) (m : Message) (a : Reply) (A : List Reply) → set.handler.dead ≡ None → Goes m A ≡ cont_of set whole c task.Dead p m a A
  no_dead_goes_on p m a A e = ap (λ (o : Option Uri). cont_of_send set c o m A) (sym e)

  pub whole_goes_on : (u : Uri) (p : Progress) (m : Message) (a : Reply) (A : List Reply) → whole ≡ Some u → tried_mean set whole c task.Whole (to_on set u m) A ≡ cont_of set whole c task.Whole p m a A
  whole_goes_on u p m a A e = send_on_as set whole c task.Whole u m A ∙ ap (λ (o : Option Uri). cont_of_send set c o m A) (sym e)

  pub no_whole_goes_on : (p : Progress) (m : Message) (a : Reply) (A : List Reply) → whole ≡ None → Goes m A ≡ cont_of set whole c task.Whole p m a A
  no_whole_goes_on p m a A e = ap (λ (o : Option Uri). cont_of_send set c o m A) (sym e)

  -- an answer that fits and is no fault, and one that is
  pub answered_none : (t : Task) (p : Progress) (q : Request) (k : ℕ) (m : Message) (a : Reply) (A : List Reply) → fits q a ≡ true → fault_in set q a ≡ None →
      cont_of set whole c t p m a A ≡ asking_mean set whole c t p q k m (a ∷ A)
  answered_none t p q k m a A h f = rw (h, f) refl

  pub answered_some : (t : Task) (p : Progress) (q : Request) (k : ℕ) (m : Message) (a : Reply) (A : List Reply) (x : Fault) → fits q a ≡ true → fault_in set q a ≡ Some x →
      Faults x (is_tried_again q) A ≡ asking_mean set whole c t p q k m (a ∷ A)
  answered_some t p q k m a A x h f = rw (h, f) refl
