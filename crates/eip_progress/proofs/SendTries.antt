-- What a try of a send gives as data means the send, for each task that sends.
use Rattle.std.proofs.Common.{◌≡◌, ℕ, Bool, true, false, cond, List, refl, ◌∙◌, ap}
use Rattle.std.specs.Prelude.{Option, Some, None}
use Rattle.std.proofs.Math.Path.{fun_ext}
use Rattle.eip_exchange.specs.declared.message.Message.{Message}
use Rattle.eip_exchange.specs.declared.end.Fault.{Fault}
use Rattle.eip_uri.specs.declared.uri.Uri.{Uri}
use Rattle.eip_route.specs.Goals.{goal_of}
use Rattle.eip_route.specs.declared.goal.Goal.{Goal}
use Rattle.eip_route.specs.declared.goal.Goal.TheVariants as goal
use Rattle.eip_route.specs.declared.route.RouteSet.{RouteSet}
use Rattle.eip_frames.specs.declared.request.Target.{Target}
use Rattle.eip_frames.specs.declared.request.Request.{Request}
use Rattle.eip_frames.specs.declared.request.Request.TheVariants.{Offer}
use Rattle.eip_frames.specs.declared.answer.Answer.{Answer as Reply}
use Rattle.eip_meaning.specs.declared.context.Context.{Context}
use Rattle.eip_meaning.specs.Outcomes.{Outcome, Goes, Faults, unless_fault, ask}
use Rattle.eip_meaning.specs.Contexts.{place_in}
use Rattle.eip_meaning.specs.Sends.{limit_fault, no_consumer, form_fault, target_of, sent, is_queue, discards, goal_mean, to_mean}
use Rattle.eip_progress.specs.declared.tried.Progress.{Progress}
use Rattle.eip_progress.specs.declared.tried.Progress.TheVariants as progress
use Rattle.eip_progress.specs.declared.tried.Tried.{Tried}
use Rattle.eip_progress.specs.declared.frame.Task.{Task}
use Rattle.eip_progress.specs.FirstTry.{faults, asks, unless_tried, sent_tried, goal_tried, to_tried}
use Rattle.eip_progress.specs.Answered.{goal_on, to_on}
use Rattle.eip_progress.specs.Rest.{call_at, goal_cont, to_cont, cont_of, tried_mean}

-- a task at which every answer goes on as a send to this endpoint does
module _ (set : RouteSet) (whole : Option Uri) (c : Context) (t : Task) (u : Uri)
    (sends : (p : Progress) (m : Message) (a : Reply) (A : List Reply) → cont_of set whole c t p m a A ≡ to_cont set c u m A) where
  abbrev gives : Tried → List Reply → Outcome
  gives x A = tried_mean set whole c t x A

  asked_as : (q : Request) (m : Message) (g : Goal) → goal_of set u ≡ g → (A : List Reply) → gives (asks q m) A ≡ ask set q (place_in c 0) (λ a A'. goal_cont set c g m A') A
  asked_as q m g h A =
      ap (λ (F : Reply → List Reply → Outcome). ask set q (place_in c 0) F A)
      (fun_ext (λ a. fun_ext (λ A'. sends progress.First m a A' ∙ ap (λ (x : Goal). goal_cont set c x m A') h)))

  unless_as : (o : Option Fault) (m : Message) (x : Tried) (K : List Reply → Outcome) (A : List Reply) → ((A' : List Reply) → gives x A' ≡ K A') → gives (unless_tried o m x) A ≡ unless_fault o K A
  unless_as None m x K A h = h A
  unless_as (Some f) m x K A h = refl

  sent_as : (o : Option Target) (m : Message) (A : List Reply) → goal_of set u ≡ goal.Lane → gives (sent_tried o m) A ≡ sent set c o m A
  sent_as None m A h = refl
  sent_as (Some x) m A h = asked_as _ m goal.Lane h A

  offered_as : (queue : Bool) (r : ℕ) (m : Message) (A : List Reply) → goal_of set u ≡ goal.Queue r
      → gives (cond queue (asks (Offer r (discards u) m) m) (faults (no_consumer u) m)) A
      ≡ cond queue (ask set (Offer r (discards u) m) (place_in c 0) (λ a A'. Goes m A') A) (Faults (no_consumer u) false A)
  offered_as true r m A h = asked_as _ m (goal.Queue r) h A
  offered_as false r m A h = refl

  goal_as : (g : Goal) (m : Message) (A : List Reply) → goal_of set u ≡ g → gives (goal_tried set c u g m) A ≡ goal_mean set (call_at set c) c u g m A
  goal_as (goal.Direct r) m A h = asked_as _ m (goal.Direct r) h A
  goal_as (goal.Queue r) m A h = offered_as (is_queue set r) r m A h
  goal_as goal.Lane m A h = unless_as (form_fault c u m) m (sent_tried (target_of c u m) m) _ A (λ A'. sent_as (target_of c u m) m A' h)
  goal_as goal.Log m A h = asked_as _ m goal.Log h A
  goal_as goal.NoConsumer m A h = refl

  -- the first try
  pub send_as : (m : Message) (A : List Reply) → gives (to_tried set c u m) A ≡ to_mean set (call_at set c) c u m A
  send_as m A = unless_as (limit_fault c u) m (goal_tried set c u (goal_of set u) m) _ A (λ A'. goal_as (goal_of set u) m A' refl)

-- what an answer gives
module _ (set : RouteSet) (whole : Option Uri) (c : Context) (t : Task) where
  goal_on_as : (g : Goal) (m : Message) (A : List Reply) → tried_mean set whole c t (goal_on g m) A ≡ goal_cont set c g m A
  goal_on_as (goal.Direct r) m A = refl
  goal_on_as (goal.Queue r) m A = refl
  goal_on_as goal.Lane m A = refl
  goal_on_as goal.Log m A = refl
  goal_on_as goal.NoConsumer m A = refl

  pub send_on_as : (u : Uri) (m : Message) (A : List Reply) → tried_mean set whole c t (to_on set u m) A ≡ to_cont set c u m A
  send_on_as u m A = goal_on_as (goal_of set u) m A
