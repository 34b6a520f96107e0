-- A sequential fan-out between two of its parts.
use Rattle.std.specs.Prelude.{◌≡◌, ℕ, Bool, true, false, List, ◌∷◌, Option, Some, None, slice_get}
use Rattle.eip_exchange.specs.declared.message.Message.{Message}
use Rattle.eip_exchange.specs.declared.end.Ended.{Ended}
use Rattle.eip_exchange.specs.declared.setting.Strategy.{Strategy}
use Rattle.eip_uri.specs.declared.uri.Uri.{Uri}
use Rattle.eip_route.specs.Faults.{next_number}
use Rattle.eip_route.specs.declared.step.Step.{Step}
use Rattle.eip_route.specs.declared.step.Step.TheVariants as step
use Rattle.eip_route.specs.declared.route.RouteSet.{RouteSet}
use Rattle.eip_frames.specs.declared.request.Seed.{Seed}
use Rattle.eip_frames.specs.declared.request.Request.{Request}
use Rattle.eip_frames.specs.declared.answer.Answer.{Answer as Reply}
use Rattle.eip_meaning.specs.declared.context.Context.{Context}
use Rattle.eip_meaning.specs.Meaning.{steps_of}
use Rattle.eip_meaning.specs.Outcomes.{fault_in}
use Rattle.eip_meaning.specs.Parts.{parts_in}
use Rattle.eip_progress.specs.declared.tried.Progress.TheVariants as progress
use Rattle.eip_progress.specs.declared.tried.Tried.TheVariants as tried
use Rattle.eip_progress.specs.declared.frame.Task.{Task}
use Rattle.eip_progress.specs.declared.frame.Task.TheVariants as task
use Rattle.eip_progress.specs.declared.frame.Wait.{Wait}
use Rattle.eip_progress.specs.declared.frame.Wait.TheVariants as wait
use Rattle.eip_progress.specs.Answered.{next_tried, fan_on}
use Rattle.eip_progress.specs.declared.tried.Asking.{Asking}
use Rattle.eip_progress.specs.Tries.{asked}
use Rattle.eip_progress.specs.Rest.{wait_mean, request_of}

-- whether a fan-out stops at a part that failed
abbrev pub stop_in : Option Step → Option Bool
stop_in (Some (step.Split how fan j)) = Some fan.stop
stop_in (Some (step.Multicast fan bs)) = Some fan.stop
stop_in (Some (step.Recipients list delimiter fan)) = Some fan.stop
stop_in _ = None

abbrev pub step_found : RouteSet → Task → Option Step
step_found set (task.Step b i) = slice_get (steps_of set b) i
step_found set task.Dead = None
step_found set task.Whole = None

-- the wait of a try
abbrev pub trying : Context → Task → (left : ℕ) → Message → Asking → Wait
trying c t left m x = wait.Trying c t left m x

-- at a fan-out the answer leads from one request to the next, whatever the message
abbrev pub Moves : (stop : Bool) → Asking → Reply → Asking → Type 0
Moves stop x a y =
    ((set : RouteSet) → fault_in set x.request a ≡ None) × ((s : Strategy) (m : Message) → fan_on s stop x.progress m a ≡ tried.Asks y m)

-- behind the part that ended the next one is asked for, and so many seeds are left
abbrev pub TakesNext : (stop : Bool) → List Ended → List Seed → Reply → List Ended → List Seed → Request → Type 0
TakesNext stop ended left a ended' left' q =
    (s : Strategy) (k : ℕ) (m : Message) → next_tried s stop ended k left (parts_in a) m ≡ asked (progress.Spawning (next_number k) ended' left') q (next_number k) m

-- the part that ended was not the last, and what is asked next stands in the place, or all is as before
abbrev pub PartEnds : Bool → (stop : Bool) → Asking → Reply → Asking → Option Request → Option Request → Type 0
PartEnds true stop x a y p p' = (q : Request) × (p' ≡ Some q) × Moves stop x a y × (y.request ≡ q)
PartEnds false stop x a y p p' = (y ≡ x) × (p' ≡ p)

abbrev pub AskingMoves : Bool → (stop : Option Bool) → Asking → Reply → Asking → Option Request → Option Request → Type 0
AskingMoves true stop x a y p p' = (q : Request) × (p' ≡ Some q) × (b : Bool) × (stop ≡ Some b) × Moves b x a y × (y.request ≡ q)
AskingMoves false stop x a y p p' = (y ≡ x) × (p' ≡ p)

-- the wait has moved on by the answer, and what it asks stands in the place, or all is as before
abbrev pub WaitMoves : Bool → RouteSet → Wait → Reply → Wait → Option Request → Option Request → Type 0
WaitMoves true set w a v p p' = (q : Request) × (p' ≡ Some q) × ((whole : Option Uri) (A : List Reply) → wait_mean set whole v A ≡ wait_mean set whole w (a ∷ A)) × (request_of v ≡ q)
WaitMoves false set w a v p p' = (v ≡ w) × (p' ≡ p)
