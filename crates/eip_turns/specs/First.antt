-- The first try of a step of a block, and the steps behind it.
use Rattle.std.specs.Prelude.{ℕ, List, Option, Some, None}
use Rattle.eip_exchange.specs.declared.message.Message.{Message}
use Rattle.eip_uri.specs.declared.uri.Uri.{Uri}
use Rattle.eip_route.specs.declared.step.Step.{Step}
use Rattle.eip_route.specs.declared.route.RouteSet.{RouteSet}
use Rattle.eip_frames.specs.declared.answer.Answer.{Answer as Reply}
use Rattle.eip_meaning.specs.declared.context.Context.{Context}
use Rattle.eip_meaning.specs.Outcomes.{Outcome, followed}
use Rattle.eip_progress.specs.declared.tried.Tried.{Tried}
use Rattle.eip_progress.specs.declared.tried.Tried.TheVariants as tried
use Rattle.eip_progress.specs.declared.frame.Task.TheVariants as task
use Rattle.eip_progress.specs.FirstTry.{first_tried}
use Rattle.eip_progress.specs.Rest.{rest_of_block, guarded_mean, tried_mean}

-- what the first try of a step gives; one that isn't there lets the message go on
abbrev pub first_at : RouteSet → Context → Option Step → Message → Tried
first_at set c None m = tried.Goes m
first_at set c (Some s) m = first_tried set c s m

-- what the first try of a step gives, with what follows its faults, and behind it the steps from the next index on
abbrev pub behind_try : RouteSet → Option Uri → Context → (b index next : ℕ) → Message → Tried → List Reply → Outcome
behind_try set whole c b i next m t A = followed (guarded_mean set whole c (task.Step b i) 1000 m (tried_mean set whole c (task.Step b i) t A)) (λ m' A'. rest_of_block set c b next m' A')
