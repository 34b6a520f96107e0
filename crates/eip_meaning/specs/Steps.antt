-- One try of one step.
use Rattle.std.specs.Prelude.{ℕ, Bool, true, false, cond, List, [], codes, Option, Some, None, unwrap_or}
use Rattle.eip_exchange.specs.Ends.{fault}
use Rattle.eip_exchange.specs.declared.message.Message.{Message}
use Rattle.eip_exchange.specs.declared.end.Fault.{Fault}
use Rattle.eip_simple.specs.Values.{template_value}
use Rattle.eip_route.specs.declared.step.Aggregate.{Aggregate}
use Rattle.eip_route.specs.declared.step.Step.{Step}
use Rattle.eip_route.specs.declared.step.Step.TheVariants as step
use Rattle.eip_route.specs.declared.route.RouteSet.{RouteSet}
use Rattle.eip_frames.specs.declared.request.Request.TheVariants as request
use Rattle.eip_frames.specs.declared.answer.Answer.{Answer as Reply}
use Rattle.eip_frames.specs.declared.answer.Answer.TheVariants as reply
use Rattle.eip_meaning.specs.declared.context.Context.{Context}
use Rattle.eip_meaning.specs.Contexts.{place_in}
use Rattle.eip_meaning.specs.Values.{seen_in, value_of, short, too_long, with_short, with_short_key, with_body, sets_header, without_the_header, with_property, duplicate_message, id_of}
use Rattle.eip_meaning.specs.Checks.{choice_mean, filter_mean}
use Rattle.eip_meaning.specs.Sends.{to_mean}
use Rattle.eip_meaning.specs.FanOuts.{split_mean, multicast_mean, recipients_mean}
use Rattle.eip_meaning.specs.Tries.{try_mean}
use Rattle.eip_meaning.specs.Outcomes.{Goes, Faults, Runner, ask}

-- the name of a step's log: its own, or the route's
abbrev pub log_name : RouteSet → Context → Option (List ℕ) → List ℕ
log_name set c name = unwrap_or name (id_of set c.route)

-- the fault that is thrown; one with a text that is too long is `TooLong`
abbrev pub thrown : (kind : List ℕ) → Option (List ℕ) → Fault
thrown kind None = too_long
thrown kind (Some text) = fault kind text

-- the message that a processor made
abbrev pub became : Message → Reply → Message
became m (reply.Became new) = new
became m _ = m

-- ---- aggregates and keys

abbrev pub no_key : Fault
no_key = fault (codes "InvalidCorrelationKey") []

-- a copy joins the group of its key, and the message goes on
abbrev pub aggregate_mean : RouteSet → Context → Aggregate → Runner
aggregate_mean set c g m A =
    with_short_key no_key (short (value_of set c g.key m)) (λ key A'. ask set (request.Arrive g.block key m) (place_in c 0) (λ a A''. Goes m A'') A') A

abbrev pub no_message_id : Fault
no_message_id = fault (codes "NoMessageId") []

abbrev pub is_fresh : Reply → Bool
is_fresh reply.Fresh = true
is_fresh _ = false

-- the block runs for a key that nobody holds; for another one the message is marked, and the block runs where the step skips nothing
abbrev pub by_key : (ℕ → Runner) → (skip : Bool) → ℕ → (fresh : Bool) → Runner
by_key nested skip b true m A = nested b m A
by_key nested skip b false m A = cond skip (Goes (duplicate_message m) A) (nested b (duplicate_message m) A)

-- ---- a try

-- `nested` runs a block, and `call` the block of a route
abbrev pub one_try : RouteSet → (nested call : ℕ → Runner) → Context → Step → Runner
one_try set nested call c (step.SetBody e) m A = with_short (short (value_of set c e m)) (λ value A'. Goes (with_body m value) A') A
one_try set nested call c (step.SetHeader name e) m A = with_short (short (value_of set c e m)) (λ value A'. sets_header name value m A') A
one_try set nested call c (step.SetProperty name e) m A = with_short (short (value_of set c e m)) (λ value A'. Goes (with_property m name value) A') A
one_try set nested call c (step.RemoveHeader name) m A = Goes (without_the_header m name) A
one_try set nested call c (step.To u) m A = to_mean set call c u m A
one_try set nested call c (step.Log name template) m A =
    with_short (short (template_value template (seen_in set c m))) (λ text A'. ask set (request.Log (log_name set c name) text) (place_in c 0) (λ a A''. Goes m A'') A') A
one_try set nested call c (step.Throw kind template) m A = Faults (thrown kind (short (template_value template (seen_in set c m)))) false A
one_try set nested call c (step.Process name) m A = ask set (request.Process name m) (place_in c 0) (λ a A'. Goes (became m a) A') A
one_try set nested call c (step.Choice cases otherwise) m A = choice_mean set nested c cases otherwise m A
one_try set nested call c (step.Filter check b) m A = filter_mean set nested c check b m A
one_try set nested call c (step.Split how fan b) m A = split_mean set c how fan b m A
one_try set nested call c (step.Multicast fan bs) m A = multicast_mean set c fan bs m A
one_try set nested call c (step.Recipients list delimiter fan) m A = recipients_mean set c list delimiter fan m A
one_try set nested call c (step.Aggregate g) m A = aggregate_mean set c g m A
one_try set nested call c (step.Idempotent key repository skip eager remove b) m A =
    with_short_key no_message_id (short (value_of set c key m))
    (λ text A'. ask set (request.Idem repository text eager remove) (place_in c 0) (λ a A''. by_key nested skip b (is_fresh a) m A'') A')
    A
one_try set nested call c (step.Try b catches finish) m A = try_mean set c b catches finish m A
