-- Worked rows: attempts, clauses and the dead letter endpoint.
use Rattle.std.specs.Prelude.{◌≡◌, ℕ, zero, suc, Bool, false, true, List, [], ◌∷◌, codes, Some, None, refl}
use Rattle.std.specs.Fmt.{digits}
use Rattle.eip_exchange.specs.declared.message.Message.{Message}
use Rattle.eip_exchange.specs.declared.end.End.TheVariants.{Handled}
use Rattle.eip_exchange.specs.declared.birth.Care.TheVariants as care
use Rattle.eip_exchange.specs.declared.birth.Work.TheVariants as work
use Rattle.eip_exchange.specs.declared.setting.Clause.{Clause}
use Rattle.eip_simple.specs.Values.{template_value}
use Rattle.eip_simple_read.specs.declared.tree.Function.TheVariants as function
use Rattle.eip_simple_read.specs.declared.tree.Part.TheVariants.{Call}
use Rattle.eip_uri.specs.declared.uri.Uri.{Uri}
use Rattle.eip_uri.specs.declared.uri.Uri.TheVariants as uri
use Rattle.eip_route.specs.Plain.{plain_handler, plain_policy}
use Rattle.eip_route.specs.Goals.{goal_of}
use Rattle.eip_route.specs.declared.step.Step.{Step}
use Rattle.eip_route.specs.declared.step.Step.TheVariants as step
use Rattle.eip_route.specs.declared.route.RouteSet.{RouteSet}
use Rattle.eip_frames.specs.Fate.{Fate, AsksNext}
use Rattle.eip_frames.specs.declared.request.Target.TheVariants as target
use Rattle.eip_frames.specs.declared.request.Request.{Request}
use Rattle.eip_frames.specs.declared.request.Request.TheVariants as request
use Rattle.eip_frames.specs.declared.answer.Answer.{Answer as Reply}
use Rattle.eip_frames.specs.declared.answer.Answer.TheVariants as reply
use Rattle.eip_error_handler.specs.Clauses.{chosen}
use Rattle.eip_error_handler.specs.Redelivery.{merged_policy, delay_of}
use Rattle.eip_meaning.specs.RowForms.{plain, caught_with, failed, block, one_route, lines_to, lanes, dead_letters_to, line, part_of_line, here}
use Rattle.eip_meaning.specs.Attempts.{tries}
use Rattle.eip_meaning.specs.Meaning.{mean, blocks_mean, level_mean, block_mean}

-- ---- redelivery, and a dead letter endpoint behind two of them

-- a send, and a log line with the number of redeliveries
abbrev pub sends_twice_more : Uri → RouteSet
sends_twice_more dead = record (one_route (block (
    step.To (uri.Lane (codes "x")) ∷ step.Log None (record { parts = Call (function.Header (codes "CamelRedeliveryCounter")) ∷ [] }) ∷ []
    ) ∷ [])) { handler = dead_letters_to dead 2 }

abbrev pub to_log : RouteSet
to_log = sends_twice_more (uri.Log (codes "dead"))

-- at the first try, and at one that follows so many others, given in decimal
abbrev pub redelivered_with : List ℕ → Message
redelivered_with counter =
    record (plain (codes "a")) { headers = (codes "CamelRedelivered", codes "true") ∷ (codes "CamelRedeliveryCounter", counter) ∷ [] }

abbrev pub sends : Message → Request
sends m = request.Send (target.Lane (codes "x")) m

pub row-waits : mean to_log (line 0 (codes "a")) (reply.SendFailed ∷ []) ≡ AsksNext (request.Wait 1000) here
unfolding mean tries blocks_mean level_mean block_mean goal_of chosen delay_of
row-waits = refl

-- the same step is tried, on the message as it stood, with two headers
pub row-again : mean to_log (line 0 (codes "a")) (reply.SendFailed ∷ reply.Slept 1000 ∷ []) ≡ AsksNext (sends (redelivered_with (codes "1"))) here
unfolding mean tries blocks_mean level_mean block_mean goal_of chosen delay_of digits
row-again = refl

pub row-once_more : mean to_log (line 0 (codes "a")) (reply.SendFailed ∷ reply.Slept 1000 ∷ reply.SendFailed ∷ reply.Slept 2000 ∷ []) ≡ AsksNext (sends (redelivered_with (codes "2"))) here
unfolding mean tries blocks_mean level_mean block_mean goal_of chosen delay_of digits
row-once_more = refl

pub row-counted : mean to_log (line 0 (codes "a")) (reply.SendFailed ∷ reply.Slept 1000 ∷ reply.SendFailed ∷ reply.Slept 2000 ∷ reply.Done ∷ [])
    ≡ AsksNext (request.Log (codes "route1") (codes "2")) here
unfolding mean tries blocks_mean level_mean block_mean goal_of chosen delay_of digits template_value
row-counted = refl

abbrev pub three_failures : List Reply
three_failures = reply.SendFailed ∷ reply.Slept 1000 ∷ reply.SendFailed ∷ reply.Slept 2000 ∷ reply.SendFailed ∷ []

-- behind the last attempt
abbrev pub given_up : Message
given_up = record (redelivered_with (codes "2")) { properties = (codes "CamelExceptionCaught", codes "lane:x") ∷ [] }

pub row-dead : mean to_log (line 0 (codes "a")) three_failures ≡ AsksNext (request.Log (codes "dead") (codes "a")) here
unfolding mean tries blocks_mean level_mean block_mean goal_of chosen delay_of digits
row-dead = refl

pub row-handled : mean to_log (line 0 (codes "a")) (reply.SendFailed ∷ reply.Slept 1000 ∷ reply.SendFailed ∷ reply.Slept 2000 ∷ reply.SendFailed ∷ reply.Noted ∷ [])
    ≡ AsksNext (request.Finish Handled given_up false) here
unfolding mean tries blocks_mean level_mean block_mean goal_of chosen delay_of digits
row-handled = refl

-- the dead letter itself fails, and isn't tried again
pub row-dead_fails : mean (sends_twice_more (uri.Lane (codes "x"))) (line 0 (codes "a"))
    (reply.SendFailed ∷ reply.Slept 1000 ∷ reply.SendFailed ∷ reply.Slept 2000 ∷ reply.SendFailed ∷ reply.SendFailed ∷ [])
    ≡ AsksNext (request.Finish (failed (codes "SendFailed") (codes "lane:x")) given_up false) here
unfolding mean tries blocks_mean level_mean block_mean goal_of chosen delay_of digits
row-dead_fails = refl

-- ---- care

-- a bare exchange tries once and has no handlers
pub row-bare : mean to_log (part_of_line (work.Block 0) care.Bare (plain (codes "a"))) (reply.SendFailed ∷ [])
    ≡ AsksNext (request.Finish (failed (codes "SendFailed") (codes "lane:x")) (caught_with (codes "a") (codes "lane:x")) false) here
unfolding mean tries blocks_mean level_mean block_mean goal_of chosen delay_of
row-bare = refl

-- a shared one tries again
pub row-shared : mean to_log (part_of_line (work.Block 0) care.Shared (plain (codes "a"))) (reply.SendFailed ∷ []) ≡ AsksNext (request.Wait 1000) here
unfolding mean tries blocks_mean level_mean block_mean goal_of chosen delay_of
row-shared = refl

-- and has no handlers
pub row-shared_fails : mean to_log (part_of_line (work.Block 0) care.Shared (plain (codes "a"))) three_failures
    ≡ AsksNext (request.Finish (failed (codes "SendFailed") (codes "lane:x")) given_up false) here
unfolding mean tries blocks_mean level_mean block_mean goal_of chosen delay_of digits
row-shared_fails = refl

-- ---- clauses

abbrev pub send_clause : Clause
send_clause = record { names = codes "SendFailed" ∷ []; policy = plain_policy; handled = false; continued = false; block = None }

-- one clause, whose block is the first one, and one route with the second one
abbrev pub with_clause : Clause → List Step → List Step → RouteSet
with_clause k steps route_steps = record {
  names = lanes;
  routes = lines_to 1 ∷ [];
  blocks = block steps ∷ block route_steps ∷ [];
  handler = plain_handler;
  clauses = k ∷ [];
}

abbrev pub handled_by_send : RouteSet
handled_by_send = with_clause (record send_clause { handled = true; block = Some 0 }) (step.To (uri.Lane (codes "x")) ∷ []) (step.To (uri.Lane (codes "x")) ∷ [])

pub row-clause_runs : mean handled_by_send (line 1 (codes "a")) (reply.SendFailed ∷ []) ≡ AsksNext (sends (caught_with (codes "a") (codes "lane:x"))) here
unfolding mean tries blocks_mean level_mean block_mean goal_of chosen merged_policy
row-clause_runs = refl

pub row-clause_handles : mean handled_by_send (line 1 (codes "a")) (reply.SendFailed ∷ reply.Done ∷ [])
    ≡ AsksNext (request.Finish Handled (caught_with (codes "a") (codes "lane:x")) false) here
unfolding mean tries blocks_mean level_mean block_mean goal_of chosen merged_policy
row-clause_handles = refl

-- a fault while one is handled
pub row-clause_fails : mean handled_by_send (line 1 (codes "a")) (reply.SendFailed ∷ reply.SendFailed ∷ [])
    ≡ AsksNext (request.Finish (failed (codes "SendFailed") (codes "lane:x")) (caught_with (codes "a") (codes "lane:x")) false) here
unfolding mean tries blocks_mean level_mean block_mean goal_of chosen merged_policy
row-clause_fails = refl

-- a clause with steps that is neither handled nor continued fails with the first fault
pub row-neither : mean (with_clause (record send_clause { block = Some 0 }) [] (step.To (uri.Lane (codes "x")) ∷ [])) (line 1 (codes "a")) (reply.SendFailed ∷ [])
    ≡ AsksNext (request.Finish (failed (codes "SendFailed") (codes "lane:x")) (caught_with (codes "a") (codes "lane:x")) false) here
unfolding mean tries blocks_mean level_mean block_mean goal_of chosen merged_policy
row-neither = refl

-- a continued one goes on behind the step
pub row-continued : mean (with_clause (record send_clause { continued = true }) [] (step.To (uri.Lane (codes "x")) ∷ step.To (uri.Log (codes "o")) ∷ [])) (line 1 (codes "a")) (reply.SendFailed ∷ [])
    ≡ AsksNext (request.Log (codes "o") (codes "a")) here
unfolding mean tries blocks_mean level_mean block_mean goal_of chosen merged_policy
row-continued = refl

-- ---- many attempts

abbrev pub patient : RouteSet
patient = record to_log { handler = dead_letters_to (uri.Log (codes "dead")) 1000 }

abbrev pub failures : ℕ → List Reply
failures zero = []
failures (suc n) = reply.SendFailed ∷ reply.Slept 7 ∷ failures n

abbrev pub asks_send : Fate → Bool
asks_send (AsksNext (request.Send t m) p) = true
asks_send _ = false

pub row-many : asks_send (mean patient (line 0 (codes "a")) (failures 300)) ≡ true
unfolding mean tries blocks_mean level_mean block_mean goal_of chosen delay_of digits
row-many = refl
