-- Worked rows: sends to endpoints.
use Rattle.std.specs.Prelude.{◌≡◌, ℕ, true, false, List, [], ◌∷◌, codes, None, refl}
use Rattle.std.specs.Fmt.{digits}
use Rattle.eip_exchange.specs.Ends.{fault}
use Rattle.eip_exchange.specs.declared.message.Message.{Message}
use Rattle.eip_exchange.specs.declared.birth.Care.TheVariants as care
use Rattle.eip_uri.specs.Printed.{printed}
use Rattle.eip_uri.specs.declared.uri.After.TheVariants as after
use Rattle.eip_uri.specs.declared.uri.Exist.TheVariants as exist
use Rattle.eip_uri.specs.declared.uri.Uri.{Uri}
use Rattle.eip_uri.specs.declared.uri.Uri.TheVariants as uri
use Rattle.eip_route.specs.Plain.{plain_handler}
use Rattle.eip_route.specs.Goals.{goal_of}
use Rattle.eip_route.specs.declared.route.RouteSet.{RouteSet}
use Rattle.eip_route.specs.declared.step.Step.TheVariants as step
use Rattle.eip_frames.specs.Fate.{AsksNext}
use Rattle.eip_frames.specs.declared.request.Target.TheVariants as target
use Rattle.eip_frames.specs.declared.request.Request.TheVariants as request
use Rattle.eip_frames.specs.declared.answer.Answer.TheVariants as reply
use Rattle.eip_meaning.specs.declared.context.Context.{Context}
use Rattle.eip_meaning.specs.RowForms.{plain, lanes, block, lines_to, line, here}
use Rattle.eip_meaning.specs.Outcomes.{Asks, Goes, Faults, Runner}
use Rattle.eip_meaning.specs.Values.{with_body}
use Rattle.eip_meaning.specs.Sends.{to_mean}
use Rattle.eip_meaning.specs.Attempts.{tries}
use Rattle.eip_meaning.specs.Meaning.{mean, blocks_mean, level_mean, block_mean}

-- a route from standard input, one that is called, and one with a queue of two
abbrev pub set : RouteSet
set = record {
  names = lanes;
  routes = lines_to 0
      ∷ (record { id = codes "called"; from = uri.Direct (codes "d"); block = 1 })
      ∷ (record { id = codes "queue"; from = uri.Seda (codes "q") 2 1 false; block = 2 })
      ∷ [];
  blocks = block (step.To (uri.Direct (codes "d")) ∷ step.To (uri.Log (codes "after")) ∷ [])
      ∷ block (step.To (uri.Log (codes "in")) ∷ step.To (uri.Direct (codes "d")) ∷ [])
      ∷ block []
      ∷ [];
  handler = plain_handler;
  clauses = [];
}

abbrev pub context : (hops depth : ℕ) → Context
context hops depth = record { number = 7; hops = hops; care = care.Full; handling = false; route = 0; depth = depth }

-- the block of route r, as one that leaves its number behind in the body
abbrev pub marks : ℕ → Runner
marks r m A = Goes (with_body m (r ∷ [])) A

abbrev pub sends : Uri → Runner
sends u m A = to_mean set marks (context 0 0) u m A

abbrev pub message : Message
message = plain (codes "a")

-- ---- routes

pub row-call : sends (uri.Direct (codes "d")) message [] ≡ Asks (request.Call 1) here
unfolding goal_of
row-call = refl

pub row-called : sends (uri.Direct (codes "d")) message (reply.Entered ∷ []) ≡ Goes (plain (1 ∷ [])) []
unfolding goal_of
row-called = refl

-- in a route that is called requests are asked at its place
pub row-inside : mean set (line 0 (codes "a")) (reply.Entered ∷ []) ≡ AsksNext (request.Log (codes "in") (codes "a")) (record { route = 1; depth = 1; index = 0 })
unfolding mean tries blocks_mean level_mean block_mean goal_of
row-inside = refl

-- at 32 calls at one time
pub row-too_deep : to_mean set marks (context 0 32) (uri.Direct (codes "d")) message [] ≡ Faults (fault (codes "TooDeep") (codes "direct:d")) false []
unfolding goal_of
row-too_deep = refl

pub row-no_route : sends (uri.Direct (codes "e")) message [] ≡ Faults (fault (codes "NoConsumer") (codes "direct:e")) false []
unfolding goal_of printed
row-no_route = refl

-- the limit comes before the consumer
pub row-limit_first : to_mean set marks (context 0 32) (uri.Direct (codes "e")) message [] ≡ Faults (fault (codes "TooDeep") (codes "direct:e")) false []
unfolding goal_of
row-limit_first = refl

-- ---- queues

pub row-offer : sends (uri.Seda (codes "q") 1000 1 false) message [] ≡ Asks (request.Offer 2 false message) here
unfolding goal_of
row-offer = refl

pub row-queued : sends (uri.Seda (codes "q") 1000 1 false) message (reply.Queued 8 ∷ []) ≡ Goes message []
unfolding goal_of
row-queued = refl

-- a full queue is a fault that may be tried again
pub row-full : sends (uri.Seda (codes "q") 1000 1 false) message (reply.Full 2 ∷ []) ≡ Faults (fault (codes "QueueFull") (codes "seda:q 2")) true []
unfolding goal_of digits
row-full = refl

pub row-dropped : sends (uri.Seda (codes "q") 1000 1 true) message (reply.Dropped ∷ []) ≡ Goes message []
unfolding goal_of
row-dropped = refl

pub row-hops : to_mean set marks (context 100 0) (uri.Seda (codes "q") 1000 1 false) message [] ≡ Faults (fault (codes "TooManyHops") (codes "seda:q")) false []
unfolding goal_of
row-hops = refl

-- ---- lanes

abbrev pub to_folder : Uri
to_folder = uri.File (codes "out") after.Noop None exist.Fail

pub row-file : sends to_folder message [] ≡ Asks (request.Send (target.File (codes "out") (codes "exchange-7") exist.Fail) message) here
unfolding goal_of digits
row-file = refl

abbrev pub named : List ℕ → Message
named name = record message { headers = (codes "CamelFileName", name) ∷ [] }

pub row-named : sends to_folder (named (codes "b.txt")) [] ≡ Asks (request.Send (target.File (codes "out") (codes "b.txt") exist.Fail) (named (codes "b.txt"))) here
unfolding goal_of
row-named = refl

pub row-exists : sends to_folder message (reply.Exists ∷ []) ≡ Faults (fault (codes "FileExists") (codes "file:out/exchange-7")) true []
unfolding goal_of digits
row-exists = refl

pub row-bad_name : sends to_folder (named (codes "../b")) [] ≡ Faults (fault (codes "BadFileName") (codes "../b")) false []
unfolding goal_of
row-bad_name = refl

pub row-line : sends (uri.Line (codes "h") 7) message [] ≡ Asks (request.Send (target.Line (codes "h") 7) message) here
unfolding goal_of
row-line = refl

pub row-two_lines : sends (uri.Line (codes "h") 7) (plain (97 ∷ 10 ∷ [])) [] ≡ Faults (fault (codes "NotOneLine") []) false []
unfolding goal_of
row-two_lines = refl

pub row-no_lane : sends (uri.Lane (codes "y")) message [] ≡ Faults (fault (codes "NoConsumer") (codes "lane:y")) false []
unfolding goal_of printed
row-no_lane = refl
