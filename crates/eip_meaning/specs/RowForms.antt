-- What the worked rows are made of.
use Rattle.std.specs.Prelude.{ℕ, List, [], ◌∷◌, codes, Some}
use Rattle.eip_exchange.specs.Ends.{fault}
use Rattle.eip_exchange.specs.declared.message.Message.{Message}
use Rattle.eip_exchange.specs.declared.end.End.{End}
use Rattle.eip_exchange.specs.declared.end.End.TheVariants.{Failed}
use Rattle.eip_exchange.specs.declared.birth.Birth.{Birth}
use Rattle.eip_exchange.specs.declared.birth.Care.{Care}
use Rattle.eip_exchange.specs.declared.birth.Care.TheVariants as care
use Rattle.eip_exchange.specs.declared.birth.Origin.TheVariants as origin
use Rattle.eip_exchange.specs.declared.birth.Work.{Work}
use Rattle.eip_exchange.specs.declared.birth.Work.TheVariants as work
use Rattle.eip_simple_read.specs.declared.tree.Function.TheVariants as function
use Rattle.eip_simple_read.specs.declared.tree.Part.TheVariants.{Plain, Call}
use Rattle.eip_simple_read.specs.declared.tree.Template.{Template}
use Rattle.eip_uri.specs.declared.uri.Uri.{Uri}
use Rattle.eip_uri.specs.declared.uri.Uri.TheVariants as uri
use Rattle.eip_route.specs.declared.route.Block.{Block}
use Rattle.eip_route.specs.declared.route.Handler.{Handler}
use Rattle.eip_route.specs.declared.route.Names.{Names}
use Rattle.eip_route.specs.declared.route.Route.{Route}
use Rattle.eip_route.specs.declared.route.RouteSet.{RouteSet}
use Rattle.eip_route.specs.declared.step.Step.{Step}
use Rattle.eip_route.specs.Plain.{plain_handler, plain_policy}
use Rattle.eip_frames.specs.declared.request.At.{At}

-- ---- messages

abbrev pub plain : List ℕ → Message
plain text = record { body = text; headers = []; properties = [] }

-- the message behind a fault with this text
abbrev pub caught_with : List ℕ → List ℕ → Message
caught_with text cause = record { body = text; headers = []; properties = (codes "CamelExceptionCaught", cause) ∷ [] }

abbrev pub failed : List ℕ → List ℕ → End
failed kind text = Failed (fault kind text)

-- ---- templates

abbrev pub text_only : List ℕ → Template
text_only text = record { parts = Plain text ∷ [] }

-- the text, and then `${body}`
abbrev pub before_body : List ℕ → Template
before_body text = record { parts = Plain text ∷ Call function.Body ∷ [] }

-- ---- sets

abbrev pub lanes : Names
lanes = record { lanes = codes "lane:x" ∷ codes "file" ∷ codes "line" ∷ []; inlets = codes "stream" ∷ []; processors = []; predicates = codes "empty" ∷ [] }

abbrev pub block : List Step → Block
block steps = record { steps = steps }

-- from standard input, with the block of this number
abbrev pub lines_to : ℕ → Route
lines_to b = record { id = codes "route1"; from = uri.StreamIn; block = b }

-- one route from standard input, with its block and those nested in it
abbrev pub one_route : List Block → RouteSet
one_route blocks = record { names = lanes; routes = lines_to 0 ∷ []; blocks = blocks; handler = plain_handler; clauses = [] }

-- a dead letter endpoint behind so many redeliveries
abbrev pub dead_letters_to : Uri → ℕ → Handler
dead_letters_to u maximum = record { dead = Some u; policy = record plain_policy { maximum = Some maximum } }

-- ---- births

-- the first exchange, of a line
abbrev pub line : (block : ℕ) → List ℕ → Birth
line b text = record {
  number = 1;
  origin = origin.Source 0 (codes "1");
  work = work.Block b;
  hops = 0;
  depth = 0;
  route = 0;
  care = care.Full;
  message = plain text;
}

-- the second exchange, the first part of the first one
abbrev pub part_of_line : Work → Care → Message → Birth
part_of_line w c m = record { number = 2; origin = origin.Part 1 0; work = w; hops = 0; depth = 0; route = 0; care = c; message = m }

abbrev pub here : At
here = record { route = 0; depth = 0; index = 0 }

-- where part k is asked for
abbrev pub part_here : ℕ → At
part_here k = record { route = 0; depth = 0; index = k }
