-- Worked rows: what a try of a kind of step gives.
use Rattle.std.specs.Prelude.{◌≡◌, ℕ, zero, suc, Bool, true, false, List, [], ◌∷◌, codes, Some, None, refl}
use Rattle.std.specs.Fmt.{digits}
use Rattle.eip_text.specs.Names.{is_name}
use Rattle.eip_exchange.specs.Ends.{fault}
use Rattle.eip_exchange.specs.Headers.{is_redelivery}
use Rattle.eip_exchange.specs.Pairs.{Pairs}
use Rattle.eip_exchange.specs.declared.message.Message.{Message}
use Rattle.eip_exchange.specs.declared.birth.Care.TheVariants as care
use Rattle.eip_exchange.specs.declared.setting.Strategy.TheVariants as strategy
use Rattle.eip_simple_read.specs.declared.tree.Function.TheVariants as function
use Rattle.eip_simple_read.specs.declared.tree.Part.TheVariants.{Plain, Call}
use Rattle.eip_simple_read.specs.declared.tree.Template.{Template}
use Rattle.eip_simple.specs.Values.{template_value}
use Rattle.eip_route.specs.declared.route.RouteSet.{RouteSet}
use Rattle.eip_route.specs.declared.step.Check.TheVariants as check
use Rattle.eip_route.specs.declared.step.Expr.{Expr}
use Rattle.eip_route.specs.declared.step.Expr.TheVariants as expr
use Rattle.eip_route.specs.declared.step.Step.{Step}
use Rattle.eip_route.specs.declared.step.Step.TheVariants as step
use Rattle.eip_frames.specs.declared.request.Request.TheVariants as request
use Rattle.eip_frames.specs.declared.answer.Answer.TheVariants as reply
use Rattle.eip_meaning.specs.declared.context.Context.{Context}
use Rattle.eip_meaning.specs.RowForms.{one_route, before_body, here}
use Rattle.eip_meaning.specs.Outcomes.{Asks, Goes, Faults, Runner}
use Rattle.eip_meaning.specs.Values.{with_body, with_property}
use Rattle.eip_meaning.specs.Steps.{one_try}

abbrev pub set : RouteSet
set = one_route []

-- the seventh exchange, in the block of its route
abbrev pub seventh : Context
seventh = record { number = 7; hops = 0; care = care.Full; handling = false; route = 0; depth = 0 }

-- block b, as one that leaves its number behind in the body
abbrev pub marks : ℕ → Runner
marks b m A = Goes (with_body m (b ∷ [])) A

abbrev pub try_once : Step → Runner
try_once s m A = one_try set marks marks seventh s m A

abbrev pub message : Message
message = record { body = codes "ab"; headers = (codes "Colour", codes "red") ∷ []; properties = (codes "p", codes "x") ∷ [] }

abbrev pub of_body : List ℕ → Message
of_body text = record message { body = text }

-- ---- values

-- `${body}${body}`
abbrev pub doubled : Template
doubled = record { parts = Call function.Body ∷ Call function.Body ∷ [] }

pub row-body : try_once (step.SetBody (expr.Simple doubled)) message [] ≡ Goes (of_body (codes "abab")) []
unfolding template_value
row-body = refl

-- `${exchangeId} ${routeId}`
pub row-whose : try_once (step.SetBody (expr.Simple (record { parts = Call function.ExchangeId ∷ Plain (codes " ") ∷ Call function.RouteId ∷ [] }))) message [] ≡ Goes (of_body (codes "7 route1")) []
unfolding template_value digits
row-whose = refl

pub row-header : try_once (step.SetBody (expr.Header (codes "colour"))) message [] ≡ Goes (of_body (codes "red")) []
row-header = refl

pub row-no_header : try_once (step.SetBody (expr.Header (codes "size"))) message [] ≡ Goes (of_body []) []
row-no_header = refl

pub row-property : try_once (step.SetBody (expr.Property (codes "p"))) message [] ≡ Goes (of_body (codes "x")) []
row-property = refl

-- property names are told apart by case
pub row-no_property : try_once (step.SetBody (expr.Property (codes "P"))) message [] ≡ Goes (of_body []) []
row-no_property = refl

-- ---- headers and properties

-- a header that is there keeps its spelling
pub row-set_header : try_once (step.SetHeader (codes "colour") (expr.Constant (codes "blue"))) message [] ≡ Goes (record message { headers = (codes "Colour", codes "blue") ∷ [] }) []
unfolding is_redelivery
row-set_header = refl

pub row-set_property : try_once (step.SetProperty (codes "q") (expr.Constant (codes "y"))) message [] ≡ Goes (record message { properties = (codes "p", codes "x") ∷ (codes "q", codes "y") ∷ [] }) []
row-set_property = refl

pub row-remove : try_once (step.RemoveHeader (codes "COLOUR")) message [] ≡ Goes (record message { headers = [] }) []
row-remove = refl

pub row-remove_none : try_once (step.RemoveHeader (codes "size")) message [] ≡ Goes message []
row-remove_none = refl

-- so many headers, each named by a byte of its own
abbrev headers : ℕ → Pairs
headers zero = []
headers (suc n) = (n ∷ [], []) ∷ headers n

abbrev full : Message
full = record message { headers = headers 64 }

pub row-too_many : try_once (step.SetHeader (codes "one") (expr.Constant [])) full [] ≡ Faults (fault (codes "TooManyHeaders") (codes "one")) false []
unfolding is_redelivery
row-too_many = refl

-- ---- log, faults and processors

pub row-log : try_once (step.Log (Some (codes "audit")) doubled) message [] ≡ Asks (request.Log (codes "audit") (codes "abab")) here
unfolding template_value
row-log = refl

-- without a name of its own it is the route's
pub row-log_route : try_once (step.Log None doubled) message [] ≡ Asks (request.Log (codes "route1") (codes "abab")) here
unfolding template_value
row-log_route = refl

pub row-noted : try_once (step.Log None doubled) message (reply.Noted ∷ []) ≡ Goes message []
unfolding template_value
row-noted = refl

pub row-throw : try_once (step.Throw (codes "Bad") (before_body (codes "no "))) (of_body (codes "a")) [] ≡ Faults (fault (codes "Bad") (codes "no a")) false []
unfolding template_value
row-throw = refl

pub row-process : try_once (step.Process (codes "shout")) message [] ≡ Asks (request.Process (codes "shout") message) here
row-process = refl

pub row-became : try_once (step.Process (codes "shout")) message (reply.Became (of_body (codes "AB")) ∷ []) ≡ Goes (of_body (codes "AB")) []
row-became = refl

-- a processor's fault may be tried again
pub row-raised : try_once (step.Process (codes "shout")) message (reply.Raised (fault (codes "Bad") (codes "t")) ∷ []) ≡ Faults (fault (codes "Bad") (codes "t")) true []
unfolding is_name
row-raised = refl

-- ---- choices

abbrev pub choice : Step
choice = step.Choice ((check.Fixed false, 1) ∷ (check.Stored (codes "empty"), 2) ∷ (check.Fixed true, 3) ∷ []) (Some 4)

-- a case with a predicate that is handed in asks for it
pub row-test : try_once choice message [] ≡ Asks (request.Test (codes "empty") message) here
row-test = refl

pub row-second : try_once choice message (reply.Holds true ∷ []) ≡ Goes (of_body (2 ∷ [])) []
row-second = refl

pub row-third : try_once choice message (reply.Holds false ∷ []) ≡ Goes (of_body (3 ∷ [])) []
row-third = refl

pub row-otherwise : try_once (step.Choice ((check.Fixed false, 1) ∷ []) (Some 4)) message [] ≡ Goes (of_body (4 ∷ [])) []
row-otherwise = refl

pub row-none : try_once (step.Choice ((check.Fixed false, 1) ∷ []) None) message [] ≡ Goes message []
row-none = refl

pub row-filter : try_once (step.Filter (check.Fixed true) 5) message [] ≡ Goes (of_body (5 ∷ [])) []
row-filter = refl

pub row-filtered : try_once (step.Filter (check.Fixed false) 5) message [] ≡ Goes message []
row-filtered = refl

-- ---- aggregates and keys

abbrev pub pairs_by : Expr → Step
pairs_by key = step.Aggregate (record { key = key; strategy = strategy.Latest; predicate = None; size = Some 2; timeout = None; force = false; block = 6 })

pub row-arrive : try_once (pairs_by (expr.Header (codes "Colour"))) message [] ≡ Asks (request.Arrive 6 (codes "red") message) here
row-arrive = refl

-- whether the group is closed or not, the exchange goes on
pub row-arrived : try_once (pairs_by (expr.Header (codes "Colour"))) message (reply.Arrived 1 ∷ []) ≡ Goes message []
row-arrived = refl

pub row-no_key : try_once (pairs_by (expr.Header (codes "size"))) message [] ≡ Faults (fault (codes "InvalidCorrelationKey") []) false []
row-no_key = refl

-- the group's strategy refuses the message, and the arrival isn't tried again
pub row-unfit : try_once (pairs_by (expr.Header (codes "Colour"))) message (reply.Unfit (fault (codes "NotNumber") []) ∷ []) ≡ Faults (fault (codes "NotNumber") []) false []
row-unfit = refl

abbrev pub once : (skip : Bool) → Step
once skip = step.Idempotent (expr.Property (codes "p")) (codes "seen") skip false true 8

pub row-idem : try_once (once true) message [] ≡ Asks (request.Idem (codes "seen") (codes "x") false true) here
row-idem = refl

pub row-fresh : try_once (once true) message (reply.Fresh ∷ []) ≡ Goes (of_body (8 ∷ [])) []
row-fresh = refl

pub row-duplicate : try_once (once true) message (reply.Duplicate 3 ∷ []) ≡ Goes (with_property message (codes "CamelDuplicateMessage") (codes "true")) []
row-duplicate = refl

pub row-duplicate_runs : try_once (once false) message (reply.Duplicate 3 ∷ []) ≡ Goes (with_property (of_body (8 ∷ [])) (codes "CamelDuplicateMessage") (codes "true")) []
row-duplicate_runs = refl

pub row-no_id : try_once (step.Idempotent (expr.Constant []) (codes "seen") true true true 8) message [] ≡ Faults (fault (codes "NoMessageId") []) false []
row-no_id = refl
