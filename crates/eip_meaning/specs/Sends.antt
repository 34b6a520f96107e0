-- Sends to endpoints.
use Rattle.std.specs.Prelude.{ℕ, Bool, true, false, cond, not, ◌&&◌, ltb, nat_le, List, [], ◌++◌, length, codes, decimal, bytes_eq, Option, Some, None, unwrap_or, slice_get}
use Rattle.eip_text.specs.Cuts.{holds_byte}
use Rattle.eip_exchange.specs.Ends.{fault}
use Rattle.eip_exchange.specs.Headers.{get_header}
use Rattle.eip_exchange.specs.declared.message.Message.{Message}
use Rattle.eip_exchange.specs.declared.end.Fault.{Fault}
use Rattle.eip_uri.specs.Printed.{printed}
use Rattle.eip_uri.specs.declared.uri.Uri.{Uri}
use Rattle.eip_uri.specs.declared.uri.Uri.TheVariants as uri
use Rattle.eip_route.specs.Goals.{goal_of}
use Rattle.eip_route.specs.declared.goal.Goal.{Goal}
use Rattle.eip_route.specs.declared.goal.Goal.TheVariants as goal
use Rattle.eip_route.specs.declared.route.Route.{Route}
use Rattle.eip_route.specs.declared.route.RouteSet.{RouteSet}
use Rattle.eip_frames.specs.declared.request.Target.{Target}
use Rattle.eip_frames.specs.declared.request.Target.TheVariants as target
use Rattle.eip_frames.specs.declared.request.Request.TheVariants as request
use Rattle.eip_meaning.specs.declared.context.Context.{Context}
use Rattle.eip_meaning.specs.Contexts.{place_in}
use Rattle.eip_meaning.specs.Outcomes.{Goes, Faults, Runner, unless_fault, ask}

-- ---- faults that are found before anything is asked, in this order: limits, the consumer, the form

-- 32 direct calls at one time
abbrev pub too_deep : (depth : ℕ) → List ℕ → Option Fault
too_deep depth name = cond (ltb depth 32) None (Some (fault (codes "TooDeep") (codes "direct:" ++ name)))

-- 100 queues in a lineage
abbrev pub too_many_hops : (hops : ℕ) → List ℕ → Option Fault
too_many_hops hops name = cond (ltb hops 100) None (Some (fault (codes "TooManyHops") (codes "seda:" ++ name)))

abbrev pub limit_fault : Context → Uri → Option Fault
limit_fault c (uri.Direct name) = too_deep c.depth name
limit_fault c (uri.Seda name size consumers discard) = too_many_hops c.hops name
limit_fault c _ = None

abbrev pub no_consumer : Uri → Fault
no_consumer u = fault (codes "NoConsumer") (printed u)

-- the name of the file that a message is written to: its header's, else the exchange's
abbrev pub file_name : Context → Message → List ℕ
file_name c m = unwrap_or (get_header (codes "CamelFileName") m.headers) (codes "exchange-" ++ decimal c.number)

-- 1 to 255 bytes, that aren't `.` or `..`, and have no `/` (47) and no NUL
abbrev pub is_file_name : List ℕ → Bool
is_file_name name =
    nat_le 1 (length name) && (nat_le (length name) 255
    && (not (bytes_eq name (codes ".")) && (not (bytes_eq name (codes "..")) && (not (holds_byte 47 name) && not (holds_byte 0 name)))))

-- no LF (10)
abbrev pub is_one_line : List ℕ → Bool
is_one_line body = not (holds_byte 10 body)

abbrev pub bad_name : List ℕ → Option Fault
bad_name name = cond (is_file_name name) None (Some (fault (codes "BadFileName") name))

abbrev pub not_one_line : List ℕ → Option Fault
not_one_line body = cond (is_one_line body) None (Some (fault (codes "NotOneLine") []))

-- a message that an endpoint can't take
abbrev pub form_fault : Context → Uri → Message → Option Fault
form_fault c (uri.File folder after failed exist) m = bad_name (file_name c m)
form_fault c (uri.Line host port) m = not_one_line m.body
form_fault c _ m = None

-- ---- where messages go

-- what a lane is asked to send to
abbrev pub target_of : Context → Uri → Message → Option Target
target_of c (uri.File folder after failed exist) m = Some (target.File folder (file_name c m) exist)
target_of c (uri.Line host port) m = Some (target.Line host port)
target_of c (uri.Lane name) m = Some (target.Lane name)
target_of c _ m = None

abbrev pub sent : RouteSet → Context → Option Target → Runner
sent set c None m A = Goes m A
sent set c (Some t) m A = ask set (request.Send t m) (place_in c 0) (λ a A'. Goes m A') A

-- out by a lane
abbrev pub lane_mean : RouteSet → Context → Uri → Runner
lane_mean set c u m A = unless_fault (form_fault c u m) (λ A'. sent set c (target_of c u m) m A') A

abbrev pub log_of : Uri → List ℕ
log_of (uri.Log name) = name
log_of _ = []

-- a queue of the set: a route that takes copies
abbrev pub is_queue_uri : Uri → Bool
is_queue_uri (uri.Seda name size consumers discard) = true
is_queue_uri _ = false

abbrev pub is_queue_route : Option Route → Bool
is_queue_route None = false
is_queue_route (Some r) = is_queue_uri r.from

abbrev pub is_queue : RouteSet → (route : ℕ) → Bool
is_queue set r = is_queue_route (slice_get set.routes r)

-- a full queue drops the copy where the sender says so
abbrev pub discards : Uri → Bool
discards (uri.Seda name size consumers discard) = discard
discards _ = false

-- to the goal of an endpoint: a route that is called runs on the same message, and behind all others the message goes on as it was
abbrev pub goal_mean : RouteSet → (call : ℕ → Runner) → Context → Uri → Goal → Runner
goal_mean set call c u (goal.Direct r) m A = ask set (request.Call r) (place_in c 0) (λ a A'. call r m A') A
goal_mean set call c u (goal.Queue r) m A =
    cond (is_queue set r) (ask set (request.Offer r (discards u) m) (place_in c 0) (λ a A'. Goes m A') A) (Faults (no_consumer u) false A)
goal_mean set call c u goal.Lane m A = lane_mean set c u m A
goal_mean set call c u goal.Log m A = ask set (request.Log (log_of u) m.body) (place_in c 0) (λ a A'. Goes m A') A
goal_mean set call c u goal.NoConsumer m A = Faults (no_consumer u) false A

-- the send of a message to an endpoint
abbrev pub to_mean : RouteSet → (call : ℕ → Runner) → Context → Uri → Runner
to_mean set call c u m A = unless_fault (limit_fault c u) (λ A'. goal_mean set call c u (goal_of set u) m A') A
