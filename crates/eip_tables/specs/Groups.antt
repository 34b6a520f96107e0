-- How a table of groups stands for a history, and the exchanges of closed groups.
use Rattle.std.specs.Prelude.{ℕ, ◌+◌, ◌≤◌, List, [], ◌∷◌, ◌++◌, Option, Some, None, codes, length}
use Rattle.eip_exchange.specs.declared.message.Message.{Message}
use Rattle.eip_exchange.specs.declared.birth.Birth.{Birth}
use Rattle.eip_exchange.specs.declared.birth.Origin.TheVariants as from
use Rattle.eip_exchange.specs.declared.birth.Work.TheVariants.{Block}
use Rattle.eip_exchange.specs.declared.birth.Care.TheVariants.{Full}
use Rattle.eip_route.specs.declared.route.RouteSet.{RouteSet}
use Rattle.eip_frames.specs.declared.answer.Answer.{Answer as Reply}
use Rattle.eip_frames.specs.declared.answer.Answer.TheVariants as reply
use Rattle.eip_frames.specs.declared.answer.Completion.{Completion}
use Rattle.eip_frames.specs.declared.request.Request.{Request}
use Rattle.eip_frames.specs.declared.request.Request.TheVariants.{Arrive}
use Rattle.eip_ledger.specs.declared.entry.Kind.{Kind}
use Rattle.eip_ledger.specs.declared.entry.Kind.TheVariants.{Answer, Tick, Force}
use Rattle.eip_aggregator.specs.Arrivals as table
use Rattle.eip_aggregator.specs.Arrivals.{Call, Came, Ticked, Forced, Settings}
use Rattle.eip_aggregator.specs.Tables as tables
use Rattle.eip_aggregator.specs.Tables.{Table}
use Rattle.eip_aggregator.specs.declared.closed.Closed.{Closed}
use Rattle.eip_aggregator.specs.declared.closed.OpenGroup.{OpenGroup}
use Rattle.eip_meaning.specs.Values.{id_of}
use Rattle.eip_history.specs.Own.{Past, turns}
use Rattle.eip_history.specs.Groups.{Arrival, Group, greatest_hops, property}
use Rattle.eip_history.specs.Births.{Asked, arrival_of, asked, groups, name_of}
use Rattle.eip_plan.specs.Plan.{plan_of, setting_of, route_around}
use Rattle.eip_tables.specs.Row.{Row}
use Rattle.eip_tables.specs.Moves.{grouped_row}
use Rattle.eip_tables.specs.Offers.{hops_by}
use Rattle.eip_tables.specs.Parts.{at_by}

-- ---- the calls

-- an arrival as the table is told it, with the id of the route whose block runs
abbrev pub told : RouteSet → Arrival → table.Arrival
told set p = record { number = p.number; route = id_of set p.route; hops = p.hops; at = p.at; message = p.message }

-- an exchange that asks to join a group comes to its aggregator, where its answer says that it joined
abbrev pub calls_for : RouteSet → Past → Asked → Request → Reply → List Call
calls_for set past k (Arrive a key m) (reply.Arrived n) = Came (a, key) (told set (arrival_of past k m)) ∷ []
calls_for set past k (Arrive a key m) (reply.Closed g c n) = Came (a, key) (told set (arrival_of past k m)) ∷ []
calls_for set past k _ _ = []

abbrev pub calls_by : RouteSet → Past → Option Asked → Reply → List Call
calls_by set past None a = []
calls_by set past (Some k) a = calls_for set past k k.request a

-- the call that an entry is for the table
abbrev pub calls_in : RouteSet → Past → Kind → List Call
calls_in set past (Answer x a) = calls_by set past (asked (plan_of set) past x) a
calls_in set past (Tick t) = Ticked t ∷ []
calls_in set past Force = Forced ∷ []
calls_in set past _ = []

-- the calls that a journal gives, the newest first
unfoldable pub group_calls : RouteSet → Past → List Call
group_calls set [] = []
group_calls set (e ∷ past) = calls_in set past e.kind ++ group_calls set past

-- the setting of each aggregator, by the number of its block
abbrev pub settings : RouteSet → Settings
settings set a = setting_of set a

-- no part of these groups has more hops
abbrev pub HopsWithin : ℕ → List Group → Type 0
HopsWithin n [] = Unit {0}
HopsWithin n (g ∷ gs) = (greatest_hops g.parts ≤ n) × HopsWithin n gs

-- the table stands for the calls that the journal gives
pub record GroupsStand (set : RouteSet) (past : Past) (open_groups : Table) : Type 0 where
  pub stands : tables.Stands (settings set) (group_calls set past) open_groups
  -- no part has more hops than turns were taken
  pub hops : HopsWithin (turns past) (groups (plan_of set) past)

-- ---- exchanges of closed groups

-- the exchange of a closed group, but for what its message says of its closing
abbrev pub closed_birth : RouteSet → ℕ → Closed → Birth
closed_birth set number x = record {
  number = number;
  origin = from.Group x.group;
  work = Block x.block;
  hops = x.hops;
  depth = 0;
  route = route_around set x.block;
  care = Full;
  message = x.message;
}

-- with that
abbrev pub completed : Completion → Birth → Birth
completed c b = record b { message = property (codes "CamelAggregatedCompletedBy") (name_of c) b.message }

-- its row; what the message says of the closing is added when the exchange is first looked at, since that takes memory
abbrev pub group_row : RouteSet → ℕ → Closed → Row
group_row set number x = grouped_row x.group x.cause (closed_birth set number x)

-- the rows of groups that close together, numbered on
abbrev pub group_rows : RouteSet → ℕ → List Closed → List Row
group_rows set number [] = []
group_rows set number (x ∷ xs) = group_row set number x ∷ group_rows set (number + 1) xs

-- ---- what is asked

-- which aggregator an exchange asks to take it, by which key and with which message
abbrev pub arrival_asked : Option Request → Option (ℕ × (List ℕ × Message))
arrival_asked (Some (Arrive a key m)) = Some (a, (key, m))
arrival_asked _ = None

-- how the exchange with this number and row comes to its aggregator with this message
abbrev pub coming : RouteSet → (number clock : ℕ) → Row → Message → table.Arrival
coming set number clock r m = record { number = number; route = id_of set (at_by r.cursor).route; hops = hops_by r.born r.birth; at = clock; message = m }

-- ---- open groups

-- an open group as it is shown
pub record Shown : Type 0 where
  pub number : ℕ
  pub size : ℕ
  pub key : List ℕ

abbrev pub shown_group : Group → Shown
shown_group g = record { number = g.number; size = length g.parts; key = g.key }

abbrev pub seen_group : OpenGroup → Shown
seen_group x = record { number = x.number; size = x.size; key = x.key.now }
