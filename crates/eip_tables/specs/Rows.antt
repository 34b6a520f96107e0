-- How a row stands for an exchange, by the exchange's own entries and its cursor.
use Rattle.std.specs.Prelude.{ℕ, ◌≡◌, ◌<◌, ◌≤◌, Bool, true, false, cond, List, [], ◌∷◌, ◌++◌, Option, Some, None, is_some, reverse, slice_get, length}
use Rattle.std.specs.List.{list_all}
use Rattle.eip_exchange.specs.declared.birth.Birth.{Birth}
use Rattle.eip_exchange.specs.declared.birth.Origin.{Origin}
use Rattle.eip_exchange.specs.declared.birth.Origin.TheVariants as from
use Rattle.eip_exchange.specs.declared.message.Message.{Message}
use Rattle.eip_exchange.specs.declared.end.Fault.{Fault}
use Rattle.eip_exchange.specs.declared.end.End.{End}
use Rattle.eip_exchange.specs.declared.end.End.TheVariants as end
use Rattle.eip_exchange.specs.Ends.{out_of_memory, commit_failed}
use Rattle.eip_uri.specs.Inlets.{inlet_of}
use Rattle.eip_route.specs.declared.route.Route.{Route}
use Rattle.eip_route.specs.declared.route.RouteSet.{RouteSet}
use Rattle.eip_frames.specs.declared.request.At.{At}
use Rattle.eip_frames.specs.declared.request.Request.{Request}
use Rattle.eip_frames.specs.declared.answer.Answer.{Answer as Reply}
use Rattle.eip_frames.specs.Fate.{AsksNext, Ends}
use Rattle.eip_frames.specs.Fits.{is_outside}
use Rattle.eip_ledger.specs.declared.entry.Entry.{Entry}
use Rattle.eip_ledger.specs.declared.entry.Kind.TheVariants.{Accept, Answer}
use Rattle.eip_ledger.specs.declared.place.Place.{Place}
use Rattle.eip_ledger.specs.declared.place.Place.TheVariants as place_is
use Rattle.eip_meaning.specs.Meaning.{mean, item_of}
use Rattle.eip_progress.specs.declared.cursor.Cursor.{Cursor}
use Rattle.eip_progress.specs.Rest.{rest, IsFirst, AnswerFits}
use Rattle.eip_history.specs.Plan.{Plan}
use Rattle.eip_history.specs.Own.{Past, own, answers, starved, started, taker, last_answer, source_state, clock, turns}
use Rattle.eip_history.specs.Own as own_of
use Rattle.eip_history.specs.Births.{fate, item_birth}
use Rattle.eip_history.specs.Place.{pause_of, paused, all_ended, Runs, end_of}
use Rattle.eip_history.specs.Rules.{IsSource}
use Rattle.eip_plan.specs.Plan.{plan_of}
use Rattle.eip_tables.specs.Closing.{Closing}
use Rattle.eip_tables.specs.Closing as closing
use Rattle.eip_tables.specs.Moves.{starving}
use Rattle.eip_tables.specs.Groups.{completed}
use Rattle.eip_tables.specs.State.{State, state_of}
use Rattle.eip_tables.specs.State as state
use Rattle.eip_tables.specs.declared.row.Born.{Born}
use Rattle.eip_tables.specs.declared.row.Born.TheVariants as born
use Rattle.eip_tables.specs.Row.{Row}
use Rattle.eip_tables.specs.declared.row.SourceState.{SourceState}
use Rattle.eip_tables.specs.declared.row.SourceState.TheVariants as source

-- the entry with an index from 0, the oldest first
unfoldable pub entry_at : Past → ℕ → Option Entry
entry_at past i = slice_get (reverse past) i

-- the exchange was born of the item that this entry accepted
pub record IsBornAt (s : Plan) (past : Past) (i : ℕ) (b : Birth) : Type 0 where
  pub worker : ℕ
  pub source : ℕ
  pub item : List ℕ
  pub message : Message
  pub entry : entry_at past i ≡ Some (record { worker = worker; kind = Accept source item message })
  pub birth : b ≡ item_birth s b.number source item message

-- what made the exchange, as its row says it
abbrev pub ComesFrom : Plan → Past → Born → Birth → Type 0
ComesFrom s past (born.Item i) b = IsBornAt s past i b
ComesFrom s past (born.Copy q) b = b.origin ≡ from.Queue q
ComesFrom s past (born.Part parent index) b = b.origin ≡ from.Part parent index
ComesFrom s past (born.Group group cause) b = b.origin ≡ from.Group group

-- what a row keeps of a birth, by whether the exchange lives: that of a copy, a part or a group, until it has ended, and for a part
-- what it would fail with if it were starved; that of a group doesn't say yet what closed it
abbrev pub Keeps : Born → Bool → Birth → Option Birth → Option Fault → Type 0
Keeps (born.Copy q) true b o f = o ≡ Some b
Keeps (born.Part parent index) true b o f = (o ≡ Some b) × (f ≡ Some starving)
Keeps (born.Group group cause) true b o f = (k : Birth) × (o ≡ Some k) × (b ≡ completed cause k)
Keeps _ _ b o f = Unit {0}

-- it has left its queue, by whether it has started, or was born into none
abbrev pub has_left : Origin → Bool → Bool
has_left (from.Queue q) has_started = has_started
has_left _ has_started = true

-- it waits in the queue that it was born into
pub record IsWaiting (past : Past) (b : Birth) : Type 0 where
  pub queue : ℕ
  pub origin : b.origin ≡ from.Queue queue
  pub none : own b.number past ≡ []

-- it may act, and nothing has been answered yet
pub record IsUnasked (past : Past) (b : Birth) : Type 0 where
  pub fed : starved (own b.number past) ≡ false
  pub taken : taker (own b.number past) ≡ None
  pub silent : answers (own b.number past) ≡ []
  pub runs : pause_of (last_answer (own b.number past)) ≡ Runs
  pub left : has_left b.origin (started (own b.number past)) ≡ true

-- the end that a closing stands for
abbrev pub closed_end : Birth → Closing → End
closed_end b closing.Completed = end.Completed
closed_end b closing.Handled = end.Handled
closed_end b (closing.Failed f) = end.Failed f
closed_end b closing.Starved = out_of_memory
closed_end b closing.NotCommitted = commit_failed (item_of b.origin)

-- where its last answer leaves an exchange, taken or not: behind the birth of parts it is Joining until all of them have ended, behind
-- a sleep it is asleep until its moment has come, and Ready from there on
abbrev pub pause_place : RouteSet → Past → Birth → Place
pause_place set past b = paused (clock past) (all_ended (plan_of set) past) (pause_of (last_answer (own b.number past)))

-- the cursor stands for the exchange's answers so far and those of the list behind them, and the last answer leaves it there
pub record Follows (set : RouteSet) (past : Past) (b : Birth) (c : Cursor) (more : List Reply) (t : Option ℕ) (p : Place) : Type 0 where
  pub later : IsFirst c → ⊥
  pub fed : starved (own b.number past) ≡ false
  pub taken : taker (own b.number past) ≡ t
  pub pause : pause_place set past b ≡ p
  pub left : has_left b.origin (started (own b.number past)) ≡ true
  pub rests : (A : List Reply) → rest set c (more ++ A) ≡ mean set b (answers (own b.number past) ++ A)

-- it asks this request
pub record IsAsking (set : RouteSet) (past : Past) (b : Birth) (c : Cursor) (q : Request) (t : Option ℕ) : Type 0 where
  pub follows : Follows set past b c [] t place_is.Ready
  pub at : At
  pub asks : rest set c [] ≡ AsksNext q at

-- it has the answer of this entry, which does not end it, and leaves it there
pub record HasAnswer (set : RouteSet) (past : Past) (b : Birth) (c : Cursor) (i : ℕ) (p : Place) : Type 0 where
  pub worker : ℕ
  pub answer : Reply
  pub entry : entry_at past i ≡ Some (record { worker = worker; kind = Answer b.number answer })
  pub follows : Follows set past b c (answer ∷ []) None p
  pub fitting : AnswerFits (rest set c []) answer
  pub lives : end_of (fate (plan_of set) past b) ≡ None

-- it has ended so
pub record HasEnded (set : RouteSet) (past : Past) (b : Birth) (c : Closing) : Type 0 where
  pub taken : taker (own b.number past) ≡ None
  pub message : Message
  pub ends : fate (plan_of set) past b ≡ Ends (closed_end b c) message

abbrev pub StateStands : RouteSet → Past → Birth → State → Type 0
StateStands set past b state.Queued = IsWaiting past b
StateStands set past b state.New = IsUnasked past b
StateStands set past b (state.Asks c q) = IsAsking set past b c q None
StateStands set past b (state.Held c w) = (q : Request) × IsAsking set past b c q (Some w) × (is_outside q ≡ true)
StateStands set past b (state.Joining c i) = HasAnswer set past b c i place_is.Joining
StateStands set past b (state.Asleep c i due) = HasAnswer set past b c i (place_is.Retry due)
StateStands set past b (state.Answered c i) = HasAnswer set past b c i place_is.Ready
StateStands set past b (state.Ended c) = HasEnded set past b c
StateStands set past b state.Broken = ⊥

-- the rows by the place of their exchange
abbrev pub state_ready : State → Bool
state_ready state.Queued = false
state_ready state.New = true
state_ready (state.Asks c q) = true
state_ready (state.Held c w) = false
state_ready (state.Answered c i) = true
state_ready _ = false

abbrev pub state_held : State → Bool
state_held (state.Held c w) = true
state_held _ = false

abbrev pub state_live : State → Bool
state_live (state.Ended c) = false
state_live _ = true

abbrev pub row_ready : Row → Bool
row_ready r = state_ready (state_of r)

abbrev pub row_held : Row → Bool
row_held r = state_held (state_of r)

abbrev pub row_live : Row → Bool
row_live r = state_live (state_of r)

-- a row stands for an exchange; no exchange has more hops than turns were taken, since each hop is the answer to an offer
pub record RowStands (set : RouteSet) (past : Past) (b : Birth) (r : Row) : Type 0 where
  pub born : ComesFrom (plan_of set) past r.born b
  pub kept : Keeps r.born (row_live r) b r.birth r.fault
  pub hops : b.hops ≤ turns past
  pub stands : StateStands set past b (state_of r)

-- where a source stands, as the books keep it
abbrev pub kept_state : own_of.SourceState → SourceState
kept_state own_of.Idle = source.Idle
kept_state (own_of.Out w) = source.Out w
kept_state own_of.Done = source.Done

abbrev pub source_row : Plan → Past → ℕ → SourceState
source_row s past r = cond (s.is_source r) (kept_state (source_state r past)) source.Unused

-- the states of all routes' sources, by the index of the route
pub record SourcesStand (s : Plan) (past : Past) (rows : List SourceState) : Type 0 where
  pub many : length rows ≡ s.routes
  pub each : (r : ℕ) → r < s.routes → slice_get rows r ≡ Some (source_row s past r)

-- a source that may be pulled
abbrev pub is_idle : SourceState → Bool
is_idle source.Idle = true
is_idle _ = false

-- a route that has no source, or one that is finished
abbrev pub is_done_row : SourceState → Bool
is_done_row source.Unused = true
is_done_row source.Done = true
is_done_row _ = false

-- every source is finished
abbrev pub are_done : List SourceState → Bool
are_done rows = list_all is_done_row rows

abbrev pub first_state : Bool → SourceState
first_state true = source.Idle
first_state false = source.Unused

-- where the source of a route stands before the first entry
abbrev pub first_row : Route → SourceState
first_row r = first_state (is_some (inlet_of r.from))

-- the route has a source, which may be pulled but for the limit
abbrev pub IsIdleSource : Plan → Past → ℕ → Type 0
IsIdleSource s past t = IsSource s t × (source_state t past ≡ own_of.Idle)
