-- The set of routes that a route file says.
use Rattle.std.specs.Prelude.{◌≡◌, ℕ, ◌+◌, Bool, true, false, if◌then◌else◌, List, [], ◌∷◌, Option, Some, None}
use Rattle.eip_text.specs.Json.{Json, list, Items, no_items, item, Members}
use Rattle.eip_uri.specs.declared.uri.Uri.{Uri}
use Rattle.eip_uri.specs.declared.uri.Uri.TheVariants as uri
use Rattle.eip_route.specs.declared.route.Handler.{Handler}
use Rattle.eip_route.specs.declared.route.Names.{Names}
use Rattle.eip_route.specs.declared.route.RouteSet.{RouteSet}
use Rattle.eip_route.specs.Nest.{NestedSteps, NestedLast, NestedClause, NestedRoute, NestedSet, none, more, no_last, last, flat_set}
use Rattle.eip_route_grammar.specs.Texts.{own_id}
use Rattle.eip_route_grammar.specs.Objects.{value_at, outcome}
use Rattle.eip_route_grammar.specs.declared.keys.Key.TheVariants as key
use Rattle.eip_route_values.specs.Leaves.{members_at, members_in, text_of, text_at, exceptions_given, policy_at, no_policy}
use Rattle.eip_route_values.specs.Parts.{endpoint, endpoint_in}
use Rattle.eip_route_values.specs.Nesting.{nest_list}

-- ---- clauses for exceptions

abbrev pub is_filled : NestedSteps → Bool
is_filled none = false
is_filled (more s ss) = true

-- an empty list of steps counts as absent
abbrev pub where_filled : NestedSteps → NestedLast
where_filled ss = if is_filled ss then last ss else no_last

abbrev pub clause_steps : Option Json → NestedLast
clause_steps None = no_last
clause_steps (Some t) = where_filled (nest_list t)

abbrev pub clause_in : Members → NestedClause
clause_in ms = record {
  names = exceptions_given (value_at key.Exception ms);
  policy = policy_at ms;
  handled = outcome (value_at key.Handled ms);
  continued = outcome (value_at key.Continued ms);
  steps = clause_steps (value_at key.Steps ms);
}

-- a clause that an item may have, before the others
abbrev pub with_clause : Option Members → List NestedClause → List NestedClause
with_clause None cs = cs
with_clause (Some ms) cs = clause_in ms ∷ cs

abbrev pub clauses_of : Items → List NestedClause
clauses_of no_items = []
clauses_of (item t ts) = with_clause (members_in key.OnException t) (clauses_of ts)

-- ---- the error handler

abbrev pub default_handler : Handler
default_handler = record { dead = None; policy = no_policy }

abbrev pub dead_letter_in : Members → Handler
dead_letter_in ms = record { dead = Some (endpoint (text_at key.DeadLetterUri ms) []); policy = policy_at ms }

abbrev pub retrying_in : Members → Handler
retrying_in ms = record { dead = None; policy = policy_at ms }

-- a dead letter channel, else the default handler
abbrev pub handler_given : Option Members → Option Members → Handler
handler_given (Some ms) retrying = dead_letter_in ms
handler_given None (Some ms) = retrying_in ms
handler_given None None = default_handler

abbrev pub handler_of : Members → Handler
handler_of ms = handler_given (members_at key.DeadLetterChannel ms) (members_at key.DefaultErrorHandler ms)

-- the handler of an item, else that of a later one
abbrev pub handler_or : Option Members → Handler → Handler
handler_or None later = later
handler_or (Some ms) later = handler_of ms

abbrev pub handler_in : Items → Handler
handler_in no_items = default_handler
handler_in (item t ts) = handler_or (members_in key.ErrorHandler t) (handler_in ts)

-- ---- routes

abbrev pub id_given : ℕ → Option Json → List ℕ
id_given k None = own_id k
id_given k (Some t) = text_of t

abbrev pub steps_given : Option Json → NestedSteps
steps_given None = none
steps_given (Some t) = nest_list t

-- the steps of a route, else those of its `from`
abbrev pub steps_or : Option Json → Option Json → NestedSteps
steps_or (Some t) inner = nest_list t
steps_or None inner = steps_given inner

-- where a route begins
abbrev pub begins_at : Option Members → Uri
begins_at None = uri.StreamIn
begins_at (Some ms) = endpoint_in ms

abbrev pub inner_steps : Option Members → Option Json
inner_steps None = None
inner_steps (Some ms) = value_at key.Steps ms

-- of an object of `route`
abbrev pub whole_route : ℕ → Members → NestedRoute
whole_route k ms = record {
  id = id_given k (value_at key.Id ms);
  from = begins_at (members_at key.From ms);
  steps = steps_or (value_at key.Steps ms) (inner_steps (members_at key.From ms));
}

-- of an object of `from` that stands alone
abbrev pub from_route : ℕ → Members → NestedRoute
from_route k ms = record { id = own_id k; from = endpoint_in ms; steps = steps_given (value_at key.Steps ms) }

-- the route of an item that has one of these keys
abbrev pub route_given : ℕ → Option Members → Option Members → Option NestedRoute
route_given k (Some ms) from = Some (whole_route k ms)
route_given k None (Some ms) = Some (from_route k ms)
route_given k None None = None

abbrev pub with_route : ℕ → Option NestedRoute → (ℕ → List NestedRoute) → List NestedRoute
with_route k None rest = rest k
with_route k (Some r) rest = r ∷ rest (k + 1)

-- the routes of these items, of which the first is at position k
abbrev pub routes_of : ℕ → Items → List NestedRoute
routes_of k no_items = []
routes_of k (item t ts) = with_route k (route_given k (members_in key.Route t) (members_in key.From t)) (λ j. routes_of j ts)

-- ---- the whole

abbrev pub nest_items : Items → NestedSet
nest_items ts = record { routes = routes_of 1 ts; handler = handler_in ts; clauses = clauses_of ts }

-- the routes of a tree
abbrev pub nest : Json → NestedSet
nest (list ts) = nest_items ts
nest _ = nest_items no_items

-- the set that a tree says, where these names are handed in
abbrev pub Reads : Json → Names → RouteSet → Type 0
Reads tree names s = s ≡ flat_set names (nest tree)
