-- What the texts call the routes of a set.
use Rattle.std.specs.Prelude.{ℕ, List, [], Option, Some, None, slice_get}
use Rattle.eip_uri.specs.declared.uri.Uri.{Uri}
use Rattle.eip_uri.specs.declared.uri.Uri.TheVariants.{Seda}
use Rattle.eip_route.specs.declared.route.Route.{Route}
use Rattle.eip_route.specs.declared.route.RouteSet.{RouteSet}
use Rattle.eip_history.specs.BookText.{RouteNames}

-- the id of a route
abbrev pub id_of : Option Route → List ℕ
id_of (Some r) = r.id
id_of None = []

-- the name of a queue
abbrev pub queue_of : Uri → List ℕ
queue_of (Seda name size consumers discard) = name
queue_of _ = []

-- the name of the queue that a route takes its messages from
abbrev pub queue_name_of : Option Route → List ℕ
queue_name_of (Some r) = queue_of r.from
queue_name_of None = []

-- the names of a set's routes and queues, by the index of the route
unfoldable pub route_names : RouteSet → RouteNames
route_names set = record { route_id = λ r. id_of (slice_get set.routes r); queue_name = λ r. queue_name_of (slice_get set.routes r) }
