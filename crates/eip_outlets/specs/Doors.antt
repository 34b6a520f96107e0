-- By which inlet the source of a route is read, and by which lane a target is sent to.
use Rattle.std.specs.Prelude.{ℕ, List, [], Option, Some, None, slice_get}
use Rattle.eip_uri.specs.Inlets.{inlet_of}
use Rattle.eip_uri.specs.Printed.{printed}
use Rattle.eip_route.specs.declared.route.Route.{Route}
use Rattle.eip_route.specs.declared.route.RouteSet.{RouteSet}
use Rattle.eip_endpoint.specs.Lanes.{first_named}
use Rattle.eip_endpoint.specs.Outside.{Doors, lane_of}

-- the first inlet of this name, if there is a name
abbrev pub inlet_named : List (List ℕ) → Option (List ℕ) → Option ℕ
inlet_named names (Some name) = first_named name names
inlet_named names None = None

-- the first inlet that has the name that the route's source asks for
abbrev pub inlet_at : List (List ℕ) → Option Route → Option ℕ
inlet_at names (Some r) = inlet_named names (inlet_of r.from)
inlet_at names None = None

abbrev pub uri_at : Option Route → List ℕ
uri_at (Some r) = printed r.from
uri_at None = []

-- the doors of a set among lanes and inlets of these names: the first of a name counts
abbrev pub doors_of : RouteSet → List (List ℕ) → List (List ℕ) → Doors
doors_of set lanes inlets = record {
  inlet = λ t. inlet_at inlets (slice_get set.routes t);
  uri = λ t. uri_at (slice_get set.routes t);
  lane = λ t. first_named (lane_of t) lanes;
}
