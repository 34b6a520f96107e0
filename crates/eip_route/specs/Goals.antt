-- Where the messages of a URI go.
use Rattle.std.specs.Prelude.{ℕ, Bool, cond, List, [], ◌∷◌, ◌++◌, Option, Some, None, codes, bytes_eq}
use Rattle.std.specs.List.{list_any}
use Rattle.eip_uri.specs.declared.uri.Uri.{Uri}
use Rattle.eip_uri.specs.declared.uri.Uri.TheVariants as uri
use Rattle.eip_route.specs.Faults.{same_consumer, next_number}
use Rattle.eip_route.specs.declared.goal.Goal.{Goal}
use Rattle.eip_route.specs.declared.goal.Goal.TheVariants as goal
use Rattle.eip_route.specs.declared.route.Route.{Route}
use Rattle.eip_route.specs.declared.route.RouteSet.{RouteSet}

-- the first of the routes from number k on that has this consumer
abbrev pub consumer : Uri → ℕ → List Route → Option ℕ
consumer u k [] = None
consumer u k (r ∷ rs) = cond (same_consumer r.from u) (Some k) (consumer u (next_number k) rs)

-- a text stands among others
abbrev pub is_among : List ℕ → List (List ℕ) → Bool
is_among name names = list_any (λ n. bytes_eq n name) names

abbrev pub direct : Option ℕ → Goal
direct None = goal.NoConsumer
direct (Some route) = goal.Direct route

abbrev pub queue : Option ℕ → Goal
queue None = goal.NoConsumer
queue (Some route) = goal.Queue route

abbrev pub lane : Bool → Goal
lane handed_in = cond handed_in goal.Lane goal.NoConsumer

-- the name of the lane for the targets `lane:NAME`
abbrev pub lane_name : List ℕ → List ℕ
lane_name name = codes "lane:" ++ name

-- the lane that messages take to an endpoint, or none where they need none
abbrev pub lane_of : Uri → Option (List ℕ)
lane_of (uri.File folder after failed exist) = Some (codes "file")
lane_of (uri.Line host port) = Some (codes "line")
lane_of (uri.Lane name) = Some (lane_name name)
lane_of _ = None

-- out by a lane
abbrev pub out : Option (List ℕ) → List (List ℕ) → Goal
out None lanes = goal.NoConsumer
out (Some name) lanes = lane (is_among name lanes)

unfoldable pub goal_of : RouteSet → Uri → Goal
goal_of s (uri.Direct name) = direct (consumer (uri.Direct name) 0 s.routes)
goal_of s (uri.Seda name size consumers discard) = queue (consumer (uri.Seda name size consumers discard) 0 s.routes)
goal_of s (uri.Log name) = goal.Log
goal_of s u = out (lane_of u) s.names.lanes
