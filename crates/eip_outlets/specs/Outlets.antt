-- Which worker an exchange's request belongs to, by the names of lanes and inlets that the set has.
use Rattle.std.specs.Prelude.{ℕ, ◌==◌, Bool, true, false, List, Option, Some, None, bytes_eq, slice_get, unwrap_or}
use Rattle.eip_exchange.specs.declared.birth.Origin.{Origin}
use Rattle.eip_exchange.specs.declared.birth.Origin.TheVariants as from
use Rattle.eip_frames.specs.declared.request.Request.{Request}
use Rattle.eip_frames.specs.declared.request.Request.TheVariants.{Send, Finish}
use Rattle.eip_route.specs.declared.route.RouteSet.{RouteSet}
use Rattle.eip_endpoint.specs.Lanes.{first_named}
use Rattle.eip_endpoint.specs.Outside.{lane_of}
use Rattle.eip_history.specs.Births.{Asked}
use Rattle.eip_history.specs.Owner.{owner, Outlets, outlet_by}
use Rattle.eip_outlets.specs.Doors.{inlet_at}

-- the lanes and inlets of a set, by the order of its names
abbrev pub outlets : RouteSet → Outlets
outlets set = record {
  inlet = λ t. unwrap_or (inlet_at set.names.inlets (slice_get set.routes t)) 0;
  lane = λ t. unwrap_or (first_named (lane_of t) set.names.lanes) 0;
}

-- the route whose source an exchange came from
abbrev pub route_from : Origin → Option ℕ
route_from (from.Source t item) = Some t
route_from _ = None

-- the lane of a Send, or the inlet that a Finish with commit tells, where the exchange came from this source
abbrev pub outlet_from : Outlets → Option ℕ → Request → Option ℕ
outlet_from o route (Send t m) = Some (o.lane t)
outlet_from o (Some t) (Finish e m true) = Some (o.inlet t)
outlet_from o route _ = None

-- is it the worker who owns this lane or inlet; what is none of them is everybody's
abbrev pub is_owner : ℕ → ℕ → Option ℕ → Bool
is_owner workers w (Some e) = w == owner workers e
is_owner workers w None = true

-- may this worker ask what an exchange asks
abbrev pub is_owned : RouteSet → (workers w : ℕ) → Option Asked → Bool
is_owned set workers w k = is_owner workers w (outlet_by (outlets set) k)

-- what stands behind the word is this name
abbrev pub is_rest : Option (List ℕ) → List ℕ → Bool
is_rest None name = false
is_rest (Some rest) name = bytes_eq rest name
