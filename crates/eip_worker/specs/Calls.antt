-- What came of one call outside the lock.
use Rattle.std.specs.Prelude.{ℕ, ◌≡◌, List, [], ◌∷◌, Option, Some, None, Ok, Err}
use Rattle.eip_text.specs.declared.memory.NoMemory.{NoMemory}
use Rattle.eip_exchange.specs.declared.birth.Origin.{Origin}
use Rattle.eip_exchange.specs.declared.birth.Origin.TheVariants as origin
use Rattle.eip_route.specs.declared.route.RouteSet.{RouteSet}
use Rattle.eip_endpoint.specs.Inlets.{Act, Gave, Failed, InletView, InletsGrew, inlet_names}
use Rattle.eip_endpoint.specs.Lanes.{LaneView}
use Rattle.eip_endpoint.specs.declared.source.Pulled.TheVariants.{Item, Refused as Turned_down, End}
use Rattle.eip_core.specs.Ticket.{Ticket}
use Rattle.eip_processor.specs.Registered.{RegistryView}
use Rattle.eip_core.specs.Outside.{Asks, acts_from, refusal_of}
use Rattle.eip_shared.specs.declared.outcome.Outcome.{Outcome}
use Rattle.eip_shared.specs.declared.outcome.Outcome.TheVariants.{Settled, GivenUp, Accepted, Refused, Ended, Faulted}

-- the request of a ticket, whose exchange came from there, was answered, or there was no memory for the call, which did nothing
abbrev pub Calls : RouteSet → Origin → Ticket → Outcome → (lanes_old lanes_new : List LaneView) → (inlets_old inlets_new : List InletView) → RegistryView → Type 0
Calls set from t (Settled u a) lanes_old lanes_new inlets_old inlets_new registry =
    (u ≡ t) × Asks set from t.request (Ok a) lanes_old lanes_new inlets_old inlets_new registry
Calls set from t (GivenUp u) lanes_old lanes_new inlets_old inlets_new registry =
    (u ≡ t) × ((f : NoMemory) × Asks set from t.request (Err f) lanes_old lanes_new inlets_old inlets_new registry)
Calls set from t _ lanes_old lanes_new inlets_old inlets_new registry = ⊥

-- the inlet of a source did exactly this
abbrev pub Came : RouteSet → ℕ → List Act → (inlets_old inlets_new : List InletView) → Type 0
Came set source acts inlets_old inlets_new = InletsGrew 0 (acts_from set (inlet_names inlets_old) source acts) inlets_old inlets_new

-- a pull of this source came to this
abbrev pub Pulls : RouteSet → ℕ → Outcome → (inlets_old inlets_new : List InletView) → Type 0
Pulls set source (Accepted s item m) inlets_old inlets_new =
    (s ≡ source) × (m.properties ≡ []) × Came set source (Gave (Item item m) ∷ []) inlets_old inlets_new
Pulls set source (Refused s item cause) inlets_old inlets_new = (s ≡ source) × Came set source (Gave (Turned_down item (refusal_of cause)) ∷ []) inlets_old inlets_new
Pulls set source (Ended s) inlets_old inlets_new = (s ≡ source) × Came set source (Gave End ∷ []) inlets_old inlets_new
Pulls set source (Faulted s) inlets_old inlets_new = (s ≡ source) × Came set source (Failed ∷ []) inlets_old inlets_new
Pulls set source _ inlets_old inlets_new = ⊥

-- the origin of an exchange, as far as a call is told it: that of a source, or one that nobody asks for
abbrev pub origin_told : Option (ℕ × List ℕ) → Origin
origin_told (Some x) = origin.Source x.0 x.1
origin_told None = origin.Group 0
