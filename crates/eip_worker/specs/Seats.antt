-- A worker with its seat, before and behind what it did.
use Rattle.std.specs.Prelude.{◌≡◌, List, Option, Some, None}
use Rattle.atomic_table.specs.Seated.{TableId}
use Rattle.eip_route.specs.declared.route.RouteSet.{RouteSet}
use Rattle.eip_endpoint.specs.Inlets.{InletView}
use Rattle.eip_endpoint.specs.Lanes.{LaneView}
use Rattle.eip_processor.specs.Registered.{RegistryView}
use Rattle.eip_turnstile.specs.Seats.{lock_of, knows}
use Rattle.eip_turnstile.specs.declared.seat.Seat.{Seat}
use Rattle.eip_shared.specs.declared.beginning.Beginning.{Beginning}
use Rattle.eip_shared.specs.declared.deed.Deed.{Deed}
use Rattle.eip_worker.specs.Serves.{IsReady, Served}

module _ {X : Type 0} {g : _} where
  -- the worker has a seat of this turnstile, and may work
  abbrev pub MaySit : Beginning → TableId → Option (Seat X Deed Beginning g) → RouteSet → List LaneView → List InletView → RegistryView → Type 0
  MaySit start id (Some s) sources lanes inlets registry = (lock_of s ≡ id) × IsReady start (knows s) sources lanes inlets registry
  MaySit start id None sources lanes inlets registry = ⊥

  -- what the seat was and is, and what was done meanwhile
  abbrev pub Sat : Beginning → (old new : Option (Seat X Deed Beginning g)) → (lanes_old lanes_new : List LaneView) → (inlets_old inlets_new : List InletView) → RegistryView → Type 0
  Sat start (Some s) (Some t) lanes_old lanes_new inlets_old inlets_new registry =
      (lock_of t ≡ lock_of s) × Served start (knows s) (knows t) lanes_old lanes_new inlets_old inlets_new registry
  Sat start _ _ lanes_old lanes_new inlets_old inlets_new registry = ⊥
