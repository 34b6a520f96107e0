use Rattle.std.proofs.Common.{◌≡◌, ◌≤◌, ℕ, ◌+◌, ◌-◌, ◌<◌, ◌++◌, map, vec_len, vec_capacity, slice_index_or}
use Rattle.std.specs.Prelude.{reverse}
use Rattle.eip_turnstile.specs.Seats.{knows}
use Rattle.eip_crew.specs.Crew.{IsNew, Splits}
use Rattle.eip_crew.proofs.seats.seat_workers.Given as goal

abbrev pub invariant-loop : goal.invariant-loop
invariant-loop g l = record {
  sources : l.fn.sets.items ≡ map (λ w. w.sources) l.workers.items ++ reverse l.sets.items;
  lanes : l.fn.lane_lists.items ≡ map (λ w. w.lanes) l.workers.items ++ reverse l.lane_lists.items;
  inlets : l.fn.inlet_lists.items ≡ map (λ w. w.inlets) l.workers.items ++ reverse l.inlet_lists.items;
  seats : (k : ℕ) (d : _) → k < l.counter → IsNew l.fn.first ((knows l.fn.first).made + k) (slice_index_or l.workers.items k d).seat;
  first : Splits l.counter l.fn.first l.first;
  seated : vec_len l.workers ≡ l.counter;
  left : vec_len l.lane_lists + l.counter ≡ vec_len l.fn.lane_lists;
  alike : (vec_len l.sets ≡ vec_len l.lane_lists) × (vec_len l.inlet_lists ≡ vec_len l.lane_lists);
  spare : vec_len l.fn.lane_lists ≤ vec_capacity l.workers;
  kept : (vec_capacity l.lane_lists ≡ vec_capacity l.fn.lane_lists) × (vec_capacity l.inlet_lists ≡ vec_capacity l.fn.inlet_lists);
}
