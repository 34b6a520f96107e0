use Rattle.std.proofs.Common.{◌≡◌, ◌≤◌, ◌+◌, ◌++◌, List, length, map, vec_len, vec_capacity}
use Rattle.std.specs.Prelude.{reverse}
use Rattle.eip_crew.specs.Crew.{own_of, Gathers}
use Rattle.eip_crew.proofs.seats.unseat_workers.Given as goal

abbrev pub invariant-loop : goal.invariant-loop
invariant-loop g l = record {
  cut : (rest : List _) × (l.fn.workers.items ≡ l.workers.items ++ rest) × (length rest ≡ l.counter)
      × Gathers (map (λ w. own_of w.seat) rest) l.fn.first l.first
      × (l.lane_lists.items ≡ reverse (map (λ w. w.lanes) rest)) × (l.inlet_lists.items ≡ reverse (map (λ w. w.inlets) rest));
  left : vec_len l.workers + l.counter ≡ vec_len l.fn.workers;
  filled : (vec_len l.lane_lists ≡ l.counter) × (vec_len l.inlet_lists ≡ l.counter);
  spare : (vec_len l.fn.workers ≤ vec_capacity l.lane_lists) × (vec_len l.fn.workers ≤ vec_capacity l.inlet_lists);
}
