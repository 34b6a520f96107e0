use Rattle.std.proofs.Common.{◌+◌, ◌-◌, ◌≤◌, length}
use Rattle.eip_route_grammar.proofs.Places.{NoneFrom}
use Rattle.eip_route_grammar.proofs.known.place_of.Given as goal

abbrev pub invariant-loop-low : goal.invariant-loop-low
invariant-loop-low l = record {
  below : l.low ≤ l.high;
  within : l.high ≤ length l.places;
  none : NoneFrom l.text l.places l.low l.high;
}

abbrev pub decreases-loop-low : goal.decreases-loop-low
decreases-loop-low l = l.low + (length l.places - l.high)
