use Rattle.std.proofs.Common.{◌+◌, ◌≤◌, length, vec_capacity}
use Rattle.eip_aggregator.proofs.Together.{IsClosing}
use Rattle.eip_aggregator.proofs.closing.close_all.Given as goal

abbrev pub invariant-loop-number : goal.invariant-loop-number
invariant-loop-number l = record {
  so_far : IsClosing l.cause l.fn.numbers l.numbers l.fn.places l.places l.closed.items;
  spare : length l.closed.items + length l.numbers.keys ≤ vec_capacity l.closed;
}

abbrev pub decreases-loop-number : goal.decreases-loop-number
decreases-loop-number l = length l.numbers.keys
