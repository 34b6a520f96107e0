use Rattle.std.proofs.Common.{◌≡◌, ◌+◌, ◌≤◌, drop}
use Rattle.eip_exchange.specs.Headers.{counted}
use Rattle.eip_exchange.proofs.headers.count.Given as goal

abbrev pub invariant-loop-pair : goal.invariant-loop-pair
invariant-loop-pair l = record {
  so_far : l.count + counted (drop l.pair-index l.pair-items) ≡ counted l.pair-items;
  few : l.count ≤ l.pair-index;
}
