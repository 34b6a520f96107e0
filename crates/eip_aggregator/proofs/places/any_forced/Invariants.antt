use Rattle.std.proofs.Common.{◌≡◌}
use Rattle.std.specs.List.{list_any}
use Rattle.eip_aggregator.specs.Tables.{is_forced}
use Rattle.eip_aggregator.proofs.places.any_forced.Given as goal

abbrev pub invariant-loop-number : goal.invariant-loop-number
invariant-loop-number l = list_any is_forced l.groups.entries ≡ list_any is_forced l.number-iterator
