use Rattle.eip_aggregator.specs.Tables.{is_forced, group_number}
use Rattle.eip_aggregator.proofs.Gathering.{Gathers}
use Rattle.eip_aggregator.proofs.places.numbers_forced.Given as goal

abbrev pub invariant-loop-number : goal.invariant-loop-number
invariant-loop-number l = Gathers is_forced group_number l.groups.entries l.number-iterator l.numbers
