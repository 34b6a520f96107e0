use Rattle.std.specs.List.Sorted.{IsStrictlySortedBy}
use Rattle.eip_aggregator.specs.Tables.{is_by, due_number}
use Rattle.eip_ordered.proofs.Pairs.{by_first}
use Rattle.eip_aggregator.proofs.Gathering.{Gathers}
use Rattle.eip_aggregator.proofs.places.numbers_due.Given as goal

abbrev pub invariant-loop-due : goal.invariant-loop-due
invariant-loop-due l = record {
  sorted : IsStrictlySortedBy by_first l.due-iterator;
  gathers : Gathers (is_by l.tick) due_number l.dues.keys l.due-iterator l.numbers;
}
