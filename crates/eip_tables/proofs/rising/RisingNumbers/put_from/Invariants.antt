use Rattle.std.proofs.Common.{◌≡◌, ◌+◌, ◌≤◌, ◌++◌}
use Rattle.eip_tables.specs.Numbers.{capacity, numbers_from}
use Rattle.eip_tables.proofs.rising.RisingNumbers.put_from.Given as goal

abbrev pub invariant-loop-index : goal.invariant-loop-index
invariant-loop-index l = record {
  numbers : l.self.numbers ≡ l.fn.self.numbers ++ numbers_from l.first l.index;
  spare : l.fn.self.spare ≤ l.self.spare + l.index;
  capacity : capacity l.fn.self ≤ capacity l.self;
}
