use Rattle.std.proofs.Common.{◌≡◌, ◌≤◌, ◌-◌, ◌+◌, length}
use Rattle.eip_ledger.proofs.journal.add_letters.Given as goal

abbrev pub invariant-loop-index : goal.invariant-loop-index
invariant-loop-index l = record {
  more : length l.fn.letters.items ≤ length l.letters.items;
  many : length l.letters.items ≡ l._index;
  within : length l.letters.items ≤ length l.fn.letters.items + (l.fn.count - length l.fn.letters.items);
}
