use Rattle.std.proofs.Common.{◌≡◌, length}
use Rattle.eip_dump.proofs.ReadLines.{SoFar}
use Rattle.eip_dump.proofs.dump_reader.read_lines.Given as goal

abbrev pub invariant-loop-entry : goal.invariant-loop-entry
invariant-loop-entry l = record {
  so_far : SoFar l.count l.journal.past l.bytes l.rest l.entries;
  workers : l.journal.workers ≡ l.fn.journal.workers;
  turns : l.journal.turns ≡ l.fn.journal.turns;
}

abbrev pub decreases-loop-entry : goal.decreases-loop-entry
decreases-loop-entry l = length l.rest
