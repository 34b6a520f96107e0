use Rattle.std.proofs.Common.{◌≡◌, ◌++◌, string_bytes, drop}
use Rattle.eip_dump.specs.Dump.{lines}
use Rattle.eip_dump.proofs.dump_printer.push_entries.Given as goal

abbrev pub invariant-loop-entry : goal.invariant-loop-entry
invariant-loop-entry l = string_bytes l.out ++ lines (drop l.entry-index l.entries) ≡ string_bytes l.fn.out ++ lines l.entries
