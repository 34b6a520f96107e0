use Rattle.std.proofs.Common.{◌≡◌, ◌++◌, drop}
use Rattle.std.specs.Prelude.{string_bytes}
use Rattle.eip_simple_read.specs.Spelling.{parts_text}
use Rattle.eip_simple_read.proofs.printing.printed_parts.Given as goal

abbrev pub invariant-loop-part : goal.invariant-loop-part
invariant-loop-part l = string_bytes l.out ++ parts_text (drop l.part-index l.parts) ≡ parts_text l.parts
