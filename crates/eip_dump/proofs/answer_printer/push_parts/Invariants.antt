use Rattle.std.proofs.Common.{◌≡◌, ◌++◌, string_bytes, drop, take}
use Rattle.std.specs.List.{flat_map}
use Rattle.eip_dump.specs.Kept.{AreEnded}
use Rattle.eip_dump.specs.Lines.{ended_text}
use Rattle.eip_dump.proofs.answer_printer.push_parts.Given as goal

abbrev pub invariant-loop-part : goal.invariant-loop-part
invariant-loop-part l = record {
  text : string_bytes l.out ++ flat_map ended_text (drop l.part-index l.parts) ≡ string_bytes l.fn.out ++ flat_map ended_text l.parts;
  kept : AreEnded (take l.part-index l.parts);
}
